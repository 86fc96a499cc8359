-- Entries of a plan: their bytes, of two lists of entries (`all_append`) and of one entry more (`all_more`); a number more in seven places (`pad_more`).
-- Assumes nothing.
use mathlib.Core.Path.{◌≡◌, refl, sym, ap, ◌∙◌}
use mathlib.Core.List.{List, [], ◌∷◌, ◌++◌, append_assoc, append-nil, map, map-append}
use Prim.Native.Nat.{ℕ, ◌<◌}
use native.Mathlib.Omega.{arith}
use lib.ListN.{length, drop, set, length-map}
use Rattle.drafts.specs.Entries.{Entry, bytes_of, all_bytes, seven, padded}

pub all_append : (a b : List Entry) → all_bytes (a ++ b) ≡ all_bytes a ++ all_bytes b
unfolding all_bytes
all_append [] b = refl
all_append (e ∷ a) b = ap (λ (l : List ℕ). bytes_of e ++ l) (all_append a b) ∙ sym (append_assoc (bytes_of e) (all_bytes a) (all_bytes b))

pub all_more : (a : List Entry) (e : Entry) → all_bytes (a ++ (e ∷ [])) ≡ all_bytes a ++ bytes_of e
unfolding all_bytes
all_more a e = all_append a (e ∷ []) ∙ ap (λ (l : List ℕ). all_bytes a ++ l) (append-nil (bytes_of e))

-- a number stored behind others, over what was there
stored : (l z : List ℕ) (x : ℕ) → length l < length z → set (l ++ drop (length l) z) (length l) x ≡ (l ++ (x ∷ [])) ++ drop (length (l ++ (x ∷ []))) z
stored [] [] x h = absurd (omega arith)
stored [] (w ∷ z) x h = refl
stored (y ∷ l) [] x h = absurd (omega arith)
stored (y ∷ l) (w ∷ z) x h = ap (λ (m : List ℕ). y ∷ m) (stored l z x (omega arith))

-- an entry more: its number stored behind those of the others
pub pad_more : (f : Entry → ℕ) (a : List Entry) (e : Entry) → length a < 7 → set (padded (map f a)) (length a) (f e) ≡ padded (map f (a ++ (e ∷ [])))
pad_more f a e h =
    let n : length (map f a) ≡ length a = length-map a f in
    ap (λ (k : ℕ). set (padded (map f a)) k (f e)) (sym n) ∙ stored (map f a) seven (f e) (omega arith) ∙ ap padded (sym (map-append f a (e ∷ [])))
