-- How far a writer of words has come: it begins (`begin`); one step is after another (`then`); a writer of some words has come that far in more (`frame`, `step`), and has room for them (`room_for`); at the end all is written (`ended`); one word by its bytes (`one_word`);
-- the turns of a loop over a list of words (`next`, `room_next`, `no_more`), and of one that writes eight at once (`eight_at`, `next-eight`, `room-eight`).
-- Assumes nothing.
use mathlib.Core.Path.{◌≡◌, refl, sym, ap, subst, ◌∙◌}
use mathlib.Core.List.{List, [], ◌∷◌, ◌++◌}
use Prim.Native.Nat.{ℕ, zero, suc, ◌+◌, ◌*◌, ◌/◌, ◌%◌, ◌≤◌, ◌<◌}
use native.Mathlib.Nat.{add-zero}
use native.Mathlib.Numerals.{add-one}
use native.Mathlib.Omega.{arith}
use lib.ListN.{length, length-set, drop_of_length-le, set, take, drop, get_or, length-append, length-drop, take-append-drop}
use lib.Seq.{drop-cons, drop-drop}
use Rattle.std.specs.Simd.{first_chunks}
use Rattle.laws.specs.Lists.{pasted}
use Rattle.laws.proofs.PasteLaws.{length-pasted, paste_none, paste_one, paste_behind}
use Rattle.words.specs.Words.{bytes, Wrote}
use Rattle.words.proofs.WordLaws.{length-bytes, bytes-append}

pub begin : (d : List ℕ) (i : ℕ) (ws : List ℕ) → i + 2 * length ws ≤ length d → Wrote d i ws d i ws
begin d i ws h = record { room = h; place = refl; same = refl; made = refl }

pub then : {d : List ℕ} {i : ℕ} {ws : List ℕ} {d' : List ℕ} {j : ℕ} {r : List ℕ} {d'' : List ℕ} {k : ℕ} {r' : List ℕ} → Wrote d i ws d' j r → Wrote d' j r d'' k r' → Wrote d i ws d'' k r'
then p q = record { room = p.room; place = q.place ∙ p.place; same = q.same ∙ p.same; made = q.made ∙ p.made }

-- what is there when nothing is to come
pub ended : {d : List ℕ} {i : ℕ} {ws : List ℕ} {d' : List ℕ} {j : ℕ} → Wrote d i ws d' j [] → d' ≡ pasted (bytes ws) i d
unfolding bytes
ended {d'} {j} p = sym (paste_none j d') ∙ p.made

-- words behind words
pub paste_words : (d : List ℕ) (i : ℕ) (a b : List ℕ) (j : ℕ) → j ≡ i + 2 * length a → j + 2 * length b ≤ length d → pasted (bytes b) j (pasted (bytes a) i d) ≡ pasted (bytes (a ++ b)) i d
paste_words d i a b j e h =
    paste_behind (bytes a) (bytes b) d i j (omega (arith, length-bytes a)) (omega (arith, length-bytes b))
    ∙ ap (λ (x : List ℕ). pasted x i d) (sym (bytes-append a b))

-- a writer of some words has come that far in more
pub frame : {d : List ℕ} {i : ℕ} {a : List ℕ} {d' : List ℕ} {j : ℕ} (r : List ℕ) → i + 2 * length (a ++ r) ≤ length d → Wrote d i a d' j [] → Wrote d i (a ++ r) d' j r
frame {d} {i} {a} {d'} {j} r h p =
    let e : j ≡ i + 2 * length a = sym (add-zero j) ∙ p.place in
    let n = length-append a r in
    record {
      room = h;
      place = omega (arith, n);
      same = p.same;
      made = rw (ended p) (paste_words d i a r j e (omega (arith, n)));
    }

pub step : {d : List ℕ} {i : ℕ} {ws : List ℕ} {d' : List ℕ} {j : ℕ} {a : List ℕ} (r : List ℕ) {d'' : List ℕ} {k : ℕ} → Wrote d i ws d' j (a ++ r) → Wrote d' j a d'' k [] → Wrote d i ws d'' k r
step r p q = then p (frame r (omega (arith, p.room, p.place, p.same)) q)

-- there is room for what comes next
pub room_for : {d : List ℕ} {i : ℕ} {ws : List ℕ} {d' : List ℕ} {j : ℕ} (a r : List ℕ) → Wrote d i ws d' j (a ++ r) → j + 2 * length a ≤ length d'
room_for a r p = omega (arith, p.room, p.place, p.same, length-append a r)

-- one word, by its bytes
pub one_word : (d : List ℕ) (i w : ℕ) → i + 2 ≤ length d → Wrote d i (w ∷ []) (set (set d i (w / 256)) (i + 1) (w % 256)) (i + 2) []
unfolding bytes
one_word d i w h =
    record {
      room = h;
      place = omega arith;
      same = simp length-set;
      made =
          paste_none _ _
          ∙ rw (paste_one (w / 256) i d (omega arith))
          (paste_one (w % 256) (i + 1) (pasted (w / 256 ∷ []) i d) (omega (arith, length-pasted (w / 256 ∷ []) i d (omega arith)))
          ∙ paste_behind (w / 256 ∷ []) (w % 256 ∷ []) d i (i + 1) refl (omega arith));
    }

-- ---- a turn of a loop over a list of words
module _ {d : List ℕ} {i : ℕ} {all : List ℕ} {d' : List ℕ} {j : ℕ} (ws : List ℕ) (k : ℕ) where
  pub next : {d'' : List ℕ} {j' : ℕ} → k < length ws → Wrote d i all d' j (drop k ws) → Wrote d' j (get_or ws k 0 ∷ []) d'' j' [] → Wrote d i all d'' j' (drop (k + 1) ws)
  next h p q = rw add-one (step (drop (suc k) ws) (rw (drop-cons ws k 0 h) at p) q)

  pub room_next : k < length ws → Wrote d i all d' j (drop k ws) → j + 2 ≤ length d'
  room_next h p = omega (arith, p.room, p.place, p.same, length-drop k ws)

  pub no_more : length ws ≤ k → Wrote d i all d' j (drop k ws) → Wrote d i all d' j []
  no_more h p = rw (drop_of_length-le ws {i = k} h) at p

-- ---- eight words at once
-- of a list cut into eights, the one at place k
pub eight_at : (ws : List ℕ) (n k : ℕ) → k < n → get_or (first_chunks 8 n ws) k [] ≡ take 8 (drop (8 * k) ws)
eight_at ws zero k h = absurd (omega arith)
eight_at ws (suc n) zero h = refl
eight_at ws (suc n) (suc k) h =
    let e : 8 + 8 * k ≡ 8 * suc k = omega arith in
    eight_at (drop 8 ws) n k (omega arith) ∙ ap (take 8) (drop-drop (8 * k) 8 ws ∙ rw e)

module _ {d : List ℕ} {i : ℕ} {all : List ℕ} {d' : List ℕ} {j : ℕ} (ws : List ℕ) (k : ℕ) where
  pub next-eight : {d'' : List ℕ} {j' : ℕ} → Wrote d i all d' j (drop (8 * k) ws) → Wrote d' j (take 8 (drop (8 * k) ws)) d'' j' [] → Wrote d i all d'' j' (drop (8 * (k + 1)) ws)
  next-eight p q =
      let same : 8 * k + 8 ≡ 8 * (k + 1) = omega arith in
      let split : drop (8 * k) ws ≡ take 8 (drop (8 * k) ws) ++ drop (8 * (k + 1)) ws =
      sym (take-append-drop 8 (drop (8 * k) ws)) ∙ ap (λ (r : List ℕ). take 8 (drop (8 * k) ws) ++ r) (drop-drop 8 (8 * k) ws ∙ ap (λ (m : ℕ). drop m ws) same) in
      step (drop (8 * (k + 1)) ws) (subst (λ (r : List ℕ). Wrote d i all d' j r) split p) q

  pub room-eight : 8 * (k + 1) ≤ length ws → Wrote d i all d' j (drop (8 * k) ws) → j + 16 ≤ length d'
  room-eight h p = omega (arith, p.room, p.place, p.same, length-drop (8 * k) ws)
