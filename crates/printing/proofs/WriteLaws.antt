-- Bytes written one after the other.
-- Assumes nothing.
use Prim.Native.Nat.{ℕ, zero, suc, ◌+◌, ◌-◌, ◌/◌, ◌%◌, ◌<◌, ◌≤◌, min}
use mathlib.Core.Bool.{Bool, true, false}
use mathlib.Core.List.{List, [], ◌∷◌, ◌++◌}
use mathlib.Core.Path.{◌≡◌, refl, sym, ap, ◌∙◌}
use native.Mathlib.Nat.{add-zero, zero-add, min-eq_left, min-eq_right}
use native.Mathlib.Numerals.{add-one}
use native.Mathlib.Omega.{arith}
use lib.Dec.{ltb}
use lib.ListN.{length, get_or, set, drop, length-set, drop_of_length-le}
use lib.Seq.{sets, set_out}
use borrow.Author.Tests.{lt-ltb, le-ltb, ltb-true, ltb-false}
use Rattle.laws.proofs.LoopLaws.{drop-next}
use Rattle.printing.specs.Printed.{glyph, numeral, places, decimal, name_of, row, rows, heading, printed, refused_word_lem, refused_text}
use Rattle.printing.specs.Writing.{Written, Wrote, wrote, writes, filled}

pub writes-append : (x : Written) (a b : List ℕ) → writes x (a ++ b) ≡ writes (writes x a) b
writes-append x [] b = refl
writes-append x (c ∷ cs) b = writes-append (wrote x c) cs b

-- A turn of a loop: what is left to write at i is the byte there, and what is left behind it.
pub writes-next :
    (x y : Written) (bytes : List ℕ) (i : ℕ) → i < length bytes → y ≡ wrote x (get_or bytes i 0) → writes x (drop i bytes) ≡ writes y (drop (i + 1) bytes)
writes-next x y bytes i h e = ap (writes x) (drop-next bytes i 0 h) ∙ ap (λ (z : Written). writes z (drop (i + 1) bytes)) (sym e)

-- The last digit, behind the others.
pub numeral-last :
    (base n w : ℕ) (x y : Written) (g : ℕ) → (w ≡ 0 → ⊥) → y ≡ writes x (numeral base (w - 1) (n / base)) → g ≡ glyph (n % base)
    → wrote y g ≡ writes x (numeral base w n)
numeral-last base n zero x y g z e f = absurd (z refl)
numeral-last base n (suc w) x y g z e f =
    let one : suc w - 1 ≡ w = omega arith in
    ap (λ (q : Written). wrote q g) (rw one at e)
    ∙ ap (wrote (writes x (numeral base w (n / base)))) f
    ∙ sym (writes-append x (numeral base w (n / base)) (glyph (n % base) ∷ []))

-- ---- rows
-- A row, part by part.
pub row_written :
    (x : Written) (place code width action : ℕ) (p : ℕ) (a b c d e f : Written) → p ≡ places place → a ≡ writes x (numeral 10 p place) → b ≡ wrote a 32
    → c ≡ writes b (numeral 16 width code) → d ≡ wrote c 32 → e ≡ writes d (name_of action) → f ≡ wrote e 10 → f ≡ writes x (row place code width action)
unfolding row
row_written x place code width action p a b c d e f hp ha hb hc hd he hf =
    hf
    ∙ ap (λ (y : Written). wrote y 10) (he ∙ ap (λ (y : Written). writes y (name_of action)) (hd ∙ ap (λ (y : Written). wrote y 32) (hc ∙ ap (λ (y : Written). writes y (numeral 16 width code)) (hb ∙ ap (λ (y : Written). wrote y 32) (ha ∙ ap (λ (q : ℕ). writes x (numeral 10 q place)) hp)))))
    ∙ sym
    (writes-append x (decimal place) (32 ∷ (numeral 16 width code ++ (32 ∷ (name_of action ++ (10 ∷ [])))))
    ∙ writes-append _ (numeral 16 width code) (32 ∷ (name_of action ++ (10 ∷ [])))
    ∙ writes-append _ (name_of action) (10 ∷ []))

rows_no_widths : (place : ℕ) (cs xs : List ℕ) → rows place cs [] xs ≡ []
rows_no_widths place [] xs = refl
rows_no_widths place (c ∷ cs) xs = refl

rows_no_actions : (place : ℕ) (cs ws : List ℕ) → rows place cs ws [] ≡ []
rows_no_actions place [] ws = refl
rows_no_actions place (c ∷ cs) [] = refl
rows_no_actions place (c ∷ cs) (w ∷ ws) = refl

module _ (codes widths actions : List ℕ) (i : ℕ) where
  -- The rows that are left.
  abbrev pub rows_left : List ℕ
  rows_left = rows i (drop i codes) (drop i widths) (drop i actions)

  -- None is left, where the shortest column ends.
  pub rows_end : min (min (length codes) (length widths)) (length actions) ≤ i → rows_left ≡ []
  rows_end = go (ltb i (length codes)) refl (ltb i (length widths)) refl (ltb i (length actions)) refl
    where
      go :
          (a : Bool) → ltb i (length codes) ≡ a → (b : Bool) → ltb i (length widths) ≡ b → (d : Bool) → ltb i (length actions) ≡ d
          → min (min (length codes) (length widths)) (length actions) ≤ i → rows_left ≡ []
      go false e b f d g h = rw (drop_of_length-le codes (ltb-false _ _ e))
      go true e false f d g h = rw (drop_of_length-le widths (ltb-false _ _ f)) (rows_no_widths i (drop i codes) (drop i actions))
      go true e true f false g h = rw (drop_of_length-le actions (ltb-false _ _ g)) (rows_no_actions i (drop i codes) (drop i widths))
      go true e true f true g h = absurd (omega (arith, ltb-true _ _ e, ltb-true _ _ f, ltb-true _ _ g))

-- A row is written: those that are left make of the memory behind it what they made, with the row, of the memory before it.
pub rows_next :
    (codes widths actions : List ℕ) (i : ℕ) (x y : Written) → i < length codes → i < length widths → i < length actions
    → y ≡ writes x (row i (get_or codes i 0) (get_or widths i 0) (get_or actions i 0)) → writes x (rows_left codes widths actions i) ≡ writes y (rows_left codes widths actions (i + 1))
rows_next codes widths actions i x y p q r e =
    rw (drop-next codes i 0 p, drop-next widths i 0 q, drop-next actions i 0 r, e)
    (writes-append x (row i (get_or codes i 0) (get_or widths i 0) (get_or actions i 0)) (rows_left codes widths actions (i + 1)))

-- ---- a whole text from the start of the memory
sets_out : (l vs : List ℕ) (i : ℕ) → length l ≤ i → sets l i vs ≡ l
sets_out l [] i h = refl
sets_out l (v ∷ vs) i h = rw (set_out l i v h) (sets_out l vs (suc i) (omega arith))

wrote-full : (out : List ℕ) (at b : ℕ) → length out ≤ at → wrote (Wrote out at) b ≡ Wrote out at
unfolding wrote
wrote-full out at b h = rw (set_out out at b h, le-ltb at (length out) h)

wrote-fits : (out : List ℕ) (at b : ℕ) → at < length out → wrote (Wrote out at) b ≡ Wrote (set out at b) (suc at)
unfolding wrote
wrote-fits out at b h = rw (lt-ltb at (length out) h, add-one)

writes-full : (out bs : List ℕ) (at : ℕ) → length out ≤ at → writes (Wrote out at) bs ≡ Wrote out at
writes-full out [] at h = refl
writes-full out (b ∷ bs) at h = ap (λ (x : Written). writes x bs) (wrote-full out at b h) ∙ writes-full out bs at h

writes-from : (text out : List ℕ) (at : ℕ) → at ≤ length out → writes (Wrote out at) text ≡ Wrote (sets out at text) (min (at + length text) (length out))
writes-from [] out at h = rw (add-zero at, min-eq_left {n = at} {m = length out} h)
writes-from (b ∷ bs) out at h = go (ltb at (length out)) refl (writes-from bs (set out at b) (at + 1))
  where
    go :
        (t : Bool) → ltb at (length out) ≡ t
        → (at + 1 ≤ length (set out at b) → writes (Wrote (set out at b) (at + 1)) bs ≡ Wrote (sets (set out at b) (at + 1) bs) (min (at + 1 + length bs) (length (set out at b))))
        → writes (wrote (Wrote out at) b) bs ≡ Wrote (sets (set out at b) (suc at) bs) (min (at + suc (length bs)) (length out))
    go true e ih =
        let h : at < length out = ltb-true at (length out) e in
        let same : at + 1 + length bs ≡ at + suc (length bs) = omega arith in
        ap (λ (x : Written). writes x bs) (wrote-fits out at b h)
        ∙ rw (add-one at) at (rw (same, length-set) at (ih (simp length-set (omega arith))))
    go false e ih =
        let full : length out ≤ at = ltb-false at (length out) e in
        ap (λ (x : Written). writes x bs) (wrote-full out at b full)
        ∙ writes-full out bs at full
        ∙ sym (rw (set_out out at b full, sets_out out bs (suc at) (omega arith), min-eq_right {n = length out} {m = at + suc (length bs)} (omega arith)) (ap (Wrote out) (omega arith)))

-- What is written from the start is the text, as much of it as fits.
pub writes-filled : (out text : List ℕ) → writes (Wrote out 0) text ≡ filled out text
writes-filled out text = rw zero-add at (writes-from text out 0 (omega arith))

pub print_filled :
    (out codes widths actions : List ℕ) (x y : Written) → x ≡ writes (Wrote out 0) heading → y ≡ writes x (rows 0 codes widths actions)
    → y ≡ filled out (printed codes widths actions)
unfolding printed
print_filled out codes widths actions x y p q =
    q
    ∙ ap (λ (z : Written). writes z (rows 0 codes widths actions)) p
    ∙ sym (writes-append (Wrote out 0) heading (rows 0 codes widths actions))
    ∙ writes-filled out (heading ++ rows 0 codes widths actions)

pub refused_filled :
    (out : List ℕ) (number p : ℕ) (x y z : Written) → x ≡ writes (Wrote out 0) refused_word_lem → p ≡ places number → y ≡ writes x (numeral 10 p number) → z ≡ wrote y 10
    → z ≡ filled out (refused_text number)
unfolding refused_text
refused_filled out number p x y z hx hp hy hz =
    hz
    ∙ ap (λ (q : Written). wrote q 10) (hy ∙ ap (λ (k : ℕ). writes x (numeral 10 k number)) hp ∙ ap (λ (q : Written). writes q (decimal number)) hx)
    ∙ sym (writes-append (Wrote out 0) refused_word_lem (decimal number ++ (10 ∷ [])) ∙ writes-append (writes (Wrote out 0) refused_word_lem) (decimal number) (10 ∷ []))
    ∙ writes-filled out (refused_word_lem ++ (decimal number ++ (10 ∷ [])))

-- The statements allow one answer and one content of the memory.
pub print_once : {x : Written} {out out' : List ℕ} {r r' : ℕ} → Wrote out r ≡ x → Wrote out' r' ≡ x → (out ≡ out') × (r ≡ r')
print_once p q = (cc, cc)
