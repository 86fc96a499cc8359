-- The answers of a writer: one is known by its number and its length (`same_answer`); when each number is given (`uneven-given`, `range_given`, `offset-given`, `room-given`) and when none is
-- (`Allowed`, `allowed`, `none-given`); a known component number is one of two (`two-or-three`); what a refused call answers and leaves (`written_refused`), and one that wrote all words (`written_all`).
-- Assumes nothing.
use mathlib.Core.Path.{◌≡◌, refl, sym, ap, ap₂, ◌∙◌}
use mathlib.Core.Bool.{Bool, true, false, not, ◌||◌, false≢true}
use mathlib.Core.Logic.{◌⊎◌, inl, inr}
use mathlib.Core.List.{List, [], ◌∷◌, ◌++◌}
use Prim.Native.Nat.{ℕ, ◌*◌, ◌<◌, ◌≤◌}
use native.Mathlib.Omega.{arith}
use borrow.Author.Tests.{not-false, eqb-true, ltb-false, eq-eqb, ne_eqb, lt-ltb, le-ltb}
use lib.Dec.{eqb, ltb}
use lib.ListN.{length, drop}
use Rattle.std.specs.Prelude.{Ok, Err}
use Rattle.laws.specs.Rows.{Given}
use Rattle.laws.proofs.RowLaws.{first-none}
use Rattle.refusals.specs.declared.Refusal.{Refusal}
use Rattle.refusals.specs.Numbers.{number_of, said}
use Rattle.refusals.proofs.VerdictLaws.{same-said, refused_number}
use Rattle.refusals.proofs.LeftLaws.{left_refused, left-done}
use Rattle.words.specs.Words.{bytes, Wrote}
use Rattle.words.proofs.WordLaws.{length-bytes, paste_front}
use Rattle.words.proofs.WroteLaws.{ended}
use Rattle.layouts.specs.declared.Kind.TheVariants.{Ligature}
use Rattle.layouts.specs.Lookups.{Lookup, width, known, words_of, fits}
use Rattle.layouts.specs.Written.{Written, write_outcome, write_refusal, length_said, Writing}

-- ---- an answer is known by what it says
pub same_answer : (r u : Written) → said r ≡ said u → length_said r ≡ length_said u → r ≡ u
same_answer (Ok n) (Ok m) e f = ap Ok f
same_answer (Ok n) (Err k) e f = absurd (refused_number k (sym e))
same_answer (Err k) (Ok n) e f = absurd (refused_number k e)
same_answer (Err k) (Err l) e f =
    let v = same-said (Err k) (Err l) e in
    let same : k ≡ l = cc in
    ap Err same

-- ---- when a number is given
-- "component number other than 2 or 3"
pub two-or-three : (n : ℕ) → known (Ligature n) ≡ true → (n ≡ 2) ⊎ (n ≡ 3)
two-or-three n e = go (eqb n 2) (eqb n 3) refl refl e
  where
    go : (a b : Bool) → eqb n 2 ≡ a → eqb n 3 ≡ b → (a || b) ≡ true → (n ≡ 2) ⊎ (n ≡ 3)
    go true b p q e = inl (eqb-true n 2 p)
    go false true p q e = inr (eqb-true n 3 q)
    go false false p q e = absurd (false≢true e)

-- of the rows that writing uses, none applies
pub record Allowed (l : Lookup) (room : ℕ) : Type 0 where
  pub even : length l.glyphs ≡ length l.substitutes * width l.kind
  pub in_range : known l.kind ≡ true
  pub small : fits (words_of l) ≡ true
  pub enough : 2 * length (words_of l) ≤ room

module _ (l : Lookup) (room : ℕ) where
  pub allowed : write_refusal l room ≡ 0 → Allowed l room
  unfolding write_refusal
  allowed z =
      let uneven = not (eqb (length l.glyphs) (length l.substitutes * width l.kind)) in
      let strange = not (known l.kind) in
      let wide = not (fits (words_of l)) in
      let short = ltb room (2 * length (words_of l)) in
      let a = first-none 0 uneven (Given 3 strange ∷ Given 5 wide ∷ Given 8 short ∷ []) z in
      let b = first-none 2 strange (Given 5 wide ∷ Given 8 short ∷ []) a.1 in
      let c = first-none 4 wide (Given 8 short ∷ []) b.1 in
      let d = first-none 7 short [] c.1 in
      record {
        even = eqb-true _ _ (not-false _ a.0);
        in_range = not-false _ b.0;
        small = not-false _ c.0;
        enough = ltb-false _ _ d.0;
      }

  pub uneven-given : (length l.glyphs ≡ length l.substitutes * width l.kind → ⊥) → write_refusal l room ≡ 1
  unfolding write_refusal
  uneven-given d = rw (ne_eqb (length l.glyphs) (length l.substitutes * width l.kind) d)

  module _ (even : length l.glyphs ≡ length l.substitutes * width l.kind) where
    pub range_given : known l.kind ≡ false → write_refusal l room ≡ 3
    unfolding write_refusal
    range_given k = rw (eq-eqb (length l.glyphs) (length l.substitutes * width l.kind) even, k)

    module _ (in_range : known l.kind ≡ true) where
      pub offset-given : fits (words_of l) ≡ false → write_refusal l room ≡ 5
      unfolding write_refusal
      offset-given w = rw (eq-eqb (length l.glyphs) (length l.substitutes * width l.kind) even, in_range, w)

      pub room-given : fits (words_of l) ≡ true → room < 2 * length (words_of l) → write_refusal l room ≡ 8
      unfolding write_refusal
      room-given w h = rw (eq-eqb (length l.glyphs) (length l.substitutes * width l.kind) even, in_range, w, lt-ltb room (2 * length (words_of l)) h)

  pub none-given : Allowed l room → write_refusal l room ≡ 0
  unfolding write_refusal
  none-given a =
      rw (eq-eqb (length l.glyphs) (length l.substitutes * width l.kind) a.even, a.in_range, a.small, le-ltb room (2 * length (words_of l)) a.enough)

-- ---- what a call answers and leaves
module _ (l : Lookup) (area : List ℕ) where
  pub written_refused : (k : Refusal) → write_refusal l (length area) ≡ number_of k → Writing l area (Err k) area
  written_refused k e = left_refused (write_refusal l (length area)) (write_outcome 0 area) _ (number_of k) (sym e) (refused_number k)

  -- the words written from the start of the area are at its start, and the area past them is untouched
  pub written_all : Allowed l (length area) → {left : List ℕ} {n : ℕ} → Wrote area 0 (words_of l) left n [] → Writing l area (Ok n) left
  written_all a {left} {n} w =
      let long : n ≡ 2 * length (words_of l) = omega (arith, w.place) in
      let there : left ≡ bytes (words_of l) ++ drop (2 * length (words_of l)) area =
      ended w ∙ paste_front (bytes (words_of l)) area ∙ ap (λ (k : ℕ). bytes (words_of l) ++ drop k area) (length-bytes (words_of l))
      in
      left-done (write_refusal l (length area)) (write_outcome 0 area) _ 0 _ (sym (none-given l (length area) a)) refl (ap₂ write_outcome long there)
