-- A block that gets its number mark by mark (`Numbering`): how it begins, goes on and ends.
-- Assumes nothing.
use mathlib.Core.Path.{◌≡◌, refl, sym, ap, ◌∙◌}
use mathlib.Core.Bool.{true, false}
use mathlib.Core.List.{List, [], ◌∷◌, ◌++◌}
use Prim.Native.Nat.{ℕ, ◌+◌, ◌≤◌, ◌<◌}
use native.Mathlib.Omega.{arith}
use lib.ListN.{length, get_or, take, drop, set, length-set, take-append-drop, drop_of_length-le}
use lib.Seq.{drop-set-lt}
use Rattle.laws.specs.Lists.{front, behind}
use Rattle.laws.proofs.ListLaws.{front-more, front_fails, front_ends}
use Rattle.laws.proofs.LoopLaws.{drop-next, fill_next}
use Rattle.blocks.specs.Marks.{Mark, mark, marks}
use Rattle.blocks.proofs.MarkLaws.{nothing, length-marks, marks-at}
use Rattle.blocks.proofs.BlockLaws.{marks-class}
use Rattle.marks.specs.Passes.{moves, renumber, numbered}

-- what is still to become of marks from j on, where the block of a class gets the number k
abbrev ahead : ℕ → ℕ → List Mark → List Mark
ahead class k l = numbered k (front (moves class) l) ++ behind (moves class) l

-- the classes of a block that begins at i, of which those before j have their number
pub record Numbering (codes classes₀ : List ℕ) (i class new : ℕ) (classes : List ℕ) (j : ℕ) : Type 0 where
  pub keep : length classes ≡ length classes₀
  pub ends : i + length (front (moves class) (drop i (marks codes classes₀))) ≡ j + length (front (moves class) (drop j (marks codes classes₀)))
  pub rest : drop j (marks codes classes) ≡ drop j (marks codes classes₀)
  pub made : take i (marks codes classes₀) ++ ahead class new (drop i (marks codes classes₀)) ≡ take j (marks codes classes) ++ ahead class new (drop j (marks codes classes₀))

pub numbering_begins : (codes classes : List ℕ) (i class new : ℕ) → Numbering codes classes i class new classes i
numbering_begins codes classes i class new = record { keep = refl; ends = refl; rest = refl; made = refl }

module _ {codes classes₀ : List ℕ} {i class new : ℕ} {classes : List ℕ} {j : ℕ} (e : length codes ≡ length classes₀) (p : Numbering codes classes₀ i class new classes j) where
  even : length codes ≡ length classes
  even = e ∙ sym p.keep

  long : length (marks codes classes) ≡ length codes
  long = length-marks codes classes even

  long₀ : length (marks codes classes₀) ≡ length codes
  long₀ = length-marks codes classes₀ e

  -- nothing is left of the block
  over :
      ahead class new (drop j (marks codes classes₀)) ≡ drop j (marks codes classes₀)
      → marks codes classes ≡ take i (marks codes classes₀) ++ ahead class new (drop i (marks codes classes₀))
  over a =
      sym (take-append-drop j (marks codes classes))
      ∙ ap (λ (l : List Mark). take j (marks codes classes) ++ l) (p.rest ∙ sym a)
      ∙ sym p.made

  -- the mark at hand is the one that stood there, and so are those behind it
  module _ (h : j < length codes) where
    apart : drop j (marks codes classes₀) ≡ get_or (marks codes classes₀) j nothing ∷ drop (j + 1) (marks codes classes₀)
    apart = drop-next (marks codes classes₀) j nothing (rw long₀ h)

    both : get_or (marks codes classes) j nothing ∷ drop (j + 1) (marks codes classes) ≡ get_or (marks codes classes₀) j nothing ∷ drop (j + 1) (marks codes classes₀)
    both = sym (drop-next (marks codes classes) j nothing (rw long h)) ∙ p.rest ∙ apart

    same : get_or (marks codes classes₀) j nothing ≡ mark (get_or codes j 0) (get_or classes j 0)
    same = sym (ap (λ (l : List Mark). get_or l 0 nothing) both) ∙ marks-at codes classes j nothing h even

    behind_it : drop (j + 1) (marks codes classes) ≡ drop (j + 1) (marks codes classes₀)
    behind_it = ap (drop 1) both

    -- it belongs to the block
    pub numbering_on : moves class (mark (get_or codes j 0) (get_or classes j 0)) ≡ true → Numbering codes classes₀ i class new (set classes j new) (j + 1)
    numbering_on t =
        let M : List Mark = marks codes classes in
        let M₀ : List Mark = marks codes classes₀ in
        let x : Mark = mark (get_or codes j 0) new in
        let t₀ : moves class (get_or M₀ j nothing) ≡ true = ap (moves class) same ∙ t in
        let written : marks codes (set classes j new) ≡ set M j x = marks-class codes classes j new in
        let next : ahead class new (drop j M₀) ≡ x ∷ ahead class new (drop (j + 1) M₀) =
        ap (ahead class new) apart ∙ rw t₀ (ap (λ (m : Mark). renumber new m ∷ ahead class new (drop (j + 1) M₀)) same)
        in
        record {
          keep = simp length-set p.keep;
          ends = p.ends ∙ front-more (moves class) M₀ j nothing (rw long₀ h) t₀;
          rest = ap (drop (j + 1)) written ∙ drop-set-lt (j + 1) M j x (omega arith) ∙ behind_it;
          made =
              p.made
              ∙ ap (λ (l : List Mark). take j M ++ l) next
              ∙ fill_next M j x (ahead class new (drop (j + 1) M₀)) (rw long h)
              ∙ ap (λ (l : List Mark). take (j + 1) l ++ ahead class new (drop (j + 1) M₀)) (sym written);
        }

    -- it does not
    pub numbering_fails :
        moves class (mark (get_or codes j 0) (get_or classes j 0)) ≡ false
        → (j ≡ i + length (front (moves class) (drop i (marks codes classes₀))))
        × (marks codes classes ≡ take i (marks codes classes₀) ++ ahead class new (drop i (marks codes classes₀)))
    numbering_fails t =
        let t₀ : moves class (get_or (marks codes classes₀) j nothing) ≡ false = ap (moves class) same ∙ t in
        (sym (p.ends ∙ front_fails (moves class) (marks codes classes₀) j nothing (rw long₀ h) t₀), over (ap (ahead class new) apart ∙ rw t₀ (sym apart)))

  -- there is no mark at hand
  pub numbering_ends :
      length codes ≤ j
      → (j ≡ i + length (front (moves class) (drop i (marks codes classes₀))))
      × (marks codes classes ≡ take i (marks codes classes₀) ++ ahead class new (drop i (marks codes classes₀)))
  numbering_ends h =
      let none : drop j (marks codes classes₀) ≡ [] = drop_of_length-le (marks codes classes₀) {i = j} (rw long₀ h) in
      (sym (p.ends ∙ front_ends (moves class) (marks codes classes₀) j (rw long₀ h)), over (ap (ahead class new) none ∙ sym none))
