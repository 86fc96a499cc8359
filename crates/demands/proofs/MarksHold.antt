-- The promises of reordering marks hold.
-- Assumes nothing.
use mathlib.Core.Path.{◌≡◌, refl, sym, ap, ◌∙◌}
use mathlib.Core.List.{[]}
use Prim.Native.Nat.{◌≤◌}
use native.Mathlib.Omega.{arith}
use lib.Dec.{eqb}
use lib.ListN.{length}
use Rattle.std.specs.Prelude.{Ok, Err}
use Rattle.refusals.specs.Numbers.{said}
use Rattle.refusals.proofs.VerdictLaws.{refused_number}
use Rattle.refusals.proofs.LeftLaws.{left-number, left-accepted}
use Rattle.refusals.proofs.PromiseLaws.{kept}
use Rattle.marks.specs.declared.Merged.{Merged}
use Rattle.marks.specs.declared.Merged.TheVariants.{Nothing, One, Two}
use Rattle.marks.specs.Passes.{reorder_classes, new_class_lem}
use Rattle.marks.specs.Reordered.{ReorderRequest, Columns, ReorderOutcome, reorder_outcome, listed, part, new_part, reordered, ranges_of, reorder_refusal, Answer, ranges_said, Reordering}
use Rattle.marks.proofs.ReorderedLaws.{same_answer, Allowed, allowed, length_part, part_afterwards}
use Rattle.marks.proofs.UtrLaws.{passes-utr53, passes-arranged, number-passes, plain_passes}
use Rattle.demands.specs.Marks.{Promised, OnlyThePart, ByUtr53, Arranged, NothingLost, OthersStay, AtMostTwo, RangeOfEach, ChangesMerged}
use Rattle.demands.proofs.PartLaws.{outside-codes, outside-classes}
use Rattle.demands.proofs.RangeLaws.{ranges-within, ranges-of-each, columns-outside}

-- what the call leaves if it is refused, and if it is not
abbrev old : Columns → ReorderOutcome
old c = reorder_outcome [] c

abbrev new : ReorderRequest → Columns → ReorderOutcome
new q c = reorder_outcome (ranges_of q c) (reordered q c)

pub promised : Promised
unfolding reorder_refusal
promised =
    kept {told = λ r d. reorder_outcome (ranges_said r) d} {old = old} {new = new}
    (record {
      says = λ q c r d x. x;
      rising = λ q c. refl;
      fixed = λ r u d e n o. (same_answer r u n (ap (λ (x : ReorderOutcome). x.ranges) o), ap (λ (x : ReorderOutcome). x.columns) o);
      idle = λ r c d o. (ap (λ (x : ReorderOutcome). x.columns) o, ap (λ (x : ReorderOutcome). x.ranges) o);
    })

-- an accepted request: the columns, the ranges and the part afterwards
module _ (q : ReorderRequest) (c : Columns) (r : Answer) (d : Columns) (x : Reordering q c r d) (z : said r ≡ 0) where
  accepted : Allowed q c
  accepted = allowed q c (sym (left-number (reorder_refusal q c) (old c) (new q c) (said r) (reorder_outcome (ranges_said r) d) x) ∙ z)

  left : reorder_outcome (ranges_said r) d ≡ new q c
  left = left-accepted (reorder_refusal q c) (old c) (new q c) (said r) (reorder_outcome (ranges_said r) d) x z

  columns-left : d ≡ reordered q c
  columns-left = ap (λ (o : ReorderOutcome). o.columns) left

  ranges-left : ranges_said r ≡ ranges_of q c
  ranges-left = ap (λ (o : ReorderOutcome). o.ranges) left

  part_left : part q d ≡ new_part q c
  part_left = ap (part q) columns-left ∙ part_afterwards q c accepted

pub only_the_part : OnlyThePart
only_the_part q c r d x z = let a = accepted q c r d x z in rw (columns-left q c r d x z) (outside-codes q c a, outside-classes q c a)

pub by-utr53 : ByUtr53
by-utr53 q c r d x z up = rw (part_left q c r d x z) (passes-utr53 q.low q.high (part q c) up)

pub is-arranged : Arranged
is-arranged q c r d x z up = part_left q c r d x z ∙ passes-arranged q.low q.high (part q c) up

pub nothing-lost : NothingLost
nothing-lost q c r d x z code = rw (part_left q c r d x z) (number-passes (λ y. eqb y code) (new_class_lem q.low q.high) reorder_classes (part q c))

pub others_stay : OthersStay
others_stay q c r d x z = rw (part_left q c r d x z) (plain_passes (new_class_lem q.low q.high) reorder_classes (part q c))

two-listed : (m : Merged) → length (listed m) ≤ 2
two-listed Nothing = omega arith
two-listed (One a) = omega arith
two-listed (Two a b) = omega arith

pub at_most_two : AtMostTwo
at_most_two q c (Ok m) d x =
    (two-listed m, rw (ranges-left q c (Ok m) d x refl) (ranges-within q q.start reorder_classes (part q c) (omega arith) (omega (arith, length_part q c (accepted q c (Ok m) d x refl)))))
at_most_two q c (Err k) d x = (omega arith, tt)

pub range_of-each : RangeOfEach
range_of-each q c r d x z up = ranges-left q c r d x z ∙ ranges-of-each q.start (part q c) up

pub changes-merged : ChangesMerged
changes-merged q c (Ok m) d x p h =
    let e = ranges-left q c (Ok m) d x refl in
    rw (columns-left q c (Ok m) d x refl) (columns-outside q c (accepted q c (Ok m) d x refl) p (λ u. h (rw e u)))
changes-merged q c (Err k) d x p h = rw (promised.refused_stays q c (Err k) d x (refused_number k)).0 (refl, refl)
