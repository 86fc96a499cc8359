-- What is known of the call: an answer is known by its number and its ranges (`same_answer`); a request that is not refused (`Allowed`, `allowed`); the line that it leaves (`part_afterwards`,
-- `before-new_line`, `behind-new_line`, `length-new_line`); a part as it is lent (`part-lent`), and two columns whose part was reordered (`new-columns`).
-- Assumes nothing.
use mathlib.Core.Path.{◌≡◌, refl, sym, ap, ap₂, ◌∙◌}
use mathlib.Core.Bool.{◌||◌, not}
use mathlib.Core.List.{List, [], ◌∷◌, ◌++◌}
use Prim.Native.Nat.{ℕ, ◌+◌, ◌-◌, ◌≤◌}
use native.Mathlib.Omega.{arith}
use borrow.Author.Tests.{not-false, eqb-true, ltb-false}
use borrow.Rule.Slice.PartMut.{mid_len, same_len_mid, Post-is}
use lib.Dec.{eqb, ltb}
use lib.ListN.{length, take, drop, length-append, length-drop}
use lib.Seq.{slice, length-take-le, length-slice}
use Rattle.laws.specs.Rows.{Given}
use Rattle.laws.proofs.RowLaws.{first-none}
use Rattle.laws.proofs.TestLaws.{neither}
use Rattle.laws.proofs.PartLaws.{take-parts, slice_parts, drop-parts, slice_mid}
use Rattle.refusals.specs.Columns.{line_limit}
use Rattle.std.specs.Prelude.{Ok, Err}
use Rattle.refusals.specs.Numbers.{Verdict, said}
use Rattle.refusals.proofs.VerdictLaws.{same-said}
use Rattle.blocks.specs.Marks.{Mark, marks, codes_of, classes_of}
use Rattle.blocks.proofs.MarkLaws.{length-marks, codes-marks, classes-marks, marks-columns}
use Rattle.blocks.proofs.BlockLaws.{marks_mid, marks-put}
use Rattle.marks.specs.declared.Range.{Range}
use Rattle.marks.specs.declared.Merged.{Merged}
use Rattle.marks.specs.declared.Merged.TheVariants.{Nothing, One, Two}
use Rattle.marks.specs.Passes.{Span, Over, passes, reorder_classes, new_class_lem}
use Rattle.marks.specs.Reordered.{ReorderRequest, Columns, columns_of, Answer, ranges_said, line, part, new_part, new_line, reordered, reorder_refusal}
use Rattle.marks.proofs.PassLaws.{length-passes}

-- ---- an answer is known by what it says
-- read back from its ranges, and from its number
range_of : Span → Range
range_of (Over from to) = record { from = from; to = to }

merged_of : List Span → Merged
merged_of [] = Nothing
merged_of (s ∷ []) = One (range_of s)
merged_of (s ∷ t ∷ more) = Two (range_of s) (range_of t)

verdict_of : Answer → Verdict
verdict_of (Ok m) = Ok tt
verdict_of (Err k) = Err k

answer_of : Merged → Verdict → Answer
answer_of m (Ok u) = Ok m
answer_of m (Err k) = Err k

said_verdict : (r : Answer) → said (verdict_of r) ≡ said r
unfolding verdict_of
said_verdict (Ok m) = refl
said_verdict (Err k) = refl

read_back : (r : Answer) → answer_of (merged_of (ranges_said r)) (verdict_of r) ≡ r
unfolding range_of merged_of verdict_of answer_of
read_back (Ok Nothing) = refl
read_back (Ok (One a)) = refl
read_back (Ok (Two a b)) = refl
read_back (Err k) = refl

pub same_answer : (r u : Answer) → said r ≡ said u → ranges_said r ≡ ranges_said u → r ≡ u
same_answer r u n e =
    sym (read_back r) ∙ ap₂ answer_of (ap merged_of e) (same-said (verdict_of r) (verdict_of u) (said_verdict r ∙ n ∙ sym (said_verdict u))) ∙ read_back u

-- ---- a request that is not refused
-- of the rows that reordering uses, none applies
pub record Allowed (q : ReorderRequest) (c : Columns) : Type 0 where
  pub even : length c.codes ≡ length c.classes
  pub few : length c.codes ≤ line_limit
  pub order : q.start ≤ q.end
  pub inside : q.end ≤ length c.codes

pub allowed : (q : ReorderRequest) (c : Columns) → reorder_refusal q c ≡ 0 → Allowed q c
unfolding reorder_refusal
allowed q c z =
    let n = length c.codes in
    let turned = ltb q.end q.start in
    let past = ltb n q.end in
    let last = Given 4 (turned || past) ∷ [] in
    let uneven-not = first-none 0 (not (eqb n (length c.classes))) (Given 2 (ltb line_limit n) ∷ last) z in
    let long-not = first-none 1 (ltb line_limit n) last uneven-not.1 in
    let range = neither turned past (first-none 3 (turned || past) [] long-not.1).0 in
    record {
      even = eqb-true n (length c.classes) (not-false _ uneven-not.0);
      few = ltb-false line_limit n long-not.0;
      order = ltb-false q.end q.start range.0;
      inside = ltb-false n q.end range.1;
    }

-- ---- the part, as it is lent
pub part-lent :
    (q : ReorderRequest) (c : Columns)
    → marks (take (q.end - q.start) (drop q.start c.codes)) (take (q.end - q.start) (drop q.start c.classes)) ≡ part q c
part-lent q c = marks_mid q.start (q.end - q.start) c.codes c.classes ∙ slice_mid q.start q.end (line c)

-- ---- the line afterwards
-- what lies before the part, and behind it
abbrev head : ReorderRequest → Columns → List Mark
head q c = take q.start (line c)

abbrev tail : ReorderRequest → Columns → List Mark
tail q c = drop q.end (line c)

module _ (q : ReorderRequest) (c : Columns) (a : Allowed q c) where
  length-head : length (head q c) ≡ q.start
  length-head = length-take-le q.start (line c) (omega (arith, length-marks c.codes c.classes a.even, a.order, a.inside))

  pub length_part : length (part q c) + q.start ≡ q.end
  length_part =
      let inside : q.end ≤ length (line c) = omega (arith, length-marks c.codes c.classes a.even, a.inside) in
      omega (arith, length-slice q.start q.end (line c) inside, a.order)

  length-new_part : length (new_part q c) + q.start ≡ q.end
  length-new_part = omega (arith, length-passes (new_class_lem q.low q.high) reorder_classes (part q c), length_part)

  pub part_afterwards : part q (reordered q c) ≡ new_part q c
  part_afterwards =
      ap (slice q.start q.end) (marks-columns (new_line q c)) ∙ slice_parts (head q c) (new_part q c) (tail q c) q.start q.end length-head length-new_part

  pub before-new_line : take q.start (new_line q c) ≡ take q.start (line c)
  before-new_line = take-parts (head q c) (new_part q c) (tail q c) q.start q.end length-head length-new_part

  pub behind-new_line : drop q.end (new_line q c) ≡ drop q.end (line c)
  behind-new_line = drop-parts (head q c) (new_part q c) (tail q c) q.start q.end length-head length-new_part

  pub length-new_line : length (new_line q c) ≡ length (line c)
  length-new_line =
      let inside : q.end ≤ length (line c) = omega (arith, length-marks c.codes c.classes a.even, a.inside) in
      simp length-append (omega (arith, length-head, length-new_part, length-drop q.end (line c)))

  -- two columns whose parts have become x and y
  pub new-columns :
      (x y : List ℕ) → length x ≡ length (take (q.end - q.start) (drop q.start c.codes)) → length y ≡ length (take (q.end - q.start) (drop q.start c.classes))
      → marks x y ≡ passes (new_class_lem q.low q.high) reorder_classes (marks (take (q.end - q.start) (drop q.start c.codes)) (take (q.end - q.start) (drop q.start c.classes)))
      → columns_of
      (take q.start c.codes ++ (x ++ drop (q.end - q.start) (drop q.start c.codes)))
      (take q.start c.classes ++ (y ++ drop (q.end - q.start) (drop q.start c.classes)))
      ≡ reordered q c
  new-columns x y lx ly p =
      let m : ℕ = q.end - q.start in
      let codes : List ℕ = take q.start c.codes ++ (x ++ drop m (drop q.start c.codes)) in
      let classes : List ℕ = take q.start c.classes ++ (y ++ drop m (drop q.start c.classes)) in
      let even : length codes ≡ length classes = same_len_mid q.start m c.codes x lx ∙ a.even ∙ sym (same_len_mid q.start m c.classes y ly) in
      let parts : length x ≡ length y =
      lx ∙ mid_len q.start q.end c.codes a.inside ∙ sym (ly ∙ mid_len q.start q.end c.classes (rw (← a.even) a.inside))
      in
      let made : marks codes classes ≡ new_line q c =
      marks-put q.start m c.codes c.classes x y (omega (arith, a.order, a.inside)) a.even parts
      ∙ ap₂ (λ (u v : List Mark). head q c ++ (u ++ v))
      (p ∙ ap (passes (new_class_lem q.low q.high) reorder_classes) (part-lent q c))
      (Post-is q.start q.end (line c) a.order)
      in
      ap₂ columns_of (sym (codes-marks codes classes even) ∙ ap codes_of made) (sym (classes-marks codes classes even) ∙ ap classes_of made)
