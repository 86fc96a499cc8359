-- The call, put together: the length of the new line (`length-recorded`); what judging gives, by the tests (`judged-uneven`, `judged-long`, `judged-strange`, `judged-over`, `judged-short`, `judged-accepted`), and what that says of the request (`judged-number`, `judged-length`); the new line laid into the output (`laid-over`, `work-laid`, `line-laid`).
-- Assumes nothing.
use mathlib.Core.Path.{◌≡◌, refl, sym, ap, ◌∙◌}
use mathlib.Core.Bool.{Bool, true, false, ◌&&◌}
use mathlib.Core.List.{List}
use Prim.Native.Nat.{ℕ, ◌≤◌, ◌<◌}
use native.Mathlib.Omega.{arith}
use borrow.Author.Tests.{lt-ltb, le-ltb}
use lib.ListN.{length, take, drop}
use lib.Seq.{take_all}
use Rattle.laws.specs.Rows.{first}
use Rattle.refusals.specs.Columns.{line_limit, at_most}
use Rattle.refusals.specs.Left.{After}
use Rattle.refusals.proofs.LeftLaws.{left_refused, left-done, left-number, left-accepted}
use Rattle.letters.specs.Categories.{Zs}
use Rattle.letters.specs.Actions.{repeating}
use Rattle.runs.specs.Records.{Record, Columns, line_of}
use Rattle.runs.specs.Stretched.{in_order, work, worked, stretched}
use Rattle.runs.proofs.RecordLaws.{length_in_order, order-twice, length-line}
use Rattle.laying.specs.Laid.{laid}
use Rattle.copying.proofs.ColumnsLaws.{columns-same}
use Rattle.laying.proofs.LaidLaws.{laid-on-whole}
use Rattle.stretching.specs.Stretching.{StretchRequest, stretched_limit, new_line, unequal, shorter, rows_of, stretch_rows, stretch_refusal, judged, laid_over}

pub length-recorded : (rtl : Bool) (c : Columns) → length (stretched rtl (line_of c)) ≡ length (worked rtl false (work rtl c))
unfolding stretched work
length-recorded rtl c = length_in_order rtl (worked rtl false (in_order rtl (line_of c)))

-- ---- judging, by the tests
module _ (cap : ℕ) (q : StretchRequest) (short : Bool) where
  refusing : (k : ℕ) → 0 < k → k ≡ first (rows_of cap q short) → After k 0 ≡ judged cap q short
  refusing k h e = left_refused (first (rows_of cap q short)) 0 (length (new_line q)) k e (λ z. omega arith)

  pub judged-uneven : unequal q.line ≡ true → After 1 0 ≡ judged cap q short
  judged-uneven e = refusing 1 (omega arith) (rw e)

  module _ (e : unequal q.line ≡ false) where
    pub judged-long : line_limit < length q.line.actions → After 2 0 ≡ judged cap q short
    judged-long h = refusing 2 (omega arith) (rw (e, lt-ltb line_limit (length q.line.actions) h))

    module _ (h : length q.line.actions ≤ line_limit) where
      pub judged-strange : (at_most Zs q.line.categories && at_most repeating q.line.actions) ≡ false → After 3 0 ≡ judged cap q short
      judged-strange s = refusing 3 (omega arith) (rw (e, le-ltb line_limit (length q.line.actions) h, s))

      module _ (s : (at_most Zs q.line.categories && at_most repeating q.line.actions) ≡ true) where
        pub judged-over : cap < length (new_line q) → After 6 0 ≡ judged cap q short
        judged-over o = refusing 6 (omega arith) (rw (e, le-ltb line_limit (length q.line.actions) h, s, lt-ltb cap (length (new_line q)) o))

        module _ (o : length (new_line q) ≤ cap) where
          pub judged-short : short ≡ true → After 8 0 ≡ judged cap q short
          judged-short t = refusing 8 (omega arith) (rw (e, le-ltb line_limit (length q.line.actions) h, s, le-ltb cap (length (new_line q)) o, t))

          pub judged-accepted : short ≡ false → After 0 (length (new_line q)) ≡ judged cap q short
          judged-accepted t =
              left-done (first (rows_of cap q short)) 0 (length (new_line q)) 0 (length (new_line q)) (rw (e, le-ltb line_limit (length q.line.actions) h, s, le-ltb cap (length (new_line q)) o, t)) refl refl

-- what an answer of judging says of the request
module _ (q : StretchRequest) (output : Columns) where
  pub judged-number : (k n : ℕ) → After k n ≡ judged stretched_limit q (shorter (length (new_line q)) output) → k ≡ stretch_refusal stretched_limit q output
  unfolding stretch_refusal
  judged-number k n e = left-number (first (stretch_rows stretched_limit q output)) 0 (length (new_line q)) k n e

  pub judged-length : (n : ℕ) → After 0 n ≡ judged stretched_limit q (shorter (length (new_line q)) output) → n ≡ length (new_line q)
  judged-length n e = left-accepted (first (stretch_rows stretched_limit q output)) 0 (length (new_line q)) 0 n e refl

-- ---- laid into the output
pub laid-over : (rtl : Bool) (m : ℕ) (l : List Record) (output : Columns) → length l ≡ m → laid rtl m 0 l output ≡ laid_over (in_order rtl l) output
unfolding laid
laid-over rtl m l output e =
    let n : length (in_order rtl l) ≡ m = length_in_order rtl l ∙ e in
    rw n (columns-same (laid-on-whole _ rtl m l output.glyphs e) (laid-on-whole _ rtl m l output.widths e) (laid-on-whole _ rtl m l output.categories e) (laid-on-whole _ rtl m l output.ignorables e) (laid-on-whole _ rtl m l output.actions e) (laid-on-whole _ rtl m l output.advances e) (laid-on-whole _ rtl m l output.offsets e))

-- the stretched line
pub work-laid : (rtl : Bool) (m : ℕ) (c output : Columns) → m ≡ length (worked rtl false (work rtl c)) → laid rtl m 0 (worked rtl false (work rtl c)) output ≡ laid_over (stretched rtl (line_of c)) output
unfolding stretched work
work-laid rtl m c output e = laid-over rtl m (worked rtl false (in_order rtl (line_of c))) output (sym e)

-- the line as it is
pub line-laid : (rtl : Bool) (m : ℕ) (c output : Columns) → m ≡ length c.actions → laid rtl m 0 (take m (drop 0 (work rtl c))) output ≡ laid_over (line_of c) output
unfolding work
line-laid rtl m c output e =
    let long : length (in_order rtl (line_of c)) ≡ m = length_in_order rtl (line_of c) ∙ length-line c ∙ sym e in
    ap (λ (l : List Record). laid rtl m 0 l output) (take_all m (in_order rtl (line_of c)) (omega (arith, long)))
    ∙ laid-over rtl m (in_order rtl (line_of c)) output long ∙ ap (λ (l : List Record). laid_over l output) (order-twice rtl (line_of c))
