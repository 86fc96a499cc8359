-- `stretching::stretch` meets its contract: a refusal leaves the output, and of what is not refused the new line is laid there.
-- Assumes nothing.
use mathlib.Core.Path.{◌≡◌, refl, sym, ap₂, ◌∙◌}
use native.Mathlib.Omega.{arith}
use lib.ListN.{length}
use Rattle.refusals.specs.Left.{After}
use Rattle.refusals.specs.Numbers.{number_of}
use Rattle.refusals.proofs.VerdictLaws.{refused_number}
use Rattle.refusals.proofs.LeftLaws.{left_refused, left-done}
use Rattle.runs.specs.Records.{Columns, columns}
use Rattle.runs.proofs.RecordLaws.{length-line}
use Rattle.std.proofs.lemmas.Result.{err_from_is_err_and}
use Rattle.stretching.specs.Stretching.{StretchRequest, stretch_request, StretchOutcome, stretch_outcome, stretched_limit, new_line, laid_over, shorter, stretch_refusal, judged}
use Rattle.stretching.proofs.StretchingLaws.{Allowed, allowed}
use Rattle.stretching.proofs.CallLaws.{length-recorded, judged-number, judged-length, work-laid, line-laid}
use Rattle.stretching.proofs.stretch.Goals as goal
use Rattle.stretching.proofs.stretch.Goals.{In_ok-n}

-- what the call leaves if it is refused, and if it is not
abbrev old : Columns → StretchOutcome
old o = stretch_outcome 0 o

abbrev new : StretchRequest → Columns → StretchOutcome
new q o = stretch_outcome (length (new_line q)) (laid_over (new_line q) o)

-- where they accept: the length that is said is that of the new line, and nothing refuses the request
found-accepted : (c : In_ok-n) → After 0 c.in_ok-n.n ≡ judged stretched_limit (stretch_request c.args.recorded c.args.rtl (columns c.args.glyphs.now c.args.widths.now c.args.categories.now c.args.ignorables.now c.args.actions.now c.args.advances.now c.args.offsets.now)) (shorter (length (new_line (stretch_request c.args.recorded c.args.rtl (columns c.args.glyphs.now c.args.widths.now c.args.categories.now c.args.ignorables.now c.args.actions.now c.args.advances.now c.args.offsets.now)))) (columns c.args.to_glyphs.now c.args.to_widths.now c.args.to_categories.now c.args.to_ignorables.now c.args.to_actions.now c.args.to_advances.now c.args.to_offsets.now))
found-accepted c = c.in_ok-n.ensures

length-said : (c : In_ok-n) → c.in_ok-n.n ≡ length (new_line (stretch_request c.args.recorded c.args.rtl (columns c.args.glyphs.now c.args.widths.now c.args.categories.now c.args.ignorables.now c.args.actions.now c.args.advances.now c.args.offsets.now)))
length-said c = judged-length (stretch_request c.args.recorded c.args.rtl (columns c.args.glyphs.now c.args.widths.now c.args.categories.now c.args.ignorables.now c.args.actions.now c.args.advances.now c.args.offsets.now)) (columns c.args.to_glyphs.now c.args.to_widths.now c.args.to_categories.now c.args.to_ignorables.now c.args.to_actions.now c.args.to_advances.now c.args.to_offsets.now) c.in_ok-n.n (found-accepted c)

accepted : (c : In_ok-n) → 0 ≡ stretch_refusal stretched_limit (stretch_request c.args.recorded c.args.rtl (columns c.args.glyphs.now c.args.widths.now c.args.categories.now c.args.ignorables.now c.args.actions.now c.args.advances.now c.args.offsets.now)) (columns c.args.to_glyphs.now c.args.to_widths.now c.args.to_categories.now c.args.to_ignorables.now c.args.to_actions.now c.args.to_advances.now c.args.to_offsets.now)
accepted c = judged-number (stretch_request c.args.recorded c.args.rtl (columns c.args.glyphs.now c.args.widths.now c.args.categories.now c.args.ignorables.now c.args.actions.now c.args.advances.now c.args.offsets.now)) (columns c.args.to_glyphs.now c.args.to_widths.now c.args.to_categories.now c.args.to_ignorables.now c.args.to_actions.now c.args.to_advances.now c.args.to_offsets.now) 0 c.in_ok-n.n (found-accepted c)

given : (c : In_ok-n) → Allowed (stretch_request c.args.recorded c.args.rtl (columns c.args.glyphs.now c.args.widths.now c.args.categories.now c.args.ignorables.now c.args.actions.now c.args.advances.now c.args.offsets.now)) (columns c.args.to_glyphs.now c.args.to_widths.now c.args.to_categories.now c.args.to_ignorables.now c.args.to_actions.now c.args.to_advances.now c.args.to_offsets.now)
given c = allowed (stretch_request c.args.recorded c.args.rtl (columns c.args.glyphs.now c.args.widths.now c.args.categories.now c.args.ignorables.now c.args.actions.now c.args.advances.now c.args.offsets.now)) (columns c.args.to_glyphs.now c.args.to_widths.now c.args.to_categories.now c.args.to_ignorables.now c.args.to_actions.now c.args.to_advances.now c.args.to_offsets.now) (sym (accepted c))

pub write-requires : goal.write-requires
write-requires c =
    let q = stretch_request c.args.recorded c.args.rtl (columns c.args.glyphs.now c.args.widths.now c.args.categories.now c.args.ignorables.now c.args.actions.now c.args.advances.now c.args.offsets.now) in
    let a = given (goal.at.write-requires c).In_ok-n in
    let long : c.in_ok-n.n ≡ length (new_line q) = length-said (goal.at.write-requires c).In_ok-n in
    record {
      few = a.few;
      known = a.known;
      even = a.even;
      long = long ∙ (rw c.if-recorded.true (length-recorded c.args.rtl q.line));
      room = rw long a.room;
    }

pub keep-requires : goal.keep-requires
keep-requires c =
    let q = stretch_request c.args.recorded c.args.rtl (columns c.args.glyphs.now c.args.widths.now c.args.categories.now c.args.ignorables.now c.args.actions.now c.args.advances.now c.args.offsets.now) in
    let a = given (goal.at.keep-requires c).In_ok-n in
    let long : c.in_ok-n.n ≡ length (new_line q) = length-said (goal.at.keep-requires c).In_ok-n in
    let whole : c.in_ok-n.n ≡ length c.args.actions.now = long ∙ (rw c.if-recorded.false (length-line q.line)) in
    record { inside = omega (arith, whole); there = omega arith; even = a.even; room = rw long a.room }

pub returns-in_err-n : goal.returns-in_err-n
returns-in_err-n c =
    let q = stretch_request c.args.recorded c.args.rtl (columns c.args.glyphs.now c.args.widths.now c.args.categories.now c.args.ignorables.now c.args.actions.now c.args.advances.now c.args.offsets.now) in
    let o = columns c.args.to_glyphs.now c.args.to_widths.now c.args.to_categories.now c.args.to_ignorables.now c.args.to_actions.now c.args.to_advances.now c.args.to_offsets.now in
    let k = c.in_err-n.field-0.0 in
    let p = err_from_is_err_and c.from_residual.result c.from_residual.ensures.1 in
    rw (p.1, p.2) (left_refused _ (old o) (new q o) _ (judged-number q o (number_of k) 0 c.in_err-n.ensures) (refused_number k))

pub returns-then-recorded : goal.returns-then-recorded
returns-then-recorded c =
    let q = stretch_request c.args.recorded c.args.rtl (columns c.args.glyphs.now c.args.widths.now c.args.categories.now c.args.ignorables.now c.args.actions.now c.args.advances.now c.args.offsets.now) in
    let o = columns c.args.to_glyphs.now c.args.to_widths.now c.args.to_categories.now c.args.to_ignorables.now c.args.to_actions.now c.args.to_advances.now c.args.to_offsets.now in
    let long : c.in_ok-n.n ≡ length (new_line q) = length-said (goal.at.returns-then-recorded c).In_ok-n in
    let laid-there = c.write.ensures ∙ work-laid c.args.rtl c.in_ok-n.n q.line o (long ∙ (rw c.if-recorded.true (length-recorded c.args.rtl q.line))) in
    left-done _ (old o) (new q o) _ _ (accepted (goal.at.returns-then-recorded c).In_ok-n) refl
    (ap₂ stretch_outcome long (laid-there ∙ (rw c.if-recorded.true)))

pub returns-else-recorded : goal.returns-else-recorded
returns-else-recorded c =
    let q = stretch_request c.args.recorded c.args.rtl (columns c.args.glyphs.now c.args.widths.now c.args.categories.now c.args.ignorables.now c.args.actions.now c.args.advances.now c.args.offsets.now) in
    let o = columns c.args.to_glyphs.now c.args.to_widths.now c.args.to_categories.now c.args.to_ignorables.now c.args.to_actions.now c.args.to_advances.now c.args.to_offsets.now in
    let long : c.in_ok-n.n ≡ length (new_line q) = length-said (goal.at.returns-else-recorded c).In_ok-n in
    let laid-there = c.keep.ensures ∙ line-laid c.args.rtl c.in_ok-n.n q.line o (long ∙ (rw c.if-recorded.false (length-line q.line))) in
    left-done _ (old o) (new q o) _ _ (accepted (goal.at.returns-else-recorded c).In_ok-n) refl
    (ap₂ stretch_outcome long (laid-there ∙ (rw c.if-recorded.false)))
