-- `runs::measured_at` meets its contract: the sums of the run, then its word, then how the tiles fill the room.
-- Assumes nothing.
use mathlib.Core.Path.{refl}
use mathlib.Core.List.{[]}
use Prim.Native.Nat.{◌≤◌}
use native.Mathlib.Omega.{arith}
use lib.ListN.{length}
use mir.Syntax.{w32}
use mir.Val.{SFits}
use Rattle.runs.specs.Records.{columns}
use Rattle.runs.specs.Stretched.{work}
use Rattle.runs.proofs.MeasuredLaws.{sums_fit, measured-is}
use borrow.Author.Rules.{rules}
use Rattle.runs.proofs.measured_at.Goals as goal
use Rattle.runs.proofs.measured_at.Goals.{After-sums_at-run}

-- the run ends within the line, and has no more tiles than it
sums_within : (c : After-sums_at-run) → (c.sums_at-run.result.past ≤ length c.args.line.actions.now) × (c.sums_at-run.result.tiles ≤ length c.args.line.actions.now)
sums_within c =
    let a = c.args in
    let l = columns [] a.line.widths.now a.line.categories.now a.line.ignorables.now a.line.actions.now a.line.advances.now [] in
    sums_fit a.rtl l a.from c.requires.from_in_bounds c.sums_at-run.result (c.sums_at-run.ensures l refl refl)

pub word_at-word-requires : goal.word_at-word-requires
word_at-word-requires c =
    let even = c.requires.even in
    record { from_in_bounds = (sums_within (goal.at.word_at-word-requires c).After-sums_at-run).0; categories_len = even.even_categories; ignorables_len = even.even_ignorables; advances_len = even.even_advances }

pub fill-fit-requires : goal.fill-fit-requires
fill-fit-requires c =
    omega (arith, (sums_within (goal.at.fill-fit-requires c).After-sums_at-run).1, c.requires.actions_len_bound)

pub returns : goal.returns
returns c = λ l lent.
    let run = c.sums_at-run.result in
    let fit = c.fill-fit.result in
    let fixed-fits : SFits w32 run.fixed = search rules in
    let repeating-fits : SFits w32 run.repeating = search rules in
    let overlap-fits : SFits w32 fit.overlap = search rules in
    let start_fits : SFits w32 fit.start = search rules in
    measured-is (work c.args.rtl l) c.args.from run c.word_at-word.result c.sat_sub.result fit
    (c.sums_at-run.ensures l lent.has_widths lent.has_actions) (c.word_at-word.ensures l (record { has_widths = refl; has_categories = lent.has_categories; has_ignorables = lent.has_ignorables; has_actions = lent.has_actions; has_advances = lent.has_advances }))
    fixed-fits repeating-fits (record { sfits = c.word_at-word.type_inv }) overlap-fits start_fits c.sat_sub.ensures c.fill-fit.ensures
