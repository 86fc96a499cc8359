-- `stretching::judge` meets its contract: each test is a row of the table.
-- Assumes nothing.
use mathlib.Core.Path.{◌≡◌, refl, sym, ap₂, ◌∙◌}
use mathlib.Core.Bool.{Bool, true, false, ◌&&◌, and-eq-true_iff}
use lib.ListN.{length}
use Rattle.refusals.specs.Columns.{at_most}
use Rattle.letters.specs.Categories.{Zs}
use Rattle.letters.specs.Actions.{repeating}
use Rattle.runs.specs.Records.{columns_read}
use Rattle.stretching.specs.Stretching.{stretch_request, stretched_limit, new_line, unequal, lacking}
use Rattle.stretching.proofs.StretchingLaws.{evenly}
use Rattle.stretching.proofs.CallLaws.{judged-uneven, judged-long, judged-strange, judged-over, judged-short, judged-accepted}
use Rattle.stretching.proofs.judge.Goals as goal
use Rattle.stretching.proofs.judge.Goals.{After-differ, After-new_length-n, After-within-2, Else-differ, Then-within}

-- what each test found
uneven-found : (c : After-differ) → c.differ.result ≡ unequal (stretch_request c.args.recorded c.args.rtl (columns_read c.args.line)).line
uneven-found c = c.differ.ensures

evenness : (c : Else-differ) → unequal (stretch_request c.args.recorded c.args.rtl (columns_read c.args.line)).line ≡ false
evenness c = sym c.differ.ensures ∙ c.if-differ.false

known-found : (c : After-within-2) → (c.within.result && c.within-2.result) ≡ (at_most Zs c.args.line.categories.now && at_most repeating c.args.line.actions.now)
known-found c = ap₂ (λ (x y : Bool). x && y) c.within.ensures c.within-2.ensures

knownness : (c : Then-within) → (at_most Zs c.args.line.categories.now && at_most repeating c.args.line.actions.now) ≡ true
knownness c = sym (ap₂ (λ (x y : Bool). x && y) c.within.ensures c.within-2.ensures) ∙ c.if-within.true

length_found : (c : After-new_length-n) → c.new_length-n.result ≡ length (new_line (stretch_request c.args.recorded c.args.rtl (columns_read c.args.line)))
length_found c = c.new_length-n.ensures (stretch_request c.args.recorded c.args.rtl (columns_read c.args.line)).line (record { has_widths = refl; has_categories = refl; has_ignorables = refl; has_actions = refl; has_advances = refl })

pub returns-then-differ : goal.returns-then-differ
returns-then-differ c =
    let q = stretch_request c.args.recorded c.args.rtl (columns_read c.args.line) in
    let short = lacking (length (new_line q)) c.args.to_glyphs c.args.to_widths c.args.to_categories c.args.to_ignorables c.args.to_actions c.args.to_advances c.args.to_offsets in
    judged-uneven stretched_limit q short (sym (uneven-found (goal.at.returns-then-differ c).After-differ) ∙ c.if-differ.true)

pub returns-then-line-gt-LINE_LIMIT : goal.returns-then-line-gt-LINE_LIMIT
returns-then-line-gt-LINE_LIMIT c =
    let q = stretch_request c.args.recorded c.args.rtl (columns_read c.args.line) in
    let short = lacking (length (new_line q)) c.args.to_glyphs c.args.to_widths c.args.to_categories c.args.to_ignorables c.args.to_actions c.args.to_advances c.args.to_offsets in
    judged-long stretched_limit q short (evenness (goal.at.returns-then-line-gt-LINE_LIMIT c).Else-differ) c.if-line-gt-LINE_LIMIT.true

pub new_length-n-requires : goal.new_length-n-requires
new_length-n-requires c =
    let q = stretch_request c.args.recorded c.args.rtl (columns_read c.args.line) in
    let even = evenly q.line (evenness (goal.at.new_length-n-requires c).Else-differ) in
    let within = (and-eq-true_iff (at_most Zs c.args.line.categories.now) (at_most repeating c.args.line.actions.now)).0 (knownness (goal.at.new_length-n-requires c).Then-within) in
    record { actions_len_bound = (c.if-line-gt-LINE_LIMIT.false, within.1); even = record { even_widths = even.even_widths; even_categories = even.even_categories; even_ignorables = even.even_ignorables; even_advances = even.even_advances } }

pub returns-then-n-gt-STRETCHED_LIMIT : goal.returns-then-n-gt-STRETCHED_LIMIT
returns-then-n-gt-STRETCHED_LIMIT c =
    let q = stretch_request c.args.recorded c.args.rtl (columns_read c.args.line) in
    let short = lacking (length (new_line q)) c.args.to_glyphs c.args.to_widths c.args.to_categories c.args.to_ignorables c.args.to_actions c.args.to_advances c.args.to_offsets in
    let long = length_found (goal.at.returns-then-n-gt-STRETCHED_LIMIT c).After-new_length-n in
    judged-over stretched_limit q short (evenness (goal.at.returns-then-n-gt-STRETCHED_LIMIT c).Else-differ) c.if-line-gt-LINE_LIMIT.false (knownness (goal.at.returns-then-n-gt-STRETCHED_LIMIT c).Then-within) (rw (← long) c.if-n-gt-STRETCHED_LIMIT.true)

pub returns-then-lack : goal.returns-then-lack
returns-then-lack c =
    let q = stretch_request c.args.recorded c.args.rtl (columns_read c.args.line) in
    let short = lacking (length (new_line q)) c.args.to_glyphs c.args.to_widths c.args.to_categories c.args.to_ignorables c.args.to_actions c.args.to_advances c.args.to_offsets in
    let long = length_found (goal.at.returns-then-lack c).After-new_length-n in
    judged-short stretched_limit q short (evenness (goal.at.returns-then-lack c).Else-differ) c.if-line-gt-LINE_LIMIT.false (knownness (goal.at.returns-then-lack c).Then-within) (rw (← long) c.if-n-gt-STRETCHED_LIMIT.false) (rw (← long) (sym c.lack.ensures ∙ c.if-lack.true))

pub returns-else-lack : goal.returns-else-lack
returns-else-lack c =
    let q = stretch_request c.args.recorded c.args.rtl (columns_read c.args.line) in
    let short = lacking (length (new_line q)) c.args.to_glyphs c.args.to_widths c.args.to_categories c.args.to_ignorables c.args.to_actions c.args.to_advances c.args.to_offsets in
    let long = length_found (goal.at.returns-else-lack c).After-new_length-n in
    rw long (judged-accepted stretched_limit q short (evenness (goal.at.returns-else-lack c).Else-differ) c.if-line-gt-LINE_LIMIT.false (knownness (goal.at.returns-else-lack c).Then-within) (rw (← long) c.if-n-gt-STRETCHED_LIMIT.false) (rw (← long) (sym c.lack.ensures ∙ c.if-lack.false)))

pub returns-else-within : goal.returns-else-within
returns-else-within c =
    let q = stretch_request c.args.recorded c.args.rtl (columns_read c.args.line) in
    let short = lacking (length (new_line q)) c.args.to_glyphs c.args.to_widths c.args.to_categories c.args.to_ignorables c.args.to_actions c.args.to_advances c.args.to_offsets in
    judged-strange stretched_limit q short (evenness (goal.at.returns-else-within c).Else-differ) c.if-line-gt-LINE_LIMIT.false (sym (known-found (goal.at.returns-else-within c).After-within-2) ∙ c.if-within.false)
