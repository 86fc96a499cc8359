-- `lines::join_accepted` meets its contract: actions, selectors, masks, one after the other.
-- Assumes nothing.
use mathlib.Core.Path.{sym, ap, ◌∙◌}
use mathlib.Core.Bool.{cond}
use mathlib.Core.List.{List}
use Prim.Native.Nat.{ℕ}
use Rattle.selectors.specs.Selectors.{settled}
use Rattle.masks.specs.Masks.{masks}
use Rattle.lines.specs.Held.{Setting, Line, setting_now, line_mut_now}
use Rattle.lines.proofs.LineLaws.{Accepted, accepted, same_line}
use Rattle.lines.proofs.join_accepted.Goals as goal
use Rattle.lines.proofs.join_accepted.Goals.{Start}

-- what the call was given
abbrev setting : Start → Setting
setting s = let a = s.args in setting_now a.pre_types a.pre_categories a.post_types a.post_categories a.manner

abbrev line : Start → Line
line s = let a = s.args in line_mut_now a.codes a.types a.categories a.base a.actions a.masks

given : (s : Start) → Accepted (setting s) (line s)
given s = accepted (setting s) (line s) s.requires

pub invariant_of-line : goal.invariant_of-line
invariant_of-line c = record { joinable = (given (search)).line }

pub invariant_of-pre : goal.invariant_of-pre
invariant_of-pre c = record { joinable = (given (search)).pre }

pub invariant_of-post : goal.invariant_of-post
invariant_of-post c = record { joinable = (given (search)).post }

pub arabic_joining-requires : goal.arabic_joining-requires
arabic_joining-requires c = (given (search)).actions

pub settle-requires : goal.settle-requires
settle-requires c =
    (given (search)).codes ∙ sym (c.arabic_joining.auto.actions ∙ (given (search)).actions)

pub setup_masks-requires : goal.setup_masks-requires
setup_masks-requires c =
    let g = given (search) in
    let actions = c.settle.auto.actions ∙ c.arabic_joining.auto.actions ∙ g.actions in
    (g.base ∙ sym actions, g.base ∙ sym g.masks)

pub returns : goal.returns
returns c =
    let manner = c.args.manner in
    let acted = c.settle.ensures ∙ ap (λ (l : List ℕ). cond manner.mongolian (settled c.args.codes.now l) l) c.arabic_joining.ensures in
    let masked = c.setup_masks.ensures ∙ ap (masks manner.features c.args.base.now) acted in
    same_line (line (search)).codes (line (search)).letters (line (search)).base acted masked
