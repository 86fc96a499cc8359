-- `replacing::replace_accepted` meets its contract: the new letter, then all that it touches.
-- Assumes nothing.
use mathlib.Core.Path.{◌≡◌, refl, ◌∙◌}
use Prim.Native.Nat.{◌<◌}
use native.Mathlib.Omega.{arith}
use borrow.Author.Rules.{rules}
use lib.ListN.{length, length-set}
use Rattle.lines.specs.Held.{Setting, Line, setting_now, line_all_mut_now}
use Rattle.replacing.specs.Replaced.{Request, asked}
use Rattle.replacing.proofs.AllowedLaws.{Allowed, allowed, changed-held}
use Rattle.replacing.proofs.replace_accepted.Goals as goal
use Rattle.replacing.proofs.replace_accepted.Goals.{Start}

-- what the call was given
abbrev setting : Start → Setting
setting s = let a = s.args in setting_now a.pre_types a.pre_categories a.post_types a.post_categories a.manner

abbrev line : Start → Line
line s = let a = s.args in line_all_mut_now a.codes a.types a.categories a.base a.actions a.masks

abbrev request : Start → Request
request s = asked s.args.request

given : (s : Start) → Allowed (setting s) (request s) (line s)
given s = allowed (setting s) (request s) (line s) s.requires

inside : (s : Start) → s.args.request.place < length s.args.codes.now
inside s = let g = given s in omega (arith, g.inside, g.line.codes)

seven : (s : Start) → length s.args.manner.features ≡ 7
seven s = search rules

pub offset_bounds-codes-place : goal.offset_bounds-codes-place
offset_bounds-codes-place c = let h = inside (search) in search rules

pub bounds-codes-place : goal.bounds-codes-place
bounds-codes-place c = inside (search)

pub bounds-types-place : goal.bounds-types-place
bounds-types-place c = (given (search)).inside

pub bounds-categories-place : goal.bounds-categories-place
bounds-categories-place c = let g = given (search) in omega (arith, g.inside, g.line.line.even)

pub invariant_of-pre : goal.invariant_of-pre
invariant_of-pre c = record { joinable = (given (search)).line.pre }

pub invariant_of-post : goal.invariant_of-post
invariant_of-post c = record { joinable = (given (search)).line.post }

pub refresh-requires : goal.refresh-requires
refresh-requires c =
    record {
      renewable = rw (c.first-before.ensures, c.first-behind.ensures) (changed-held (given (search)) (seven (search)));
      k_in_bounds = simp length-set (given (search)).inside;
    }

pub returns : goal.returns
returns c =
    c.refresh.ensures ∙ rw (c.first-before.ensures, c.first-behind.ensures) refl
