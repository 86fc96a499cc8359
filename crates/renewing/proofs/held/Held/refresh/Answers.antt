-- `renewing::refresh` meets its contract: the letter behind the place, the one before it, the place; each sees the others as they stand in the line.
-- Assumes nothing.
use mathlib.Core.Path.{◌≡◌}
use Prim.Native.Nat.{◌+◌, ◌<◌}
use lib.ListN.{length, take, drop}
use Rattle.shapes.specs.Joining.{latest, nearest}
use Rattle.lines.specs.Held.{Line}
use Rattle.joining.specs.Known.{known_types}
use Rattle.renewing.specs.Held.{held_now}
use Rattle.renewing.proofs.HeldLaws.{renewed-held, line-touched}
use Rattle.renewing.proofs.SeenLaws.{seen_beyond, seen-ahead, seen_back}
use Rattle.renewing.proofs.held.Held.refresh.Goals as goal
use Rattle.renewing.proofs.held.Held.refresh.Goals.{After-past-seen_ahead, Start}

-- what the call was given
abbrev line : Start → Line
line s = let a = s.args in held_now a.self.now a.actions a.masks

-- what the letter behind the place sees before it, and what the one before the place sees behind it
back : (c : After-past-seen_ahead) → let held = c.args.self.now in c.past-seen_back.result.0 ≡ latest held.frame.before.0 (take c.letter_from-n.result.place (known_types held.letters))
back c =
    seen_back c.requires.renewable.letters c.args.k _ c.requires.k_in_bounds c.type_at-t.ensures c.args.self.now.frame.before.0 _ _ _ c.letter_before-q.ensures.letter c.letter_from-n.ensures.place c.past-seen_back.ensures

ahead : (c : After-past-seen_ahead) → let held = c.args.self.now in let q = c.letter_before-q.result.place in q < length held.letters.types.now → c.past-seen_ahead.result.0 ≡ nearest (drop (q + 1) (known_types held.letters)) held.frame.behind.0
ahead c =
    seen-ahead c.requires.renewable.letters c.args.k _ c.requires.k_in_bounds c.type_at-t.ensures c.args.self.now.frame.behind.0 _ _ _ c.letter_before-q.ensures.place c.letter_from-n.ensures.letter c.past-seen_ahead.ensures

pub renew-requires : goal.renew-requires
renew-requires c =
    record { renewable = c.requires.renewable; beside = λ h. (back (goal.at.renew-requires c).After-past-seen_ahead, seen_beyond _ _ _ _ _ c.further_behind-ahead.ensures h) }

pub renew-requires-2 : goal.renew-requires-2
renew-requires-2 c =
    record {
      renewable = renewed-held c.requires.renewable _ _ c.renew.ensures;
      beside = λ h. (seen_beyond _ _ _ _ _ c.further_before-back.ensures h, ahead (goal.at.renew-requires-2 c).After-past-seen_ahead h);
    }

pub renew-requires-3 : goal.renew-requires-3
renew-requires-3 c =
    let behind = renewed-held c.requires.renewable _ _ c.renew.ensures in
    record {
      renewable = renewed-held behind _ _ c.renew-2.ensures;
      beside = λ h. (c.letter_before-q.ensures.letter, c.letter_from-n.ensures.letter);
    }

pub returns : goal.returns
returns c =
    line-touched c.args.self.now.frame (line (search)) _ _ _ c.args.k _ _ c.letter_before-q.ensures.place c.letter_from-n.ensures.place c.renew.ensures c.renew-2.ensures c.renew-3.ensures
