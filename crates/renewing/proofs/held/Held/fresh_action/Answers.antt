-- `renewing::fresh_action` meets its contract: the rule at the record's home, between the letters that stand there.
-- Assumes nothing.
use Prim.Native.Nat.{◌<◌}
use native.Mathlib.Omega.{arith}
use borrow.Author.Rules.{rules}
use lib.ListN.{length}
use Rattle.renewing.proofs.FreshLaws.{home_below, fresh-form}
use Rattle.renewing.proofs.held.Held.fresh_action.Goals as goal
use Rattle.renewing.proofs.held.Held.fresh_action.Goals.{After-home-at}

-- the home stands in the line
within : (c : After-home-at) → c.home-at.result < length c.args.self.now.letters.types.now
within c =
    omega (arith, c.requires.codes_len.1, home_below c.args.self.now.frame.mongolian c.args.self.now.codes.now c.args.k _ c.home-at.ensures)

pub type_at-t-requires : goal.type_at-t-requires
type_at-t-requires c = within (goal.at.type_at-t-requires c).After-home-at

pub returns-then-at-k : goal.returns-then-at-k
returns-then-at-k c =
    let h = c.home-at in
    fresh-form c.args.self.now.letters.joinable c.args.self.now.frame.mongolian c.args.self.now.codes.now c.args.self.now.frame.before.0 c.args.self.now.frame.behind.0 c.args.k c.requires.codes_len.1 h.result _ _ _ _ h.ensures c.type_at-t.ensures
    (rw c.if-at-k.true c.requires.beside.0) (rw c.if-at-k.true c.requires.beside.1) c.form_of.ensures

pub letter_before-q-requires : goal.letter_before-q-requires
letter_before-q-requires c =
    omega (arith, within (goal.at.letter_before-q-requires c).After-home-at)

pub overflow_add-at : goal.overflow_add-at
overflow_add-at c = let h = within (goal.at.overflow_add-at c).After-home-at in search rules

pub letter_from-m-requires : goal.letter_from-m-requires
letter_from-m-requires c =
    omega (arith, within (goal.at.letter_from-m-requires c).After-home-at)

pub returns : goal.returns
returns c =
    let h = c.home-at in
    fresh-form c.args.self.now.letters.joinable c.args.self.now.frame.mongolian c.args.self.now.codes.now c.args.self.now.frame.before.0 c.args.self.now.frame.behind.0 c.args.k c.requires.codes_len.1 h.result _ _ _ _ h.ensures c.type_at-t.ensures
    c.letter_before-q.ensures.letter c.letter_from-m.ensures.letter c.form_of-2.ensures
