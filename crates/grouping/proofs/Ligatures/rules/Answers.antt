-- `grouping::Ligatures::rules` meets its contract: what the rules still to come are answered is the answer for all.
-- Assumes nothing.
use native.Mathlib.Omega.{arith}
use mathlib.Core.Path.{◌≡◌, ap, ◌∙◌}
use Prim.Native.Nat.{ℕ, ◌+◌, ◌-◌, ◌*◌}
use Rattle.std.specs.Prelude.{Ok, Err}
use Rattle.accepting.proofs.TookLaws.{handed}
use Rattle.grouping.proofs.RuleLaws.{rules-stops, rules-more, rules-none}
use Rattle.grouping.proofs.Ligatures.rules.Goals as goal

pub rule-requires : goal.rule-requires
rule-requires c =
    (c.loop-i.invariant.0, c.requires.1)

pub returns-in_err-p : goal.returns-in_err-p
returns-in_err-p c = λ lead.
    let a = c.args in
    let l = c.loop-i in
    rw (handed c.from_residual.ensures) (l.invariant.2 lead (Err _) (rules-stops a.self.n a.self.bytes.now l.p lead (a.c - l.i) (omega (arith, c.loop-i-test.true)) _ (c.in_err-p.ensures lead)))

pub loop-i-preserved : goal.loop-i-preserved
loop-i-preserved c =
    let a = c.args in
    let l = c.loop-i in
    let place = (c.in_ok-p.ensures 0).place in
    let less : a.c - l.i - 1 ≡ a.c - (l.i + 1) = omega arith in (
      place.1,
      omega (arith, place.0, l.invariant.1),
      λ lead r t. l.invariant.2 lead r (rules-more a.self.n a.self.bytes.now l.p lead (a.c - l.i) (omega (arith, c.loop-i-test.true)) _ (c.in_ok-p.ensures lead) r (rw less t)),
    )

pub returns : goal.returns
returns c = λ lead.
    let a = c.args in
    let l = c.loop-i in
    let all : l.i ≡ a.c = omega (arith, c.loop-i-test.false, l.auto.i-end) in
    let none : a.c - l.i ≡ 0 = omega (arith, all) in
    l.invariant.2 lead (Ok l.p) (rw none (rules-none a.self.n a.self.bytes.now l.p lead (l.invariant.1 ∙ ap (λ (m : ℕ). a.at + m * (2 + 2 * a.self.n)) all) l.invariant.0))
