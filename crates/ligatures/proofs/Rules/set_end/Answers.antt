-- `ligatures::Rules::set_end` meets its contract: the rules passed, with those to come that begin alike, are all that begin alike.
-- Assumes nothing.
use mathlib.Core.Path.{◌≡◌, refl}
use Prim.Native.Nat.{◌*◌}
use native.Mathlib.Omega.{arith}
use lib.ListN.{length, get_or}
use Rattle.ligatures.proofs.PlaceLaws.{run_on, run_ends, run-over, set_found}
use Rattle.ligatures.proofs.Rules.set_end.Goals as goal

pub loop-e-init : goal.loop-e-init
loop-e-init c = refl

-- another leader
pub returns-then-self-e : goal.returns-then-self-e
returns-then-self-e c =
    set_found c.args.i c.loop-e.e c.args.self.shape (omega (arith, c.loop-e.auto.e)) (omega (arith, c.loop-e-test.true))
    (omega (arith, c.loop-e.invariant, run_ends (get_or c.args.self.components.now (c.args.i * c.args.self.n) 0) c.loop-e.e c.args.self.shape c.loop-e-test.true (λ q. omega (arith, q, c.if-self-e.true))))

-- the same leader
pub loop-e-preserved : goal.loop-e-preserved
loop-e-preserved c =
    omega (arith, c.loop-e.invariant, run_on (get_or c.args.self.components.now (c.args.i * c.args.self.n) 0) c.loop-e.e c.args.self.shape c.loop-e-test.true (omega (arith, c.if-self-e.false)))

-- no rule is left
pub returns : goal.returns
returns c =
    let a = c.args in
    let last : c.loop-e.e ≡ length a.self.ligatures.now = omega (arith, c.loop-e-test.false, c.loop-e.auto.e-end, c.requires) in
    set_found a.i (length a.self.ligatures.now) a.self.shape c.requires (omega arith)
    (omega (arith, last, c.loop-e.invariant, run-over a.self.n a.self.components.now a.self.ligatures.now (get_or a.self.components.now (a.i * a.self.n) 0) c.loop-e.e c.loop-e-test.false))
