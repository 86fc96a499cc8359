-- `accepting::several` meets its contract.
-- Assumes nothing.
use native.Mathlib.Omega.{arith}
use Rattle.accepting.proofs.PieceLaws.{several-short, several_taken}
use Rattle.accepting.proofs.several.Goals as goal

pub overflow_sub-bytes : goal.overflow_sub-bytes
overflow_sub-bytes c = omega (arith, c.requires)

pub returns-then-bytes-at : goal.returns-then-bytes-at
returns-then-bytes-at c = several-short c.args.n _ c.args.bytes.now c.args.at c.requires (omega (arith, c.requires, c.if-bytes-at.true))

pub overflow_mul-result : goal.overflow_mul-result
overflow_mul-result c = omega (arith, c.requires, c.if-bytes-at.false)

pub overflow_add-result : goal.overflow_add-result
overflow_add-result c = omega (arith, c.requires, c.if-bytes-at.false)

pub returns : goal.returns
returns c = several_taken c.args.n c.args.bytes.now c.args.at (omega (arith, c.requires, c.if-bytes-at.false))
