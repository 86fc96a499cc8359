-- `accepting::counted` meets its contract.
-- Assumes nothing.
use native.Mathlib.Omega.{arith}
use mathlib.Core.Path.{◌∙◌}
use mathlib.Core.Bool.{not}
use Prim.Native.Nat.{◌%◌}
use borrow.Author.Tests.{ltb-false}
use lib.Dec.{eqb, ltb}
use Rattle.laws.proofs.TestLaws.{neither}
use Rattle.accepting.proofs.SeriesLaws.{counted-short, counted_odd, counted-many, counted_taken, counts-known}
use Rattle.accepting.proofs.counted.Goals as goal

pub overflow_sub-bytes : goal.overflow_sub-bytes
overflow_sub-bytes c = omega (arith, c.requires.0)

pub returns-then-bytes-at-lt2 : goal.returns-then-bytes-at-lt2
returns-then-bytes-at-lt2 c =
    (counted-short c.args.most c.args.bytes.now c.args.at (omega (arith, c.requires.0, c.if-bytes-at-lt2.true)), tt)

pub u16_at-requires : goal.u16_at-requires
u16_at-requires c = omega (arith, c.requires.0, c.if-bytes-at-lt2.false)

pub returns-then-o : goal.returns-then-o
returns-then-o c =
    (counted_odd c.args.most c.args.bytes.now c.args.at (omega (arith, c.requires.0, c.if-bytes-at-lt2.false)) c.from-o.result (c.from-o.ensures ∙ c.u16_at.ensures) c.if-o.true, tt)

pub overflow_sub-n : goal.overflow_sub-n
overflow_sub-n c = omega (arith, ltb-false c.from-o.result 6 (neither (ltb c.from-o.result 6) (not (eqb (c.from-o.result % 2) 0)) c.if-o.false).0)

pub returns-then-most-n : goal.returns-then-most-n
returns-then-most-n c =
    (counted-many c.args.most c.args.bytes.now c.args.at (omega (arith, c.requires.0, c.if-bytes-at-lt2.false)) c.from-o.result (c.from-o.ensures ∙ c.u16_at.ensures) c.if-most-n.true, tt)

pub overflow_add-at : goal.overflow_add-at
overflow_add-at c =
    omega (arith, c.requires.0, c.if-bytes-at-lt2.false)

pub exactly-requires : goal.exactly-requires
exactly-requires c =
    omega (arith, c.requires.0, c.if-bytes-at-lt2.false)

pub returns : goal.returns
returns c = (
  counted_taken c.args.most c.args.bytes.now c.args.at (omega (arith, c.requires.0, c.if-bytes-at-lt2.false)) c.from-o.result (c.from-o.ensures ∙ c.u16_at.ensures) c.if-o.false c.if-most-n.false _ c.exactly.ensures,
  rw (← c.u16_at.ensures, ← c.from-o.ensures) (counts-known c.exactly.result c.args.most c.from-o.result c.if-o.false c.if-most-n.false),
)
