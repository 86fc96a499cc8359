-- `parts::copy` meets its contract: what is left of the part, pasted, makes the whole.
-- Assumes nothing.
use Rattle.laws.proofs.PasteLaws.{copying_next, copying_ends}
use Rattle.parts.proofs.copy.Goals as goal

pub loop-j-preserved : goal.loop-j-preserved
loop-j-preserved g c =
    let a = c.args in
    let x = c.index-from-i in
    copying_next a.from.now _ a.i a.s a.o c.loop-j.to c.loop-j.j c.loop-j.invariant c.requires.0 c.requires.1 x.result x.result c.loop-j-test.true x.is

pub returns : goal.returns
returns g c =
    let a = c.args in
    copying_ends a.from.now _ a.i a.s a.o c.loop-j.to c.loop-j.j c.loop-j.invariant c.requires.0 c.requires.1 c.loop-j-test.false
