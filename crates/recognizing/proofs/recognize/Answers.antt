-- `recognizing::recognize` meets its contract.
-- Assumes nothing.
use mathlib.Core.Path.{sym, ◌∙◌}
use native.Mathlib.Omega.{arith}
use Rattle.scanning.specs.Grammar.{single_scan, ligature_scan}
use Rattle.accepting.specs.Scanned.{from}
use Rattle.recognizing.proofs.EndLaws.{Other, took_inside, read_odd, read_pairs, read_triples, read_none, single-held, single-other, ligature-held, ligature-other}
use Rattle.recognizing.proofs.recognize.Goals as goal
use Rattle.recognizing.proofs.recognize.Goals.{Else-ends, Else-ends-2}

-- the bytes are no single lookup
first-other : (m : Else-ends) → Other (single_scan 0 (from m.args.bytes.now 0))
first-other m =
    single-other m.args.bytes.now m.single.result m.single.ensures.0 (sym m.ends.ensures ∙ m.if-ends.false)

-- nor one of pairs
second-other : (n : Else-ends-2) → Other (ligature_scan 2 (from n.args.bytes.now 0))
second-other n =
    ligature-other n.args.bytes.now n.ligature.result 2 n.ligature.ensures.0 (sym n.ends-2.ensures ∙ n.if-ends-2.false)

pub returns-then-bytes-ne0 : goal.returns-then-bytes-ne0
returns-then-bytes-ne0 c = read_odd c.args.bytes.now (λ e. omega (arith, e, c.if-bytes-ne0.true))

pub ends-requires : goal.ends-requires
ends-requires c = took_inside c.single.result c.single.ensures.0

pub returns-then-ends : goal.returns-then-ends
returns-then-ends c =
    single-held c.args.bytes.now c.single.result c.if-bytes-ne0.false c.single.ensures.0 c.single.ensures.1 (sym c.ends.ensures ∙ c.if-ends.true)

pub ligature-requires : goal.ligature-requires
ligature-requires c = (omega arith, omega arith)

pub ends-requires-2 : goal.ends-requires-2
ends-requires-2 c = took_inside c.ligature.result c.ligature.ensures.0

pub returns-then-ends-2 : goal.returns-then-ends-2
returns-then-ends-2 c =
    let b = c.args.bytes.now in
    (ligature-held b c.ligature.result 2 c.ligature.ensures.0 c.ligature.ensures.1 (sym c.ends-2.ensures ∙ c.if-ends-2.true) (read_pairs b c.if-bytes-ne0.false (first-other (goal.at.returns-then-ends-2 c).Else-ends)), (omega arith, omega arith))

pub ligature-requires-2 : goal.ligature-requires-2
ligature-requires-2 c = (omega arith, omega arith)

pub ends-requires-3 : goal.ends-requires-3
ends-requires-3 c = took_inside c.ligature-2.result c.ligature-2.ensures.0

pub returns-then-ends-3 : goal.returns-then-ends-3
returns-then-ends-3 c =
    let b = c.args.bytes.now in
    (ligature-held b c.ligature-2.result 3 c.ligature-2.ensures.0 c.ligature-2.ensures.1 (sym c.ends-3.ensures ∙ c.if-ends-3.true) (read_triples b c.if-bytes-ne0.false (first-other (goal.at.returns-then-ends-3 c).Else-ends) (second-other (goal.at.returns-then-ends-3 c).Else-ends-2)), (omega arith, omega arith))

pub returns : goal.returns
returns c =
    let b = c.args.bytes.now in
    read_none b c.if-bytes-ne0.false (first-other (goal.at.returns c).Else-ends) (second-other (goal.at.returns c).Else-ends-2) (ligature-other b c.ligature-2.result 3 c.ligature-2.ensures.0 (sym c.ends-3.ensures ∙ c.if-ends-3.false))
