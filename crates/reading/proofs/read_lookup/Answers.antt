-- `reading::read_lookup` meets its contract.
-- Assumes nothing.
use Rattle.reading.specs.Read.{list_of}
use Rattle.reading.proofs.ReadLaws.{no_lookup_lem}
use Rattle.reading.proofs.read_lookup.Goals as goal

pub returns-in-None : goal.returns-in-None
returns-in-None c =
    let a = c.args in
    no_lookup_lem a.bytes.now (list_of a.glyphs.now a.substitutes.now) c.in-None.ensures
