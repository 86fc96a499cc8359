-- `laying::keep` meets its contract: the part is copied to where it comes, in one way or the other.
-- Assumes nothing.
use mathlib.Core.Path.{◌∙◌}
use Prim.Native.Nat.{◌+◌, ◌≤◌}
use lib.ListN.{length}
use Rattle.runs.specs.Records.{columns_read}
use Rattle.runs.proofs.RecordLaws.{part-fits}
use Rattle.copying.proofs.ColumnsLaws.{roomy-less}
use Rattle.laying.proofs.LaidLaws.{copied_part}
use Rattle.laying.proofs.keep.Goals as goal
use Rattle.laying.proofs.keep.Goals.{After-part-o}

-- both parts are within their columns
within : (c : After-part-o) → (c.part-i.result + c.args.s ≤ length c.args.line.actions.now) × (c.part-o.result + c.args.s ≤ c.args.m)
within c =
    let a = c.args in
    (rw c.part-i.ensures (part-fits a.rtl (length a.line.actions.now) a.k a.s c.requires.inside), rw c.part-o.ensures (part-fits a.rtl a.m a.at a.s c.requires.there))

pub copy_records-requires : goal.copy_records-requires
copy_records-requires c =
    let w = within (goal.at.copy_records-requires c).After-part-o in
    record { inside = w.0; even = c.requires.even; room = roomy-less w.1 c.requires.room }

pub copy_columns-requires : goal.copy_columns-requires
copy_columns-requires c =
    let w = within (goal.at.copy_columns-requires c).After-part-o in
    record { inside = w.0; even = c.requires.even; room = roomy-less w.1 c.requires.room }

pub returns-then-s-lt-FEW : goal.returns-then-s-lt-FEW
returns-then-s-lt-FEW c =
    let a = c.args in
    c.copy_records.ensures
    ∙ copied_part a.rtl a.m a.at a.k a.s c.part-i.result c.part-o.result (columns_read a.line) _
    c.requires.even c.requires.inside c.part-i.ensures c.part-o.ensures

pub returns-else-s-lt-FEW : goal.returns-else-s-lt-FEW
returns-else-s-lt-FEW c =
    let a = c.args in
    c.copy_columns.ensures
    ∙ copied_part a.rtl a.m a.at a.k a.s c.part-i.result c.part-o.result (columns_read a.line) _
    c.requires.even c.requires.inside c.part-i.ensures c.part-o.ensures
