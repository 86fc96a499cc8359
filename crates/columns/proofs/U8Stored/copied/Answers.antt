-- `columns::U8Stored::copied` meets its contract: the bytes of a body are its elements of width 1.
-- Assumes nothing.
use mathlib.Core.Path.{◌≡◌, ap, ◌∙◌}
use native.Mathlib.Omega.{arith}
use lib.ListN.{length, drop, length-append, length-drop}
use lib.Seq.{take_at}
use Rattle.std.proofs.lemmas.List.{map-id}
use Rattle.columns.specs.Form.{elements}
use Rattle.columns.proofs.FormLaws.{bytes_are, length-elements}
use Rattle.columns.proofs.U8Stored.copied.Goals as goal

pub returns-clause-all : goal.returns-clause-all
returns-clause-all c = λ yes.
    let a = c.args in
    let part = c.copy_from_slice.new.self in
    let is : part ≡ elements a.bytes.now 1 a.at a.count = c.copy_from_slice.ensures.after ∙ bytes_are a.bytes.now a.at a.count (omega arith) in
    let long : length part ≡ a.count = ap length is ∙ length-elements a.bytes.now 1 a.at a.count in (
      length-append part (drop a.count a.out.now) ∙ omega (arith, length-drop a.count a.out.now, long),
      rw map-id (take_at part (drop a.count a.out.now) a.count long ∙ is),
    )
