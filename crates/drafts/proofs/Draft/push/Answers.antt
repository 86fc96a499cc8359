-- `drafts::Draft::push` meets its contract.
-- Assumes nothing.
use mathlib.Core.Path.{ap, ◌∙◌}
use Prim.Native.Nat.{◌≤◌, ◌+◌}
use lib.ListN.{length}
use native.Mathlib.Omega.{arith}
use borrow.Author.Rules.{rules}
use Rattle.words.proofs.WordLaws.{length-bytes}
use Rattle.layouts.specs.Lookups.{words_of}
use Rattle.drafts.specs.Entries.{most}
use Rattle.drafts.specs.Drafted.{noted}
use Rattle.drafts.specs.Lent.{lookup_in}
use Rattle.drafts.proofs.DraftLaws.{length-written, pushed}
use Rattle.drafts.proofs.RoomLaws.{Bounds, columns-bounds}
use Rattle.drafts.proofs.Draft.push.Goals as goal
use Rattle.drafts.proofs.Draft.push.Goals.{After-length, After-serialize-written}

-- what was asked: the lookup is not refused, and has at most so many bytes
fit : (b : After-serialize-written) → Bounds (lookup_in b.args.columns) b.args.self b.args.scratch.now
fit b =
    let small = b.serialize-written.ensures.small in
    columns-bounds b.args.columns (search rules) small.0 small.1 b.args.self b.args.scratch.now b.requires

-- the bytes of the lookup go into what is lent
in_scratch : (k : After-length) → k.args.self.end + k.length.result ≤ length k.args.scratch.now
in_scratch k =
    let a = k.args in
    let g = fit (search) in
    let l = lookup_in a.columns in
    let n = length-written l a.self.end a.scratch.now g.inside k.serialize-written.result k.serialize-written.new.area g.free k.serialize-written.ensures.written in
    omega (arith, k.length.ensures, n, length-bytes (words_of l), g.short, k.requires.room)

pub overflow_cast-length : goal.overflow_cast-length
overflow_cast-length c = omega (arith, in_scratch c, c.requires.bounded)

pub with-requires : goal.with-requires
with-requires c = (c.requires.place, omega (arith, in_scratch c, c.requires.bounded))

pub returns : goal.returns
returns c =
    let a = c.args in
    let g = fit (search) in
    pushed (lookup_in a.columns) a.mask a.self a.scratch.now g.inside c.serialize-written.result c.serialize-written.new.area g.free c.serialize-written.ensures.written c.requires.place (most a.columns.kind) g.short c.with.result (c.with.ensures ∙ ap (noted a.self a.mask) c.length.ensures)
