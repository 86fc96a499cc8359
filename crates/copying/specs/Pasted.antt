-- Columns written over: `pasted_all` records copied, in each column; `EvenLine` that a line's columns are of one length, `Roomy` that an output's have room; `Copyable`, `PartCopied` what copying a part asks for and promises.
-- Assumes nothing.
use Rattle.std.specs.Prelude.{◌≡◌, ℕ, ◌+◌, ◌≤◌, length}
use Rattle.std.proofs.Math.Seq.{slice}
use denote.Triple.Both.{Both}
use Rattle.laws.specs.Lists.{pasted}
use Rattle.runs.specs.Records.{Columns, columns}

-- s records of a line from i on, written over those of an output from o on, in each column
unfoldable pub pasted_all : ℕ → ℕ → Columns → ℕ → Columns → Columns
pasted_all i s c o b =
    columns
    (pasted (slice i (i + s) c.glyphs) o b.glyphs)
    (pasted (slice i (i + s) c.widths) o b.widths)
    (pasted (slice i (i + s) c.categories) o b.categories)
    (pasted (slice i (i + s) c.ignorables) o b.ignorables)
    (pasted (slice i (i + s) c.actions) o b.actions)
    (pasted (slice i (i + s) c.advances) o b.advances)
    (pasted (slice i (i + s) c.offsets) o b.offsets)

-- a line's columns are of one length
pub record EvenLine (c : Columns) : Type 0 where
  pub even_glyphs : length c.glyphs ≡ length c.actions
  pub even_widths : length c.widths ≡ length c.actions
  pub even_categories : length c.categories ≡ length c.actions
  pub even_ignorables : length c.ignorables ≡ length c.actions
  pub even_advances : length c.advances ≡ length c.actions
  pub even_offsets : length c.offsets ≡ length c.actions

-- each column has room for m records
pub record Roomy (m : ℕ) (c : Columns) : Type 0 where
  pub for_glyphs : m ≤ length c.glyphs
  pub for_widths : m ≤ length c.widths
  pub for_categories : m ≤ length c.categories
  pub for_ignorables : m ≤ length c.ignorables
  pub for_actions : m ≤ length c.actions
  pub for_advances : m ≤ length c.advances
  pub for_offsets : m ≤ length c.offsets

-- the part is one of the line, and comes within the output
pub record Copyable (i s : ℕ) (line : Columns) (o : ℕ) (output : Columns) : Type 0 where
  pub inside : i + s ≤ length line.actions
  pub even : EvenLine line
  pub room : Roomy (o + s) output

-- it stands in the output as it was lent, and nothing else is written
abbrev pub PartCopied : ℕ → ℕ → Columns → ℕ → Both Columns Columns → Type 0
PartCopied i s line o output = output.exit ≡ pasted_all i s line o output.entry
