-- Records laid into lent columns: `laid_on` one column of records laid in the order of the work, from a place on; `laid` all seven; `LaidIn` that an output has them so; `Keepable`, `PartKept` what keeping a part of a line asks for and promises.
-- Assumes nothing.
use Rattle.std.specs.Prelude.{◌≡◌, Bool, List, map, ℕ, ◌+◌, ◌≤◌, length, take, drop}
use denote.Triple.Both.{Both}
use Rattle.runs.specs.Records.{Record, Columns, columns}
use Rattle.runs.specs.Stretched.{in_order, work, part_of}
use Rattle.laws.specs.Lists.{pasted}
use Rattle.copying.specs.Pasted.{EvenLine, Roomy}

-- a column of the first m records of a line, with records laid there that come from the k-th on in the order of the work
unfoldable pub laid_on : {A : Type 0} → (Record → A) → Bool → ℕ → ℕ → List Record → List A → List A
laid_on f rtl m k l column = pasted (in_order rtl (map f l)) (part_of rtl m k (length l)) column

unfoldable pub laid : Bool → ℕ → ℕ → List Record → Columns → Columns
laid rtl m k l c =
    columns
    (laid_on (λ (r : Record). r.glyph) rtl m k l c.glyphs)
    (laid_on (λ (r : Record). r.width) rtl m k l c.widths)
    (laid_on (λ (r : Record). r.category) rtl m k l c.categories)
    (laid_on (λ (r : Record). r.ignorable) rtl m k l c.ignorables)
    (laid_on (λ (r : Record). r.action) rtl m k l c.actions)
    (laid_on (λ (r : Record). r.advance) rtl m k l c.advances)
    (laid_on (λ (r : Record). r.offset) rtl m k l c.offsets)

-- an output comes back as it was lent, with records laid there
abbrev pub LaidIn : Bool → ℕ → ℕ → List Record → Both Columns Columns → Type 0
LaidIn rtl m k l output = output.exit ≡ laid rtl m k l output.entry

-- the s records from the k-th on are in the line, and those from the `at`-th on among the m of the output
pub record Keepable (k s : ℕ) (line : Columns) (m at : ℕ) (output : Columns) : Type 0 where
  pub inside : k + s ≤ length line.actions
  pub there : at + s ≤ m
  pub even : EvenLine line
  pub room : Roomy m output

-- these records of the line, laid in the output
abbrev pub PartKept : Bool → ℕ → ℕ → Columns → ℕ → ℕ → Both Columns Columns → Type 0
PartKept rtl k s line m at output = LaidIn rtl m at (take s (drop k (work rtl line))) output
