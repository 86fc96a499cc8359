-- A line that is written whole: `Writable`, `LineWritten` what that asks for and promises.
-- Assumes nothing.
use Rattle.std.specs.Prelude.{◌≡◌, Bool, true, false, ℕ, ◌≤◌, length}
use denote.Triple.Both.{Both}
use Rattle.refusals.specs.Columns.{line_limit, at_most}
use Rattle.letters.specs.Actions.{repeating}
use Rattle.runs.specs.Records.{Columns}
use Rattle.runs.specs.Stretched.{work, worked}
use Rattle.copying.specs.Pasted.{EvenLine, Roomy}
use Rattle.laying.specs.Laid.{LaidIn}

-- the line is one that is not refused, m is how many records it comes to, and the output has room for them
pub record Writable (rtl : Bool) (line : Columns) (m : ℕ) (output : Columns) : Type 0 where
  pub few : length line.actions ≤ line_limit
  pub known : at_most repeating line.actions ≡ true
  pub even : EvenLine line
  pub long : m ≡ length (worked rtl false (work rtl line))
  pub room : Roomy m output

-- the whole work, laid in the output
abbrev pub LineWritten : Bool → Columns → ℕ → Both Columns Columns → Type 0
LineWritten rtl line m output = LaidIn rtl m 0 (worked rtl false (work rtl line)) output
