-- What reading a case gives: `within` whether a body that was read lies in its room; `stopped` what it comes to that there is none;
-- `Turned` that what is counted as a case is what the replay answers.
-- Assumes nothing.
use Rattle.std.specs.Prelude.{ℕ, List, ◌≡◌, Bool, true, leb}
use Rattle.replays.specs.declared.Case.{Case}
use Rattle.replays.specs.declared.Case.TheVariants.{Body, End, Unreadable}
use Rattle.tallies.specs.declared.Outcome.{Outcome}
use Rattle.tallies.specs.declared.Outcome.TheVariants as outcome
use Rattle.tallies.specs.Counting.{is_case_lem}

-- Whether a body that was read is no longer than its room; the end and what is unreadable have no body.
abbrev pub within : Case → ℕ → Bool
within (Body n) room = leb n room
within End room = true
within Unreadable room = true

-- What it comes to that there is no body: the end of the input, or bytes that are no case. A body by itself says nothing yet, and
-- counts as the second.
abbrev pub stopped : Case → Outcome
stopped (Body n) = outcome.Unreadable
stopped End = outcome.End
stopped Unreadable = outcome.Unreadable

-- A turn that comes to a case comes to what the replay may answer of some bytes.
abbrev pub Turned : (List ℕ → Outcome → Type 0) → Outcome → Type 0
Turned answers what = is_case_lem what ≡ true → (bytes : List ℕ) × answers bytes what
