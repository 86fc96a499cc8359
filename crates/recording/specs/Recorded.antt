-- Recording `stch` (document 01, "Stretching"): `RecordRequest`, `record_request` what is asked for; `RecordOutcome`, `record_outcome` what is there afterwards; `some` that a yes-or-no column says yes; `tile`, `new_action_lem`, `new_actions` the
-- action that a record gets; `recorded` what recording gives; `rows_of`, `record_rows`, `record_refusal` when it is refused, and with which number; `Answer` what the call answers, `recorded_said` what it says;
-- `record_after`, `Recording` what the call answers and leaves, of every input.
-- Assumes nothing.
use Rattle.std.specs.Prelude.{◌≡◌, Bool, false, cond, not, ◌||◌, List, [], ◌∷◌, ℕ, ◌%◌, eqb, ltb, length, Result, Ok, Err}
use Rattle.laws.specs.Rows.{Row, Given, first}
use Rattle.refusals.specs.declared.Refusal.{Refusal}
use Rattle.refusals.specs.Numbers.{said}
use Rattle.refusals.specs.Columns.{line_limit, yes}
use Rattle.refusals.specs.Left.{Left, After, leaves}
use Rattle.letters.specs.Actions.{fixed, repeating}

-- the mask of `stch`, which records are multiplied, and their component numbers
pub record RecordRequest : Type 0 where
  pub mask : ℕ
  pub multiplied : List ℕ
  pub components : List ℕ

-- whether any was recorded, and the column of actions afterwards
pub record RecordOutcome : Type 0 where
  pub recorded : Bool
  pub actions : List ℕ

abbrev pub record_request : ℕ → List ℕ → List ℕ → RecordRequest
record_request mask multiplied components = record { mask = mask; multiplied = multiplied; components = components }

abbrev pub record_outcome : Bool → List ℕ → RecordOutcome
record_outcome recorded actions = record { recorded = recorded; actions = actions }

-- any of a column says yes
abbrev pub some : List ℕ → Bool
some [] = false
some (n ∷ column) = yes n || some column

-- "repeating if its component number is odd, else fixed"
abbrev pub tile : ℕ → ℕ
tile component = cond (eqb (component % 2) 1) repeating fixed

-- "Recording gives each multiplied record" this; any other keeps its action
unfoldable pub new_action_lem : ℕ → ℕ → ℕ → ℕ
new_action_lem multiplied component action = cond (yes multiplied) (tile component) action

-- record by record; of columns of unequal length, up to the shortest
abbrev pub new_actions : List ℕ → List ℕ → List ℕ → List ℕ
new_actions [] components actions = []
new_actions (m ∷ multiplied) [] actions = []
new_actions (m ∷ multiplied) (c ∷ components) [] = []
new_actions (m ∷ multiplied) (c ∷ components) (a ∷ actions) = new_action_lem m c a ∷ new_actions multiplied components actions

-- "Without a `stch` mask, or without a multiplied record, nothing happens. Its answer says whether any was recorded": that nothing happens without
-- a multiplied record needs no case of its own
abbrev pub recorded : RecordRequest → List ℕ → RecordOutcome
recorded q actions =
    cond (yes q.mask) (record_outcome (some q.multiplied) (new_actions q.multiplied q.components actions)) (record_outcome false actions)

-- the rows of document 01's table that recording uses, for columns of n, m and k records
abbrev pub rows_of : ℕ → ℕ → ℕ → List Row
rows_of n m k =
    Given 1 (not (eqb n m) || not (eqb n k)) ∷
    Given 2 (ltb line_limit n) ∷
    []

-- for a request on a column of actions, with or without a mask; and the number that it is refused with, 0 if it is not
abbrev pub record_rows : RecordRequest → List ℕ → List Row
record_rows q actions = rows_of (length q.multiplied) (length q.components) (length actions)

unfoldable pub record_refusal : RecordRequest → List ℕ → ℕ
record_refusal q actions = first (record_rows q actions)

-- whether any record was recorded, or why the call is refused; a refusal says that nothing was recorded
abbrev pub Answer : Type 0
Answer = Result Bool Refusal

abbrev pub recorded_said : Answer → Bool
recorded_said (Ok any) = any
recorded_said (Err k) = false

-- the call: a refusal gives its number, and leaves the actions as they were
abbrev pub record_after : RecordRequest → List ℕ → Left RecordOutcome
record_after q actions = leaves (record_refusal q actions) (record_outcome false actions) (recorded q actions)

-- the statement of `record_stch`: asked for q on a column of actions, it may answer r and leave the column `left`
abbrev pub Recording : RecordRequest → List ℕ → Answer → List ℕ → Type 0
Recording q actions r left = After (said r) (record_outcome (recorded_said r) left) ≡ record_after q actions
