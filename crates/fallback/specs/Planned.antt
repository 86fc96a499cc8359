-- The call that makes a plan: `flat_by`, `even`, `limited`, `short`, `lent_rows`, `room_row`, `plan_rows`, `plan_refusal` when it is refused, and with which number; `PlanOutcome`, `plan_outcome`, `nothing`, `made` what is there afterwards; `PlanAnswer`, `plan_said`, `outcome_said` an answer, and the plan that it says; `Settled`, `Settles` the last step of it; `plan_after`, `Planning` what the call answers and leaves, of every input.
-- Assumes nothing.
use Rattle.std.specs.Prelude.{◌≡◌, Bool, not, ◌&&◌, List, [], ◌∷◌, ◌++◌, ℕ, ◌*◌, eqb, leb, ltb, length, drop, Result, Ok, Err}
use Rattle.laws.specs.Rows.{Row, Given, first}
use Rattle.refusals.specs.declared.Refusal.{Refusal}
use Rattle.refusals.specs.Numbers.{said}
use Rattle.refusals.specs.Columns.{rising}
use Rattle.refusals.specs.Left.{Left, After, leaves}
use Rattle.drafts.specs.Entries.{Entry, all_bytes, seven, masks_of, lengths_of, rule_limit}
use Rattle.drafts.specs.declared.Draft.{Draft}
use Rattle.drafts.specs.Drafted.{Drafted}
use Rattle.fallback.specs.declared.FallbackPlan.{FallbackPlan}
use Rattle.fallback.specs.Plan.{Inputs, plan}

-- n numbers for each row
abbrev pub flat_by : ℕ → List ℕ → List ℕ → Bool
flat_by n flat column = eqb (length flat) (length column * n)

-- columns that belong together: a glyph for each code, four forms for each shaping row, N components for each ligature
abbrev pub even : Inputs → Bool
even i =
    eqb (length i.font.codes) (length i.font.glyphs)
    && (flat_by 4 i.forms i.shaping
    && (flat_by 3 i.threes.components i.threes.ligatures
    && (flat_by 2 i.twos.components i.twos.ligatures
    && flat_by 2 i.marks.components i.marks.ligatures)))

-- "a rule list of the plan over 1,024 rows"
abbrev pub limited : List ℕ → Bool
limited column = leb (length column) rule_limit

abbrev pub short : Inputs → Bool
short i = limited i.shaping && (limited i.threes.ligatures && (limited i.twos.ligatures && limited i.marks.ligatures))

-- the rows of document 01's table that go by what is lent to read
abbrev pub lent_rows : Inputs → List Row
lent_rows i =
    Given 1 (not (even i)) ∷
    Given 2 (not (short i)) ∷
    -- "a font map whose codes do not rise strictly"
    Given 3 (not (rising 1 i.font.codes)) ∷
    []

-- "the lent output is shorter than the answer"
abbrev pub room_row : List Entry → ℕ → List Row
room_row entries room = Given 8 (ltb room (length (all_bytes entries))) ∷ []

-- all of its rows that the plan uses, for an area of so many bytes
abbrev pub plan_rows : Inputs → ℕ → List Row
plan_rows i room = lent_rows i ++ room_row (plan i) room

unfoldable pub plan_refusal : Inputs → ℕ → ℕ
plan_refusal i room = first (plan_rows i room)

-- how many entries, their masks and byte lengths in seven places each, and the area afterwards
pub record PlanOutcome : Type 0 where
  pub count : ℕ
  pub masks : List ℕ
  pub lengths : List ℕ
  pub area : List ℕ

abbrev pub plan_outcome : ℕ → List ℕ → List ℕ → List ℕ → PlanOutcome
plan_outcome count masks lengths area = record { count = count; masks = masks; lengths = lengths; area = area }

-- what the call answers: a plan, or why there is none
abbrev pub PlanAnswer : Type 0
PlanAnswer = Result FallbackPlan Refusal

-- "A refusal gives its number and zeros elsewhere"
abbrev pub nothing : List ℕ → PlanOutcome
nothing area = plan_outcome 0 seven seven area

-- "the lookups' bytes one after another from the start of the lent area"; "Output past the answer is untouched"
abbrev pub made : List Entry → List ℕ → PlanOutcome
made entries area = plan_outcome (length entries) (masks_of entries) (lengths_of entries) (all_bytes entries ++ drop (length (all_bytes entries)) area)

-- the plan that an answer says; a refusal says zeros
abbrev pub plan_said : PlanAnswer → FallbackPlan
plan_said (Ok p) = p
plan_said (Err k) = record { count = 0; masks = seven; lengths = seven }

-- what there is after the call
abbrev pub outcome_said : PlanAnswer → List ℕ → PlanOutcome
outcome_said r left = plan_outcome (plan_said r).count (plan_said r).masks (plan_said r).lengths left

abbrev pub plan_after : Inputs → List ℕ → Left PlanOutcome
plan_after i area = leaves (plan_refusal i (length area)) (nothing area) (made (plan i) area)

-- entries put into the area, if they go in
abbrev pub Settled : List Entry → List ℕ → PlanAnswer → List ℕ → Type 0
Settled entries area r left =
    After (said r) (outcome_said r left)
    ≡ leaves (first (room_row entries (length area))) (nothing area) (made entries area)

-- those of a draft
abbrev pub Settles : Draft → List ℕ → List ℕ → PlanAnswer → List ℕ → Type 0
Settles draft scratch area r left = (entries : List Entry) → Drafted entries draft scratch → Settled entries area r left

-- the statement of the call: lent these inputs and an area, it may answer r and leave the area `left`
abbrev pub Planning : Inputs → List ℕ → PlanAnswer → List ℕ → Type 0
Planning i area r left = After (said r) (outcome_said r left) ≡ plan_after i area
