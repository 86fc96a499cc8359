-- What the lookups of an accepted plan promise, by the statement of the call (`Planning` of crate fallback) and that of the reader (`Reading` of crate reading): `longest`, `NeverFive` that each can be written; `room_for_any`, `NeverTooShort` that all of them go into an area of the header's size; `FollowsTheOrder`, `InStableOrder` which there are, of which rules each is made, and in which order; `cut_out`, `EveryLookupReadsBack` that each is read back from the area; `most_glyphs`, `EveryPlaceReads` the same, said of the answer alone.
-- Assumes nothing.
use Rattle.std.specs.Prelude.{◌≡◌, ℕ, ◌*◌, ◌<◌, ◌≤◌, length, get_or, take, drop}
use mathlib.Core.List.{List, ◌∷◌, ◌++◌, Memᴰ}
use Rattle.refusals.specs.Numbers.{said}
use Rattle.layouts.specs.Tables.{Rule, first}
use Rattle.layouts.specs.Written.{write_refusal}
use Rattle.ordering.specs.Order.{Stable}
use Rattle.drafts.specs.Entries.{Entry, size_of, rule_limit, longest_plan}
use Rattle.fallback.specs.Plan.{Inputs, plan}
use Rattle.fallback.specs.Planned.{PlanAnswer, plan_said, Planning}
use Rattle.reading.specs.Read.{Columns, Answer, Reading}
use Rattle.fidelity.specs.Reading.{lookup_said}
use Rattle.assurance.specs.Origins.{Origin, origins, rules_of, From, Made}
use Rattle.assurance.specs.Planning.{total}

-- ---- each can be written
-- the most bytes that a lookup of a plan has: 1,024 ligatures of three components, each a set of its own
abbrev pub longest : ℕ
longest = 16402

-- A plan is never refused with 5, and cannot meet it: the writer refuses no lookup of an accepted plan, lent an area of its size, and none is longer than `longest`.
abbrev pub NeverFive : Type 0
NeverFive =
    (i : Inputs) (area : List ℕ) (r : PlanAnswer) (left : List ℕ) → Planning i area r left
    → (said r ≡ 5 → ⊥)
    × (said r ≡ 0 → (before : List Entry) (e : Entry) (behind : List Entry) → plan i ≡ before ++ (e ∷ behind)
    → (write_refusal e.lookup (size_of e) ≡ 0) × (size_of e ≤ longest))

-- the bytes of the longest plan, as the C header has them (TT_LONGEST_PLAN): an upper bound, and met where no mask is 0, each of the four lists has 1,024 rows, every row gives its rules, and no two first glyphs of a list are equal
abbrev pub room_for_any : ℕ
room_for_any = 61566

-- An area of that many bytes is never too short: lent one, no call is refused with 8, whatever else is lent. The memory in which code makes a plan has the same size (`longest_plan`).
abbrev pub NeverTooShort : Type 0
NeverTooShort =
    (longest_plan ≡ room_for_any)
    × ((i : Inputs) (area : List ℕ) (r : PlanAnswer) (left : List ℕ) → Planning i area r left → room_for_any ≤ length area → said r ≡ 8 → ⊥)

-- ---- of which rules, and in which order
-- "The plan follows 001's order, zero masks skipped": each of its origins that has a mask and a rule is planned, in their order, and no other.
abbrev pub FollowsTheOrder : Type 0
FollowsTheOrder =
    (i : Inputs) (area : List ℕ) (r : PlanAnswer) (left : List ℕ) → Planning i area r left → said r ≡ 0 → Made (origins i) (plan i)

-- Each lookup is made of one of the plan's origins: its rules are in stable order by first glyph, and no other list is.
abbrev pub InStableOrder : Type 0
InStableOrder =
    (i : Inputs) (area : List ℕ) (r : PlanAnswer) (left : List ℕ) → Planning i area r left → said r ≡ 0
    → (before : List Entry) (e : Entry) (behind : List Entry) → plan i ≡ before ++ (e ∷ behind)
    → (o : Origin) × Memᴰ o (origins i) × From o e × ((m : List Rule) → Stable first o.rules m → m ≡ rules_of e.lookup)

-- ---- each is read back
-- the bytes of the lookup at place k: as many as its answered length, behind those of the lookups before it
abbrev pub cut_out : ℕ → PlanAnswer → List ℕ → List ℕ
cut_out k r area = take (get_or (plan_said r).lengths k 0) (drop (total (take k (plan_said r).lengths)) area)

-- Cut out of the area by the answered lengths and read into columns that have room, each lookup of the plan is read, and reads as it was planned: flags, kind and list. Its mask is answered at its place.
abbrev pub EveryLookupReadsBack : Type 0
EveryLookupReadsBack =
    (i : Inputs) (area : List ℕ) (r : PlanAnswer) (left : List ℕ) → Planning i area r left → said r ≡ 0
    → (before : List Entry) (e : Entry) (behind : List Entry) → plan i ≡ before ++ (e ∷ behind)
    → (c : Columns) → length e.lookup.glyphs ≤ length c.glyphs → length e.lookup.substitutes ≤ length c.substitutes
    → (a : Answer) (list : Columns) → Reading (cut_out (length before) r left) c a list
    → (said a ≡ 0) × (lookup_said a list ≡ e.lookup) × (get_or (plan_said r).masks (length before) 0 ≡ e.mask)

-- 1,024 rules of three glyphs
abbrev pub most_glyphs : ℕ
most_glyphs = 3 * rule_limit

-- So whoever has only the answer and the area, and columns for any list, reads at each place below the count a lookup made of one of the plan's origins, under the mask answered there.
abbrev pub EveryPlaceReads : Type 0
EveryPlaceReads =
    (i : Inputs) (area : List ℕ) (r : PlanAnswer) (left : List ℕ) → Planning i area r left → said r ≡ 0
    → (k : ℕ) → k < (plan_said r).count → (c : Columns) → most_glyphs ≤ length c.glyphs → rule_limit ≤ length c.substitutes
    → (a : Answer) (list : Columns) → Reading (cut_out k r left) c a list
    → (said a ≡ 0) × ((o : Origin) × Memᴰ o (origins i) × From o (record { mask = get_or (plan_said r).masks k 0; lookup = lookup_said a list }))
