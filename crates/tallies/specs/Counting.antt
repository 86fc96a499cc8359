-- What a case comes to, and how cases are counted.
--   judged   what a case comes to
--   is_case_lem   whether it is a case at all
--   is_off_lem    whether it is a case that differs
--   last     the largest number that is counted to
--   up       one more
--   counted  the tally with one more case
--   goes_on_lem   whether there is a case to count
-- Assumes nothing.
use Rattle.std.specs.Prelude.{ℕ, ◌+◌, Bool, true, false, cond, ◌&&◌, ltb}
use Rattle.tallies.specs.declared.Outcome.{Outcome}
use Rattle.tallies.specs.declared.Outcome.TheVariants.{Same, Differs, End, Unreadable}
use Rattle.tallies.specs.declared.Tally.{Tally}

-- What a case comes to: it is unreadable if its body is not of the form, whatever was compared, and differs unless all
-- comparisons agree.
abbrev pub judged : Bool → Bool → Outcome
judged formed agrees = cond formed (cond agrees Same Differs) Unreadable

-- Whether it is a case at all: one that is as it must be, or one that differs.
abbrev pub is_case_lem : Outcome → Bool
is_case_lem Same = true
is_case_lem Differs = true
is_case_lem End = false
is_case_lem Unreadable = false

-- Whether it is a case that differs.
abbrev pub is_off_lem : Outcome → Bool
is_off_lem Same = false
is_off_lem Differs = true
is_off_lem End = false
is_off_lem Unreadable = false

-- The largest number that is counted to.
abbrev pub last : ℕ
last = 18446744073709551615

-- One more, if asked for; the largest number stays.
abbrev pub up : Bool → ℕ → ℕ
up more n = cond (more && ltb n last) (n + 1) n

-- The tally with one more case; the end and what is unreadable leave it as it is.
abbrev pub counted : Tally → Outcome → Tally
counted t what = record { cases = up (is_case_lem what) t.cases; differ = up (is_off_lem what) t.differ }

-- Whether this is a case, and can be counted.
abbrev pub goes_on_lem : Tally → Outcome → Bool
goes_on_lem t what = is_case_lem what && ltb t.cases last
