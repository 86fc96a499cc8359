-- The promises of stretching hold. Of an accepted request: the length (`count_left`), the records that the output begins with (`records-left`), a line of which something was recorded (`line-recorded`).
-- Assumes nothing.
use mathlib.Core.Path.{◌≡◌, refl, sym, ap, ◌∙◌}
use mathlib.Core.Bool.{Bool, true, false, cond}
use mathlib.Core.List.{List, [], ◌++◌, map}
use mathlib.Core.Logic.{inl, inr}
use Prim.Native.Nat.{ℕ, zero, suc, ◌+◌, ◌<◌, ◌≤◌}
use native.Mathlib.Omega.{arith}
use lib.ListN.{length, drop, length-map}
use Rattle.laws.specs.Lists.{those, Past}
use Rattle.laws.proofs.PartLaws.{past_same, past-front}
use Rattle.refusals.proofs.PromiseLaws as promises
use Rattle.runs.specs.Records.{Record, Columns, record_at, line_of, kept}
use Rattle.runs.specs.Runs.{is_tile, is_plain}
use Rattle.runs.specs.Stretched.{in_order, part_of, work, stretched, records_added}
use Rattle.runs.proofs.RecordLaws.{blank, get_d_listed, length-line, length-work, spot-below, work-at}
use Rattle.runs.proofs.StretchedLaws.{length-stretched}
use Rattle.refusals.specs.Numbers.{said}
use Rattle.stretching.specs.Stretching.{StretchRequest, StretchOutcome, stretch_outcome, new_line, laid_over, stretch_refusal, Answer, length_said, Stretching}
use Rattle.stretching.proofs.StretchingLaws.{same_answer, Allowed, allowed, number-given, accepted-left}
use Rattle.demands.specs.Stretching.{Promised, PastTheAnswer, records, GivenAsItIs, CountAdded, OthersStay, CopiesKeep, FromTheLine, RunsHaveNoAdvance, TurnedRound}
use Rattle.demands.proofs.WorkedLaws.{Every, every-at, every_more, Among, among-stretched, among-itself, plain-stretched, kept-stretched, Still, still-stretched, none-stretched, turned-stretched, records-glued}

pub promised : Promised
unfolding stretch_refusal
promised =
    promises.kept {told = λ r left. stretch_outcome (length_said r) left} {old = stretch_outcome 0} {new = λ q output. stretch_outcome (length (new_line q)) (laid_over (new_line q) output)}
    (record {
      says = λ q output r left x. x;
      rising = λ q output. refl;
      fixed = λ r u left other n o. (same_answer r u n (ap (λ (x : StretchOutcome). x.count) o), ap (λ (x : StretchOutcome). x.output) o);
      idle = λ r output left o. (ap (λ (x : StretchOutcome). x.output) o, ap (λ (x : StretchOutcome). x.count) o);
    })

-- ---- the output
-- a column over whose first places records are laid
past-laid : {A : Type 0} (f : Record → A) (l : List Record) (old : List A) → length l ≤ length old → Past (length l) old (map f l ++ drop (length l) old)
past-laid f l old h = past-front (length l) (map f l) old _ (length-map l f) h refl (length l) refl

module _ (q : StretchRequest) (output : Columns) (r : Answer) (left : Columns) (x : Stretching q output r left) where
  abbrev AllPast : ℕ → Columns → Type 0
  AllPast n c =
      Past n output.glyphs c.glyphs
      × Past n output.widths c.widths
      × Past n output.categories c.categories
      × Past n output.ignorables c.ignorables
      × Past n output.actions c.actions
      × Past n output.advances c.advances
      × Past n output.offsets c.offsets

  past_refused : (said r ≡ 0 → ⊥) → AllPast (length_said r) left
  past_refused d =
      rw (promised.refused_stays q output r left x d).0
      (past_same _ _, past_same _ _, past_same _ _, past_same _ _, past_same _ _, past_same _ _, past_same _ _)

  module _ (z : said r ≡ 0) where
    accepted : Allowed q output
    accepted = allowed q output (sym (number-given q output r left x) ∙ z)

    output-left : left ≡ laid_over (new_line q) output
    output-left = (accepted-left q output r left x z).0

    pub count_left : length_said r ≡ length (new_line q)
    count_left = (accepted-left q output r left x z).1

    past-accepted : AllPast (length_said r) left
    past-accepted =
        let m = accepted.room in
        rw (output-left, count_left) (
          past-laid (λ (t : Record). t.glyph) (new_line q) output.glyphs m.for_glyphs,
          past-laid (λ (t : Record). t.width) (new_line q) output.widths m.for_widths,
          past-laid (λ (t : Record). t.category) (new_line q) output.categories m.for_categories,
          past-laid (λ (t : Record). t.ignorable) (new_line q) output.ignorables m.for_ignorables,
          past-laid (λ (t : Record). t.action) (new_line q) output.actions m.for_actions,
          past-laid (λ (t : Record). t.advance) (new_line q) output.advances m.for_advances,
          past-laid (λ (t : Record). t.offset) (new_line q) output.offsets m.for_offsets,
        )

    -- the first records of the output are the new line
    pub records-left : records (length_said r) left ≡ new_line q
    records-left = rw (output-left, count_left) (records-glued (new_line q) _)

pub past_the_answer : PastTheAnswer
past_the_answer q output r left x = go (said r) refl
  where
    go : (n : ℕ) → said r ≡ n → AllPast q output r left x (length_said r) left
    go zero e = past-accepted q output r left x e
    go (suc n) e = past_refused q output r left x (λ z. omega (arith, e, z))

-- ---- an accepted request
module _ (q : StretchRequest) where
  line_unrecorded : q.recorded ≡ false → new_line q ≡ line_of q.line
  line_unrecorded e = rw e

  pub line-recorded : q.recorded ≡ true → new_line q ≡ stretched q.rtl (line_of q.line)
  line-recorded e = rw e

  -- whether it is recorded or not
  line-none : those is_tile (line_of q.line) ≡ [] → new_line q ≡ line_of q.line
  line-none z = go q.recorded
    where
      go : (t : Bool) → cond t (stretched q.rtl (line_of q.line)) (line_of q.line) ≡ line_of q.line
      go true = none-stretched q.rtl (line_of q.line) z
      go false = refl

  line_plain : those is_plain (new_line q) ≡ those is_plain (line_of q.line)
  line_plain = go q.recorded
    where
      go : (t : Bool) → those is_plain (cond t (stretched q.rtl (line_of q.line)) (line_of q.line)) ≡ those is_plain (line_of q.line)
      go true = plain-stretched q.rtl (line_of q.line)
      go false = refl

pub given_as_it_is : GivenAsItIs
given_as_it_is q output r left x z (inl e) =
    let same = line_unrecorded q e in
    (count_left q output r left x z ∙ ap length same ∙ length-line q.line, records-left q output r left x z ∙ same)
given_as_it_is q output r left x z (inr e) =
    let same = line-none q e in
    (count_left q output r left x z ∙ ap length same ∙ length-line q.line, records-left q output r left x z ∙ same)

pub count-added : CountAdded
unfolding work
count-added q output r left x z e =
    count_left q output r left x z
    ∙ ap length (line-recorded q e)
    ∙ length-stretched q.rtl (line_of q.line)
    ∙ ap (λ (n : ℕ). n + records_added false (in_order q.rtl (line_of q.line))) (length-line q.line)

pub others_stay : OthersStay
others_stay q output r left x z = ap (those is_plain) (records-left q output r left x z) ∙ line_plain q

pub copies-keep : CopiesKeep
unfolding work
copies-keep q output r left x z e =
    ap (λ (l : List Record). map kept (in_order q.rtl l)) (records-left q output r left x z ∙ line-recorded q e)
    ∙ kept-stretched q.rtl (line_of q.line)

-- a record of the output, as one of a list
module _ (q : StretchRequest) (output : Columns) (r : Answer) (left : Columns) (x : Stretching q output r left) (z : said r ≡ 0) (i : ℕ) (h : i < length_said r) where
  -- what holds of each record of the new line holds of it
  holds_at : (P : Record → Type 0) → Every P (new_line q) → P (record_at left i)
  holds_at P e =
      rw (← get_d_listed (record_at left) (length_said r) i blank h, records-left q output r left x z)
      (every-at P (new_line q) blank i e (omega (arith, h, count_left q output r left x z)))

-- five numbers are those of a record of a line, wherever it comes in the order of the work
abbrev Found : Columns → Record → Type 0
Found c t = (j : ℕ) × (j < length c.actions) × (kept t ≡ kept (record_at c j))

found-work : (rtl : Bool) (c : Columns) (t : Record) → Among (work rtl c) (kept t) → Found c t
found-work rtl c t a =
    let j : a.0 < length c.actions = omega (arith, a.1, length-work rtl c) in
    (part_of rtl (length c.actions) a.0 1, spot-below rtl (length c.actions) a.0 j, a.2 ∙ ap kept (work-at rtl c a.0 j))

all_found : (q : StretchRequest) → Every (Found q.line) (new_line q)
unfolding work in_order
all_found q = go q.recorded
  where
    go : (t : Bool) → Every (Found q.line) (cond t (stretched q.rtl (line_of q.line)) (line_of q.line))
    go true = every_more (λ (t : Record). Among (work q.rtl q.line) (kept t)) (Found q.line) (found-work q.rtl q.line) (stretched q.rtl (line_of q.line)) (among-stretched q.rtl (line_of q.line))
    go false = every_more (λ (t : Record). Among (work false q.line) (kept t)) (Found q.line) (found-work false q.line) (line_of q.line) (among-itself (line_of q.line))

pub from_the_line : FromTheLine
from_the_line q output r left x z i h = holds_at q output r left x z i h (Found q.line) (all_found q)

pub runs_have_no_advance : RunsHaveNoAdvance
runs_have_no_advance q output r left x z e i h = holds_at q output r left x z i h Still (rw (line-recorded q e) (still-stretched q.rtl (line_of q.line)))

pub turned_round : TurnedRound
turned_round = turned-stretched
