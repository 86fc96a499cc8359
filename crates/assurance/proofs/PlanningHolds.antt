-- The promises of the call that makes a plan hold.
-- Assumes nothing.
use mathlib.Core.Path.{◌≡◌, refl, sym, ap, ◌∙◌, subst}
use mathlib.Core.Bool.{Bool, true, false, false≢true}
use mathlib.Core.List.{List, [], ◌++◌}
use Prim.Native.Nat.{ℕ, zero, suc, ◌<◌, ◌≤◌}
use native.Mathlib.Omega.{arith}
use borrow.Author.Tests.{ne_eqb, eq-eqb, le-ltb}
use lib.ListN.{length, take, drop}
use lib.Seq.{take_at}
use Rattle.laws.specs.Lists.{Past}
use Rattle.laws.proofs.PartLaws.{past_same, past-front}
use Rattle.laws.specs.Rows.{first}
use Rattle.laws.proofs.TestLaws.{both}
use Rattle.std.specs.Prelude.{Ok, Err}
use Rattle.refusals.specs.declared.Refusal.{Refusal}
use Rattle.refusals.specs.declared.Refusal.TheVariants.{Uneven}
use Rattle.refusals.specs.Numbers.{Verdict, said}
use Rattle.refusals.proofs.VerdictLaws.{same-said, refused_number}
use Rattle.refusals.proofs.LeftLaws.{left-number, left_stays, left-accepted}
use Rattle.refusals.proofs.PromiseLaws.{kept}
use Rattle.drafts.specs.Entries.{Entry, size_of, all_bytes}
use Rattle.windows.specs.Windows.{signed, windows}
use Rattle.fallback.specs.Plan.{Inputs, unicode, plan}
use Rattle.fallback.specs.Planned.{PlanAnswer, plan_said, PlanOutcome, outcome_said, nothing, made, lent_rows, plan_refusal, Planning}
use Rattle.fallback.specs.Switch.{fallback_on}
use Rattle.assurance.specs.Planning.{Promised, Says, AcceptedPlans, AtMostSeven, total, PastTheAnswer, UnicodeFirst, WindowsSecond, EmptyOtherwise, SwitchedOn}
use Rattle.assurance.proofs.OriginLaws.{plan-few}
use Rattle.assurance.proofs.PlanLaws.{Passed, passed, total-lengths, length-padded}

-- a refusal is known by its number
refusal_in : Verdict → Refusal
refusal_in (Ok x) = Uneven
refusal_in (Err k) = k

-- an answer is known by what it says
same-plan : (r u : PlanAnswer) (left other : List ℕ) → said r ≡ said u → outcome_said r left ≡ outcome_said u other → r ≡ u
unfolding refusal_in
same-plan (Ok p) (Ok q) left other e f = ap (λ (o : PlanOutcome). Ok (record { count = o.count; masks = o.masks; lengths = o.lengths })) f
same-plan (Ok p) (Err k) left other e f = absurd (refused_number k (sym e))
same-plan (Err k) (Ok q) left other e f = absurd (refused_number k e)
same-plan (Err k) (Err l) left other e f = ap (λ (v : Verdict). Err (refusal_in v)) (same-said (Err k) (Err l) e)

pub promised : Promised
unfolding plan_refusal
promised =
    kept {told = outcome_said} {old = nothing} {new = λ i. made (plan i)}
    (record {
      says = λ i area r left x. x;
      rising = λ i area. refl;
      fixed = λ r u left other n o. (same-plan r u left other n o, ap (λ (x : PlanOutcome). x.area) o);
      idle = λ r area left o. (ap (λ (x : PlanOutcome). x.area) o, (ap (λ (x : PlanOutcome). x.count) o, ap (λ (x : PlanOutcome). x.masks) o, ap (λ (x : PlanOutcome). x.lengths) o));
    })

-- ---- what the call leaves if it is refused, and if it is not
says-made : (entries : List Entry) (area : List ℕ) (r : PlanAnswer) (left : List ℕ) → outcome_said r left ≡ made entries area → Says entries r left
says-made entries area r left e =
    record {
      counted = ap (λ (o : PlanOutcome). o.count) e;
      masked = ap (λ (o : PlanOutcome). o.masks) e;
      measured = ap (λ (o : PlanOutcome). o.lengths) e;
      begins = ap (λ (o : PlanOutcome). take (length (all_bytes entries)) o.area) e ∙ take_at (all_bytes entries) (drop (length (all_bytes entries)) area) (length (all_bytes entries)) refl;
    }

module _ (i : Inputs) (area : List ℕ) (r : PlanAnswer) (left : List ℕ) (x : Planning i area r left) where
  pub number-given : said r ≡ plan_refusal i (length area)
  number-given = left-number (plan_refusal i (length area)) (nothing area) (made (plan i) area) (said r) (outcome_said r left) x

  unaltered : (said r ≡ 0 → ⊥) → outcome_said r left ≡ nothing area
  unaltered = left_stays (plan_refusal i (length area)) (nothing area) (made (plan i) area) (said r) (outcome_said r left) x

  done : said r ≡ 0 → outcome_said r left ≡ made (plan i) area
  done = left-accepted (plan_refusal i (length area)) (nothing area) (made (plan i) area) (said r) (outcome_said r left) x

  pub plans : said r ≡ 0 → Says (plan i) r left
  plans z = says-made (plan i) area r left (done z)

  pub not_refused : said r ≡ 0 → Passed i (length area)
  not_refused z = passed i (length area) (sym number-given ∙ z)

  pub area-left : said r ≡ 0 → left ≡ all_bytes (plan i) ++ drop (length (all_bytes (plan i))) area
  area-left z = ap (λ (o : PlanOutcome). o.area) (done z)

pub accepted-plans : AcceptedPlans
accepted-plans = plans

-- of a call, accepted or not
module _ (i : Inputs) (area : List ℕ) (r : PlanAnswer) (left : List ℕ) (x : Planning i area r left) where
  either_way : (P : Type 0) → (said r ≡ 0 → P) → ((said r ≡ 0 → ⊥) → P) → P
  either_way P f g = go (said r) refl
    where
      go : (n : ℕ) → said r ≡ n → P
      go zero e = f e
      go (suc n) e = g (λ z. omega (arith, e, z))

  few-said : ((plan_said r).count ≤ 7) × (length (plan_said r).masks ≡ 7) × (length (plan_said r).lengths ≡ 7)
  few-said = either_way _ on off
    where
      on : said r ≡ 0 → ((plan_said r).count ≤ 7) × (length (plan_said r).masks ≡ 7) × (length (plan_said r).lengths ≡ 7)
      on z =
          let s = plans i area r left x z in
          (omega (arith, s.counted, plan-few i), ap length s.masked ∙ length-padded (λ e. e.mask) (plan i) (plan-few i), ap length s.measured ∙ length-padded size_of (plan i) (plan-few i))

      off : (said r ≡ 0 → ⊥) → ((plan_said r).count ≤ 7) × (length (plan_said r).masks ≡ 7) × (length (plan_said r).lengths ≡ 7)
      off d =
          let s = (promised.refused_stays i area r left x d).1 in
          (omega (arith, s.0), ap length s.1, ap length s.2)

  past : Past (total (plan_said r).lengths) area left
  past = either_way _ on off
    where
      on : said r ≡ 0 → Past (total (plan_said r).lengths) area left
      on z =
          past-front (length (all_bytes (plan i))) (all_bytes (plan i)) area left refl (not_refused i area r left x z).enough (area-left i area r left x z) (total (plan_said r).lengths)
          (ap total (plans i area r left x z).measured ∙ total-lengths (plan i))

      off : (said r ≡ 0 → ⊥) → Past (total (plan_said r).lengths) area left
      off d = rw (promised.refused_stays i area r left x d).0 (past_same (total (plan_said r).lengths) area)

pub at-most-seven : AtMostSeven
at-most-seven = few-said

pub past_the_answer : PastTheAnswer
past_the_answer = past

-- ---- which lookups are planned
module _ (i : Inputs) where
  pub plan-unicode : 0 < length (unicode i) → plan i ≡ unicode i
  unfolding plan
  plan-unicode h = rw (ne_eqb (length (unicode i)) 0 (λ z. omega (arith, h, z)))

  module _ (none : length (unicode i) ≡ 0) where
    plan-windows : signed i.font ≡ true → plan i ≡ windows i.masks
    unfolding plan
    plan-windows s = rw (eq-eqb (length (unicode i)) 0 none, s)

    plan-empty : signed i.font ≡ false → plan i ≡ []
    unfolding plan
    plan-empty s = rw (eq-eqb (length (unicode i)) 0 none, s)

pub unicode-first : UnicodeFirst
unicode-first i area r left x z h = subst (λ (es : List Entry). Says es r left) (plan-unicode i h) (plans i area r left x z)

pub windows-second : WindowsSecond
windows-second i area r left x z none s = subst (λ (es : List Entry). Says es r left) (plan-windows i none s) (plans i area r left x z)

-- no lookup takes no room
refusal-empty : (i : Inputs) (room : ℕ) → plan i ≡ [] → plan_refusal i room ≡ first (lent_rows i)
unfolding plan_refusal all_bytes
refusal-empty i room e = rw (e, le-ltb room 0 (omega arith))

module _ (i : Inputs) (area : List ℕ) (r : PlanAnswer) (left : List ℕ) (x : Planning i area r left) where
  -- and leaves what a refusal leaves
  as_it_was : plan i ≡ [] → outcome_said r left ≡ made [] area
  unfolding all_bytes
  as_it_was e = either_way i area r left x _ (λ z. done i area r left x z ∙ ap (λ (es : List Entry). made es area) e) (unaltered i area r left x)

pub empty_otherwise : EmptyOtherwise
unfolding all_bytes
empty_otherwise i area r left x none s =
    let e : plan i ≡ [] = plan-empty i none s in
    let g : outcome_said r left ≡ made [] area = as_it_was i area r left x e in
    (number-given i area r left x ∙ refusal-empty i (length area) e, ap (λ (o : PlanOutcome). o.area) g, says-made [] area r left g)

-- ---- whether there is to be a plan
pub switched_on : SwitchedOn
switched_on true needs = (on, λ p. rw (p.1, p.2, p.3, p.4))
  where
    on : fallback_on true needs ≡ true → (◌≡◌ {A = Bool} true true) × (needs.isol ≡ true) × (needs.fina ≡ true) × (needs.medi ≡ true) × (needs.init ≡ true)
    on e =
        let a = both needs.isol _ e in
        let b = both needs.fina _ a.1 in
        let c = both needs.medi needs.init b.1 in
        (refl, a.0, b.0, c.0, c.1)
switched_on false needs = (λ e. absurd (false≢true e), λ p. p.0)
