-- The promises of recording hold.
-- Assumes nothing.
use mathlib.Core.Path.{◌≡◌, refl, sym, ap, ◌∙◌}
use mathlib.Core.Bool.{Bool, true, false, not, ◌||◌, true≢false, false≢true}
use mathlib.Core.List.{List, [], ◌∷◌}
use Prim.Native.Nat.{ℕ, zero, suc, ◌%◌}
use native.Mathlib.Omega.{arith}
use borrow.Author.Tests.{eqb-false, ne_eqb}
use lib.Dec.{eqb}
use lib.ListN.{length, get_or}
use Rattle.refusals.proofs.LeftLaws.{left-number, left-accepted}
use Rattle.refusals.proofs.PromiseLaws.{kept}
use Rattle.letters.specs.Actions.{fixed, repeating}
use Rattle.refusals.specs.Numbers.{said}
use Rattle.refusals.specs.Columns.{yes}
use Rattle.recording.specs.Recorded.{RecordRequest, RecordOutcome, record_outcome, some, tile, new_action_lem, new_actions, recorded, record_refusal, Answer, recorded_said, Recording}
use Rattle.recording.proofs.RecordedLaws.{same_answer, Allowed, allowed, recorded-masked, recorded-unmasked}
use Rattle.recording.proofs.ActionLaws.{none-multiplied}
use Rattle.demands.specs.Recording.{Promised, OnlyMultiplied, ByParity, SaysWhether, NothingHappens}

pub promised : Promised
unfolding record_refusal
promised =
    kept {told = λ r left. record_outcome (recorded_said r) left} {old = record_outcome false} {new = recorded}
    (record {
      says = λ q actions r left x. x;
      rising = λ q actions. refl;
      fixed = λ r u left other n o. (same_answer r u n (ap (λ (x : RecordOutcome). x.recorded) o), ap (λ (x : RecordOutcome). x.actions) o);
      idle = λ r actions left o. (ap (λ (x : RecordOutcome). x.actions) o, ap (λ (x : RecordOutcome). x.recorded) o);
    })

-- ---- record by record
new-action-plain : (ms cs acts : List ℕ) → length ms ≡ length cs → length ms ≡ length acts → (i : ℕ) → get_or ms i 0 ≡ 0 → get_or (new_actions ms cs acts) i 0 ≡ get_or acts i 0
unfolding new_action_lem
new-action-plain [] cs [] e f i z = refl
new-action-plain [] cs (a ∷ acts) e f i z = absurd (omega arith)
new-action-plain (m ∷ ms) [] acts e f i z = absurd (omega arith)
new-action-plain (m ∷ ms) (c ∷ cs) [] e f i z = absurd (omega arith)
new-action-plain (m ∷ ms) (c ∷ cs) (a ∷ acts) e f zero z = rw z
new-action-plain (m ∷ ms) (c ∷ cs) (a ∷ acts) e f (suc i) z = new-action-plain ms cs acts (omega arith) (omega arith) i z

new-action-multiplied : (ms cs acts : List ℕ) → length ms ≡ length cs → length ms ≡ length acts → (i : ℕ) → (get_or ms i 0 ≡ 0 → ⊥) → get_or (new_actions ms cs acts) i 0 ≡ tile (get_or cs i 0)
unfolding new_action_lem
new-action-multiplied [] cs acts e f i d = absurd (d refl)
new-action-multiplied (m ∷ ms) [] acts e f i d = absurd (omega arith)
new-action-multiplied (m ∷ ms) (c ∷ cs) [] e f i d = absurd (omega arith)
new-action-multiplied (m ∷ ms) (c ∷ cs) (a ∷ acts) e f zero d = rw (ne_eqb m 0 d)
new-action-multiplied (m ∷ ms) (c ∷ cs) (a ∷ acts) e f (suc i) d = new-action-multiplied ms cs acts (omega arith) (omega arith) i d

-- some record is multiplied exactly where there is one
some_at : (ms : List ℕ) → some ms ≡ true → (i : ℕ) × (get_or ms i 0 ≡ 0 → ⊥)
some_at [] e = absurd (false≢true e)
some_at (m ∷ ms) e = go (eqb m 0) refl e (some_at ms)
  where
    go : (t : Bool) → eqb m 0 ≡ t → (not t || some ms) ≡ true → (some ms ≡ true → (i : ℕ) × (get_or ms i 0 ≡ 0 → ⊥)) → (i : ℕ) × (get_or (m ∷ ms) i 0 ≡ 0 → ⊥)
    go true z e h = let g = h e in (suc g.0, g.1)
    go false z e h = (zero, eqb-false m 0 z)

some_where : (ms : List ℕ) (i : ℕ) → (get_or ms i 0 ≡ 0 → ⊥) → some ms ≡ true
some_where [] i d = absurd (d refl)
some_where (m ∷ ms) zero d = rw (ne_eqb m 0 d)
some_where (m ∷ ms) (suc i) d = go (yes m) (some_where ms i d)
  where
    go : (t : Bool) → some ms ≡ true → (t || some ms) ≡ true
    go true e = refl
    go false e = e

tile_odd : (c : ℕ) → c % 2 ≡ 1 → tile c ≡ repeating
tile_odd c e = rw e

tile-even : (c : ℕ) → c % 2 ≡ 0 → tile c ≡ fixed
tile-even c e = rw e

-- ---- a call: what it leaves
module _ (q : RecordRequest) (actions : List ℕ) (r : Answer) (left : List ℕ) (x : Recording q actions r left) where
  abbrev old : RecordOutcome
  old = record_outcome false actions

  module _ (z : said r ≡ 0) where
    accepted : Allowed q actions
    accepted = allowed q actions (sym (left-number (record_refusal q actions) old (recorded q actions) (said r) (record_outcome (recorded_said r) left) x) ∙ z)

    done : record_outcome (recorded_said r) left ≡ recorded q actions
    done = left-accepted (record_refusal q actions) old (recorded q actions) (said r) (record_outcome (recorded_said r) left) x z

    -- without a mask, and with one
    unmasked : q.mask ≡ 0 → (recorded_said r ≡ false) × (left ≡ actions)
    unmasked e =
        let g = done ∙ sym (recorded-unmasked q actions e) in
        (ap (λ (o : RecordOutcome). o.recorded) g, ap (λ (o : RecordOutcome). o.actions) g)

    masked : (q.mask ≡ 0 → ⊥) → (recorded_said r ≡ some q.multiplied) × (left ≡ new_actions q.multiplied q.components actions)
    masked d =
        let g = done ∙ sym (recorded-masked q actions d refl refl) in
        (ap (λ (o : RecordOutcome). o.recorded) g, ap (λ (o : RecordOutcome). o.actions) g)

-- a number is 0, or it is not
by_zero : {A : Type 0} (n : ℕ) → (n ≡ 0 → A) → ((n ≡ 0 → ⊥) → A) → A
by_zero zero f g = f refl
by_zero (suc n) f g = g (λ e. omega arith)

pub only-multiplied : OnlyMultiplied
only-multiplied q actions r left x i p =
    by_zero (said r)
    (λ z.
    let a = accepted q actions r left x z in
    by_zero q.mask
    (λ e. rw (unmasked q actions r left x z e).1)
    (λ d. rw (masked q actions r left x z d).1 (new-action-plain q.multiplied q.components actions a.even a.even-actions i p)))
    (λ d. rw (promised.refused_stays q actions r left x d).0)

pub by_parity : ByParity
by_parity q actions r left x z d i m =
    let a = accepted q actions r left x z in
    let g = ap (λ (l : List ℕ). get_or l i 0) (masked q actions r left x z d).1 ∙ new-action-multiplied q.multiplied q.components actions a.even a.even-actions i m in
    (λ e. g ∙ tile_odd (get_or q.components i 0) e, λ e. g ∙ tile-even (get_or q.components i 0) e)

pub says_whether : SaysWhether
says_whether q actions r left x z = (
  λ y. by_zero q.mask
      (λ e. absurd (true≢false (sym y ∙ (unmasked q actions r left x z e).0)))
      (λ d. let g = some_at q.multiplied (sym (masked q actions r left x z d).0 ∙ y) in (d, g.0, g.1)),
  λ d i m. (masked q actions r left x z d).0 ∙ some_where q.multiplied i m,
)

pub nothing_happens : NothingHappens
nothing_happens q actions r left x n =
    by_zero (said r)
    (λ z.
    let a = accepted q actions r left x z in
    by_zero q.mask
    (λ e. (unmasked q actions r left x z e).1)
    (λ d.
    let g = masked q actions r left x z d in
    g.1 ∙ none-multiplied q.multiplied q.components actions a.even a.even-actions (sym g.0 ∙ n)))
    (λ d. (promised.refused_stays q actions r left x d).0)
