-- The promises of the lookups of a plan hold. What is read at a place is the plan's entry there (`place_read`).
-- Assumes nothing.
use mathlib.Core.Path.{◌≡◌, refl, sym, ap, ap₂, ◌∙◌, subst}
use mathlib.Core.Bool.{Bool, true, false, cond, not}
use mathlib.Core.List.{List, [], ◌∷◌, ◌++◌}
use Prim.Native.Nat.{ℕ, ◌+◌, ◌*◌, ◌<◌, ◌≤◌}
use native.Mathlib.Omega.{arith}
use borrow.Author.Tests.{ltb-true}
use lib.Dec.{ltb}
use lib.ListN.{length, get_or, take, drop, take-append-drop}
use lib.Seq.{take_at, length-take-le}
use Rattle.laws.proofs.LoopLaws.{drop-next}
use Rattle.refusals.specs.Numbers.{said}
use Rattle.refusals.specs.Columns.{rising}
use Rattle.refusals.proofs.LeftLaws.{left-done}
use Rattle.words.specs.Words.{bytes}
use Rattle.words.proofs.WordLaws.{length-bytes}
use Rattle.layouts.specs.declared.Kind.TheVariants.{Single}
use Rattle.std.specs.Prelude.{Ok}
use Rattle.layouts.specs.Tables.{first}
use Rattle.layouts.specs.Lookups.{Lookup, lookup_of, words_of}
use Rattle.layouts.specs.Written.{write_outcome, write_refusal, Writing}
use Rattle.layouts.proofs.WrittenLaws.{none-given}
use Rattle.scanning.specs.Exact.{as_read, Readable}
use Rattle.reading.specs.Read.{Columns, Answer, Reading}
use Rattle.ordering.proofs.OrderLaws.{stable_once}
use Rattle.drafts.specs.Entries.{Entry, bytes_of, size_of, all_bytes, masks_of, lengths_of, rule_limit}
use Rattle.fallback.specs.Plan.{Inputs, plan}
use Rattle.fallback.specs.Planned.{PlanAnswer, plan_said, even, short, plan_refusal, Planning}
use Rattle.fidelity.specs.Reading.{lookup_said}
use Rattle.fidelity.proofs.ReadingHolds.{reads-back}
use Rattle.assurance.specs.Origins.{origins, rules_of, From}
use Rattle.assurance.specs.Lookups.{longest, NeverFive, NeverTooShort, FollowsTheOrder, InStableOrder, cut_out, most_glyphs, EveryLookupReadsBack, EveryPlaceReads}
use Rattle.assurance.proofs.PlanningHolds.{number-given, plans, not_refused, area-left}
use Rattle.assurance.proofs.EntryLaws.{Good, plan-made, plan-good, plan-size, number_at, bytes-at}

-- ---- a lookup that the writer does not refuse
module _ (l : Lookup) (q : Readable l) where
  unrefused : (room : ℕ) → 2 * length (words_of l) ≤ room → write_refusal l room ≡ 0
  unrefused room h = none-given l room (record { even = q.even; in_range = q.named; small = q.fit; enough = h })

  -- its bytes are read
  reads_bytes :
      (c : Columns) → length l.glyphs ≤ length c.glyphs → length l.substitutes ≤ length c.substitutes
      → (a : Answer) (list : Columns) → Reading (bytes (words_of l)) c a list → (said a ≡ 0) × (lookup_said a list ≡ as_read l)
  reads_bytes c g s a list y =
      let b : List ℕ = bytes (words_of l) in
      let size : ℕ = 2 * length (words_of l) in
      let asked : Writing l b (Ok size) (b ++ drop size b) =
      left-done (write_refusal l (length b)) (write_outcome 0 b) _ 0 _ (sym (unrefused (length b) (omega (arith, length-bytes (words_of l))))) refl refl
      in
      let front : take size (b ++ drop size b) ≡ b = take_at b (drop size b) size (length-bytes (words_of l)) in
      reads-back l b (Ok size) (b ++ drop size b) asked refl q.up c g s a list (rw front y)

-- no row has the number 5
never-given : (i : Inputs) (room : ℕ) → plan_refusal i room ≡ 5 → ⊥
unfolding plan_refusal
never-given i room e = go (not (even i)) (not (short i)) (not (rising 1 i.font.codes)) (ltb room (length (all_bytes (plan i)))) e
  where
    go : (a b c d : Bool) → ◌≡◌ {A = ℕ} (cond a 1 (cond b 2 (cond c 3 (cond d 8 0)))) 5 → ⊥
    go true b c d e = omega arith
    go false true c d e = omega arith
    go false false true d e = omega arith
    go false false false true e = omega arith
    go false false false false e = omega arith

module _ (i : Inputs) (area : List ℕ) (r : PlanAnswer) (left : List ℕ) (x : Planning i area r left) where
  module _ (z : said r ≡ 0) (before : List Entry) (e : Entry) (behind : List Entry) (s : plan i ≡ before ++ (e ∷ behind)) where
    good : Good (origins i) e
    good = plan-good i (length area) (not_refused i area r left x z) before e behind s

    written : (write_refusal e.lookup (size_of e) ≡ 0) × (size_of e ≤ longest)
    written =
        let size : size_of e ≡ 2 * length (words_of e.lookup) = length-bytes (words_of e.lookup) in
        (unrefused e.lookup good.readable (size_of e) (omega arith), omega (arith, good.short))

    cut : cut_out (length before) r left ≡ bytes_of e
    cut =
        bytes-at before e behind (plan_said r).lengths left (drop (length (all_bytes (plan i))) area) ((plans i area r left x z).measured ∙ ap lengths_of s)
        (area-left i area r left x z ∙ ap (λ (es : List Entry). all_bytes es ++ drop (length (all_bytes (plan i))) area) s)

    mask : get_or (plan_said r).masks (length before) 0 ≡ e.mask
    mask = ap (λ (l : List ℕ). get_or l (length before) 0) ((plans i area r left x z).masked ∙ ap masks_of s) ∙ number_at before e behind (λ d. d.mask)

    read :
        (c : Columns) → length e.lookup.glyphs ≤ length c.glyphs → length e.lookup.substitutes ≤ length c.substitutes
        → (a : Answer) (list : Columns) → Reading (cut_out (length before) r left) c a list
        → (said a ≡ 0) × (lookup_said a list ≡ e.lookup) × (get_or (plan_said r).masks (length before) 0 ≡ e.mask)
    read c g t a list y =
        let back = reads_bytes e.lookup good.readable c g t a list (rw (← cut) y) in
        (back.0, back.1 ∙ good.same, mask)

pub never_five : NeverFive
never_five i area r left x = (λ e. never-given i (length area) (sym (number-given i area r left x) ∙ e), written i area r left x)

-- 8 is given behind 1 and 2 only
eight-given : (i : Inputs) (room : ℕ) → plan_refusal i room ≡ 8 → (even i ≡ true) × (short i ≡ true) × (room < length (all_bytes (plan i)))
unfolding plan_refusal
eight-given i room e = go (even i) (short i) (rising 1 i.font.codes) (ltb room (length (all_bytes (plan i)))) refl refl refl e
  where
    go :
        (a b c d : Bool) → even i ≡ a → short i ≡ b → ltb room (length (all_bytes (plan i))) ≡ d
        → ◌≡◌ {A = ℕ} (cond (not a) 1 (cond (not b) 2 (cond (not c) 3 (cond d 8 0)))) 8
        → (even i ≡ true) × (short i ≡ true) × (room < length (all_bytes (plan i)))
    go false b c d p q u e = absurd (omega arith)
    go true false c d p q u e = absurd (omega arith)
    go true true false d p q u e = absurd (omega arith)
    go true true true false p q u e = absurd (omega arith)
    go true true true true p q u e = (p, q, ltb-true room (length (all_bytes (plan i))) u)

-- and behind them no plan is longer
pub never_too_short : NeverTooShort
never_too_short = (
  refl,
  λ i area r left x h e.
      let g = eight-given i (length area) (sym (number-given i area r left x) ∙ e) in
      omega (arith, h, g.2, plan-size i g.0 g.1),
)

pub follows_the_order : FollowsTheOrder
follows_the_order i area r left x z = plan-made i (length area) (not_refused i area r left x z)

pub in_stable_order : InStableOrder
in_stable_order i area r left x z before e behind s =
    let o = (good i area r left x z before e behind s).origin in
    (o.0, o.1, o.2, λ m p. stable_once first o.0.rules m (rules_of e.lookup) p o.2.ordered)

pub every-lookup-reads-back : EveryLookupReadsBack
every-lookup-reads-back = read

-- ---- by its place
-- stands past the end of a list
pub none : Entry
none = record { mask = 0; lookup = lookup_of 0 Single [] [] }

parted : (es : List Entry) (k : ℕ) → k < length es → es ≡ take k es ++ (get_or es k none ∷ drop (k + 1) es)
parted es k h = sym (take-append-drop k es) ∙ ap (λ (l : List Entry). take k es ++ l) (drop-next es k none h)

module _ (i : Inputs) (area : List ℕ) (r : PlanAnswer) (left : List ℕ) (x : Planning i area r left) (z : said r ≡ 0) (k : ℕ) (h : k < (plan_said r).count) where
  pub place_inside : k < length (plan i)
  place_inside = omega (arith, (plans i area r left x z).counted)

  place-good : Good (origins i) (get_or (plan i) k none)
  place-good = good i area r left x z (take k (plan i)) (get_or (plan i) k none) (drop (k + 1) (plan i)) (parted (plan i) k place_inside)

  -- what is read there is the entry of that place
  pub place_read :
      (c : Columns) → most_glyphs ≤ length c.glyphs → rule_limit ≤ length c.substitutes → (a : Answer) (list : Columns) → Reading (cut_out k r left) c a list
      → (said a ≡ 0) × (get_or (plan i) k none ≡ record { mask = get_or (plan_said r).masks k 0; lookup = lookup_said a list })
  place_read c g t a list y =
      let es : List Entry = plan i in
      let place : length (take k es) ≡ k = length-take-le k es (omega (arith, place_inside)) in
      let back = read i area r left x z (take k es) (get_or es k none) (drop (k + 1) es) (parted es k place_inside) c (omega (arith, place-good.glyphs)) (omega (arith, place-good.substitutes)) a list (rw place y) in
      let answered : get_or (plan_said r).masks k 0 ≡ (get_or es k none).mask = ap (λ (n : ℕ). get_or (plan_said r).masks n 0) (sym place) ∙ back.2 in
      (back.0, ap₂ (λ (m : ℕ) (l : Lookup). record { mask = m; lookup = l }) (sym answered) (sym back.1))

pub every-place-reads : EveryPlaceReads
every-place-reads i area r left x z k h c g t a list y =
    let o = (place-good i area r left x z k h).origin in
    let back = place_read i area r left x z k h c g t a list y in
    (back.0, (o.0, o.1, subst (From o.0) back.1 o.2))
