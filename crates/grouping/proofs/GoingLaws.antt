-- The loop over the sets: what it knows before each of them (`Going`), at the beginning (`going_begins`), from one to the next (`going_next`), and what is answered where it ends (`going_short`, `going_wrong`, `going_stops`, `going_ends`).
-- Assumes nothing.
use mathlib.Core.Path.{◌≡◌, refl, sym, ap, subst, ◌∙◌}
use mathlib.Core.Bool.{true, false}
use mathlib.Core.List.{List}
use Prim.Native.Nat.{ℕ, suc, ◌+◌, ◌-◌, ◌*◌, ◌≤◌, ◌<◌}
use native.Mathlib.Nat.{mul-le-mul}
use native.Mathlib.Omega.{arith}
use lib.ListN.{length}
use Rattle.words.specs.Words.{word_at, words_at}
use Rattle.scanning.specs.Grammar.{set_size, settled}
use Rattle.std.specs.Prelude.{Ok, Err}
use Rattle.accepting.specs.declared.Fault.{Fault}
use Rattle.accepting.specs.declared.Fault.TheVariants.{Wrong, Short}
use Rattle.accepting.specs.Scanned.{Took}
use Rattle.accepting.proofs.TookLaws.{Leads}
use Rattle.grouping.specs.Grouped.{starts_at, sets_at, end_at, may_have_lem, leads_at, SetTaken, SetsTaken}
use Rattle.grouping.proofs.SetsLaws.{sets_too_short, sets_miscounted, sets-stops, sets_more, sets-none}

-- where the first glyphs of the sets to come stand
abbrev pub lead_place : ℕ → ℕ → ℕ
lead_place s left = 18 + 4 * s - 2 * left

-- before a set at byte p, with it and others to come: what these are answered is the answer for all
pub record Going (n s : ℕ) (b : List ℕ) (left o at p : ℕ) : Type 0 where
  pub within : p ≤ length b
  pub upto : left ≤ s
  pub places : at + 2 * left ≡ 16 + 2 * s
  pub small : o + left * 655362 ≤ 10 + 4 * s + s * 655362
  pub ends : end_at n (words_at b (lead_place s left) left) b p ≡ end_at n (leads_at s b) b (18 + 4 * s)
  pub leads :
      Leads (settled n (leads_at s b) (starts_at (10 + 4 * s) s b 16)) (sets_at n (leads_at s b) b (18 + 4 * s)) (end_at n (leads_at s b) b (18 + 4 * s)) b (18 + 4 * s)
      (settled n (words_at b (lead_place s left) left) (starts_at o left b at)) (sets_at n (words_at b (lead_place s left) left) b p) p

-- a set's size is small
pub size_fits : (n c : ℕ) → n ≤ 3 → c < 65536 → set_size n c ≤ 655362
size_fits n c h l = omega (arith, mul-le-mul (most c l) (ten n h))
  where
    most : (c : ℕ) → c < 65536 → c ≤ 65535
    most c l = omega arith

    ten : (n : ℕ) → n ≤ 3 → 4 + 2 * n ≤ 10
    ten n h = omega arith

-- the end, past the next set
pub end-next : (n : ℕ) (b : List ℕ) (lp p m : ℕ) → end_at n (words_at b lp (m + 1)) b p ≡ end_at n (words_at b (lp + 2) m) b (p + set_size n (word_at b p))
unfolding end_at words_at
end-next n b lp p m = let one : m + 1 ≡ suc m = omega arith in rw one

module _ (n s : ℕ) (b : List ℕ) where
  pub going_begins : 18 + 4 * s ≤ length b → Going n s b s (10 + 4 * s) 16 (18 + 4 * s)
  going_begins h =
      let place : lead_place s s ≡ 18 + 2 * s = omega arith in
      record { within = h; upto = omega arith; places = refl; small = omega arith; ends = rw place; leads = rw place (λ r t. t) }

  module _ (left o at p : ℕ) (g : Going n s b left o at p) where
    pub going_ends : left ≡ 0 → SetsTaken n s b (Ok p)
    unfolding words_at end_at
    going_ends z = g.leads (Ok p) (rw z (sets-none n o b (lead_place s 0) at p (sym (ap (λ (l : ℕ). end_at n (words_at b (lead_place s l) l) b p) z) ∙ g.ends) g.within))

    module _ (h : 0 < left) where
      one : left - 1 + 1 ≡ left
      one = omega arith

      pub going_short : length b < p + 2 → SetsTaken n s b (Err Short)
      going_short l = g.leads (Err Short) (rw (← one) (sets_too_short n o b (lead_place s (left - 1 + 1)) at p (left - 1) l))

      module _ (c : ℕ) (same : c ≡ word_at b p) (f : p + 2 ≤ length b) where
        pub going_wrong : may_have_lem n o (words_at b at (left - 1)) c ≡ false → SetsTaken n s b (Err (Wrong p))
        going_wrong t = g.leads (Err (Wrong p)) (rw (← one) (sets_miscounted n o b (lead_place s (left - 1 + 1)) at p (left - 1) f (rw (← same) t)))

        module _ (test : may_have_lem n o (words_at b at (left - 1)) c ≡ true) where
          pub going_stops : (x : Fault) → SetTaken n c b (p + 2) (Err x) → SetsTaken n s b (Err x)
          going_stops x t =
              g.leads (Err x) (rw (← one) (sets-stops n o b (lead_place s (left - 1 + 1)) at p (left - 1) f (rw (← same) test) _ _ x (rw same at (t (word_at b (lead_place s (left - 1 + 1)))))))

          pub going_next : n ≤ 3 → c < 65536 → (q : ℕ) → SetTaken n c b (p + 2) (Ok q) → Going n s b (left - 1) (o + (2 + c * (4 + 2 * n))) (at + 2) q
          going_next low few q t =
              let place = (t 0).place in
              let size = size_fits n c low few in
              let ends : q ≡ p + set_size n c = place.0 ∙ omega arith in
              let on : lead_place s left + 2 ≡ lead_place s (left - 1) = omega (arith, g.upto) in
              record {
                within = place.1;
                upto = omega (arith, g.upto);
                places = omega (arith, g.places);
                small = omega (arith, g.small, size);
                ends =
                    rw (ends, same, ← on) (sym (end-next n b (lead_place s left) p (left - 1)))
                    ∙ ap (λ (l : ℕ). end_at n (words_at b (lead_place s left) l) b p) one
                    ∙ g.ends;
                leads = λ x u.
                    g.leads x
                    (subst (λ (l : ℕ). Took (settled n (words_at b (lead_place s left) l) (starts_at o l b at)) (sets_at n (words_at b (lead_place s left) l) b p) (end_at n (leads_at s b) b (18 + 4 * s)) b p x) one
                    (sets_more n o b (lead_place s left) at p (left - 1) f (rw (← same) test) q (rw same at (t (word_at b (lead_place s left)))) x (rw (on, ← same) u)));
              }
