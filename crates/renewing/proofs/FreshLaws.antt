-- What fresh joining gives a record: that of its home, by the letters beside it (`fresh-form`); the records that it reaches have what it has (`fresh-run`).
-- Assumes nothing.
use mathlib.Core.Path.{◌≡◌, refl, sym, ◌∙◌}
use mathlib.Core.Bool.{Bool, true, false, cond, and-eq-true_iff}
use mathlib.Core.List.{List}
use Prim.Native.Nat.{ℕ, zero, suc, ◌+◌, ◌-◌, ◌<◌, ◌≤◌}
use native.Mathlib.Nat.{add-zero}
use native.Mathlib.Numerals.{add-one}
use native.Mathlib.Omega.{arith}
use borrow.Author.Tests.{leb-true}
use lib.Dec.{leb}
use lib.ListN.{length, get_or, take, drop}
use lib.Seq.{get_or-drop}
use Rattle.letters.specs.Types.{resolved}
use Rattle.shapes.specs.Joining.{form, latest, nearest, each_between, line_types}
use Rattle.shapes.proofs.JoiningLaws.{length-each, length-line_types, line_types-at}
use Rattle.shapes.proofs.LocalityLaws.{each_at}
use Rattle.selectors.specs.Selectors.{selector, settled, run, base}
use Rattle.selectors.proofs.SelectorLaws.{settled_at, settled-next, base-reaches}
use Rattle.selectors.proofs.RunLaws.{run-all}
use Rattle.selectors.proofs.WalkLaws.{run-within}
use Rattle.joining.specs.Joinable.{Joinable}
use Rattle.lines.specs.Joined.{actions_between}
use Rattle.renewing.specs.Renewed.{reached}

-- a record's home is not behind it
pub home_below : (m : Bool) (cs : List ℕ) (k h : ℕ) → h ≡ cond m (base cs k) k → h ≤ k
home_below true cs k h e = omega (arith, base-reaches cs k)
home_below false cs k h e = omega arith

-- nor does what it reaches leave the line
pub reach-within :
    (m : Bool) (cs : List ℕ) (k end : ℕ) → end ≡ k + 1 + cond m (run (drop (k + 1) cs)) 0 → k < length cs → (k ≤ end) × (end ≤ length cs)
reach-within true cs k end e h = (omega arith, rw e (run-within cs (k + 1) (omega arith)))
reach-within false cs k end e h = (omega arith, omega arith)

module _ (m : Bool) (cs : List ℕ) (b : ℕ) (ts : List ℕ) (a : ℕ) where
  -- the actions before selectors are settled
  abbrev joined : List ℕ
  joined = each_between form b ts a

  fresh_home : (k h : ℕ) → h ≡ cond m (base cs k) k → k < length ts → get_or (actions_between m cs b ts a) k 0 ≡ get_or joined h 0
  fresh_home k h e l = go m e
    where
      go : (m : Bool) → h ≡ cond m (base cs k) k → get_or (cond m (settled cs joined) joined) k 0 ≡ get_or joined h 0
      go true e = rw e (settled_at cs joined k (simp length-each l))
      go false e = rw e refl

  -- the next selector of a run has what the one before it has
  settled-run : (k i : ℕ) → i ≤ run (drop (suc k) cs) → k + i < length joined → get_or (settled cs joined) (k + i) 0 ≡ get_or (settled cs joined) k 0
  settled-run k zero h l = rw (add-zero k)
  settled-run k (suc i) h l =
      let e : suc k + i ≡ suc (k + i) = omega arith in
      let f : k + suc i ≡ suc (k + i) = omega arith in
      let s : selector (get_or cs (suc (k + i)) 0) ≡ true = rw (← e, ← get_or-drop (suc k) cs i 0) (run-all (drop (suc k) cs) i h) in
      rw f (settled-next cs joined (k + i) (omega arith) ∙ simp s (settled-run k i (omega arith) (omega arith)))

  -- the records that k reaches have what it has
  pub fresh-run : (k j : ℕ) → j < length ts → reached m cs k j ≡ true → get_or (actions_between m cs b ts a) j 0 ≡ get_or (actions_between m cs b ts a) k 0
  fresh-run k j l r =
      let p = (and-eq-true_iff (leb k j) (leb j (k + cond m (run (drop (suc k) cs)) 0))).0 r in
      go m (leb-true k j p.0) (leb-true j (k + cond m (run (drop (suc k) cs)) 0) p.1)
    where
      go :
          (m : Bool) → k ≤ j → j ≤ k + cond m (run (drop (suc k) cs)) 0
          → get_or (cond m (settled cs joined) joined) j 0 ≡ get_or (cond m (settled cs joined) joined) k 0
      go true f h =
          let e : k + (j - k) ≡ j = omega arith in
          rw (← e) (settled-run k (j - k) (omega arith) (simp length-each (omega arith)))
      go false f h = let e : j ≡ k = omega arith in rw e refl

-- of the columns that the walks read
module _ {types categories : List ℕ} (letters : Joinable types categories) (m : Bool) (cs : List ℕ) (b a k : ℕ) (l : k < length types) where
  -- the letters p and n stand beside the home of k
  pub fresh-form :
      (h p t n v : ℕ) → h ≡ cond m (base cs k) k → t ≡ resolved (get_or types h 0) (get_or categories h 0) → p ≡ latest b (take h (line_types types categories))
      → n ≡ nearest (drop (h + 1) (line_types types categories)) a → v ≡ form p t n → v ≡ get_or (actions_between m cs b (line_types types categories) a) k 0
  fresh-form h p t n v e et ep en ev =
      let ts = line_types types categories in
      let size = length-line_types types categories letters.even in
      let under : h < length types = omega (arith, home_below m cs k h e) in
      ev
      ∙ rw (ep, et, en, ← line_types-at types categories h letters.even under, add-one)
      (sym (fresh_home m cs b ts a k h e (omega arith) ∙ each_at form b ts a h (omega arith)))
