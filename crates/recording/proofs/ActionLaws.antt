-- The actions that recording gives: a turn of the loop that stores them (`Stored`, `stored-begins`, `stored_next`, `stored-ends`); their number (`length-new_actions`); that nothing happens
-- without a multiplied record (`none-multiplied`).
-- Assumes nothing.
use mathlib.Core.Path.{◌≡◌, refl, sym, ap, ◌∙◌}
use mathlib.Core.Bool.{Bool, false, ◌||◌}
use mathlib.Core.List.{List, [], ◌∷◌, ◌++◌}
use Prim.Native.Nat.{ℕ, suc, ◌+◌, ◌<◌, ◌≤◌}
use native.Mathlib.Omega.{arith}
use lib.ListN.{length, get_or, take, drop, set, length-set, drop_of_length-le}
use lib.Seq.{drop-set-lt}
use Rattle.laws.proofs.LoopLaws.{drop-next, fill_next, fill_end, seen_next, seen-ends}
use Rattle.laws.proofs.TestLaws.{neither}
use Rattle.refusals.specs.Columns.{yes}
use Rattle.recording.specs.Recorded.{some, new_action_lem, new_actions}

-- before record i: what the flag says and what is stored, with what is still to come, is the whole
pub record Stored (ms cs old : List ℕ) (acts : List ℕ) (any : Bool) (i : ℕ) : Type 0 where
  pub upto : i ≤ length ms
  pub keep : length ms ≡ length acts
  pub flag : some ms ≡ (any || some (drop i ms))
  pub filled : new_actions ms cs old ≡ take i acts ++ new_actions (drop i ms) (drop i cs) (drop i acts)

pub stored-begins : (ms cs old : List ℕ) → length ms ≡ length old → Stored ms cs old old false 0
stored-begins ms cs old e = record { upto = omega arith; keep = e; flag = refl; filled = refl }

module _ {ms cs old acts : List ℕ} {any : Bool} {i : ℕ} (s : Stored ms cs old acts any i) where
  pub stored_next :
      length ms ≡ length cs → i < length ms → (v : ℕ) → v ≡ new_action_lem (get_or ms i 0) (get_or cs i 0) (get_or acts i 0)
      → Stored ms cs old (set acts i v) (any || yes (get_or ms i 0)) (i + 1)
  stored_next e h v q =
      let k = s.keep in
      record {
        upto = omega arith;
        keep = simp length-set k;
        flag = seen_next any s.flag (yes (get_or ms i 0)) (some (drop (i + 1) ms)) (ap some (drop-next ms i 0 h));
        filled =
            s.filled
            ∙ rw (drop-next ms i 0 h, drop-next cs i 0 (omega arith), drop-next acts i 0 (omega arith), ← q, drop-set-lt (i + 1) acts i v (omega arith))
            (fill_next acts i v _ (omega arith));
      }

  pub stored-ends : length ms ≤ i → (any ≡ some ms) × (acts ≡ new_actions ms cs old)
  stored-ends h =
      let k = s.keep in
      let over = drop_of_length-le ms h in (
        seen-ends any s.flag (rw over),
        sym (s.filled ∙ rw over (fill_end acts i (omega arith))),
      )

pub length-new_actions : (ms cs acts : List ℕ) → length ms ≡ length cs → length ms ≡ length acts → length (new_actions ms cs acts) ≡ length acts
length-new_actions [] cs acts e f = f
length-new_actions (m ∷ ms) [] acts e f = absurd (omega arith)
length-new_actions (m ∷ ms) (c ∷ cs) [] e f = absurd (omega arith)
length-new_actions (m ∷ ms) (c ∷ cs) (a ∷ acts) e f = ap suc (length-new_actions ms cs acts (omega arith) (omega arith))

-- "without a multiplied record, nothing happens"
pub none-multiplied : (ms cs acts : List ℕ) → length ms ≡ length cs → length ms ≡ length acts → some ms ≡ false → new_actions ms cs acts ≡ acts
unfolding new_action_lem
none-multiplied [] cs [] e f z = refl
none-multiplied [] cs (a ∷ acts) e f z = absurd (omega arith)
none-multiplied (m ∷ ms) [] acts e f z = absurd (omega arith)
none-multiplied (m ∷ ms) (c ∷ cs) [] e f z = absurd (omega arith)
none-multiplied (m ∷ ms) (c ∷ cs) (a ∷ acts) e f z =
    let n = neither (yes m) (some ms) z in
    simp n.0 (ap (λ (l : List ℕ). a ∷ l) (none-multiplied ms cs acts (omega arith) (omega arith) n.1))
