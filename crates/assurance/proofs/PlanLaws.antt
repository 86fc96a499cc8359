-- What is known where no row of the plan's table applies (`Passed`, `passed`); the lengths answered, all together (`total-append`, `total-lengths`), and how many places there are (`length-padded`).
-- Assumes nothing.
use mathlib.Core.Path.{◌≡◌, refl}
use mathlib.Core.Bool.{true, not}
use mathlib.Core.List.{List, [], ◌∷◌, ◌++◌, map}
use Prim.Native.Nat.{ℕ, zero, suc, ◌+◌, ◌≤◌}
use native.Mathlib.Omega.{arith}
use borrow.Author.Tests.{not-false, ltb-false}
use lib.Dec.{ltb}
use lib.ListN.{length, drop, length-append, length-drop, length-map}
use Rattle.laws.proofs.RowLaws.{first-none}
use Rattle.refusals.specs.Columns.{rising}
use Rattle.drafts.specs.Entries.{Entry, size_of, bytes_of, all_bytes, seven, padded, lengths_of}
use Rattle.fallback.specs.Plan.{Inputs, plan}
use Rattle.fallback.specs.Planned.{even, short, plan_rows, plan_refusal}
use Rattle.assurance.specs.Planning.{total}

pub record Passed (i : Inputs) (room : ℕ) : Type 0 where
  pub belong : even i ≡ true
  pub limited : short i ≡ true
  pub rises : rising 1 i.font.codes ≡ true
  pub enough : length (all_bytes (plan i)) ≤ room

pub passed : (i : Inputs) (room : ℕ) → plan_refusal i room ≡ 0 → Passed i room
unfolding plan_refusal
passed i room z =
    let a = first-none 0 (not (even i)) (drop 1 (plan_rows i room)) z in
    let b = first-none 1 (not (short i)) (drop 2 (plan_rows i room)) a.1 in
    let c = first-none 2 (not (rising 1 i.font.codes)) (drop 3 (plan_rows i room)) b.1 in
    let d = first-none 7 (ltb room (length (all_bytes (plan i)))) [] c.1 in
    record { belong = not-false _ a.0; limited = not-false _ b.0; rises = not-false _ c.0; enough = ltb-false _ _ d.0 }

-- ---- what is said of entries in seven places
pub total-append : (a b : List ℕ) → total (a ++ b) ≡ total a + total b
total-append [] b = omega arith
total-append (n ∷ a) b = omega (arith, total-append a b)

total-drop : (n : ℕ) (l : List ℕ) → total (drop n l) ≤ total l
total-drop zero l = omega arith
total-drop (suc n) [] = omega arith
total-drop (suc n) (x ∷ l) = omega (arith, total-drop n l)

pub total_sizes : (es : List Entry) → total (map size_of es) ≡ length (all_bytes es)
unfolding all_bytes
total_sizes [] = refl
total_sizes (e ∷ es) = omega (arith, length-append (bytes_of e) (all_bytes es), total_sizes es)

pub total-lengths : (es : List Entry) → total (lengths_of es) ≡ length (all_bytes es)
total-lengths es =
    let numbers : List ℕ = map size_of es in
    omega (arith, total-append numbers (drop (length numbers) seven), total-drop (length numbers) seven, total_sizes es)

pub length-padded : (f : Entry → ℕ) (es : List Entry) → length es ≤ 7 → length (padded (map f es)) ≡ 7
length-padded f es h =
    let numbers : List ℕ = map f es in
    omega (arith, length-append numbers (drop (length numbers) seven), length-drop (length numbers) seven, length-map es f)
