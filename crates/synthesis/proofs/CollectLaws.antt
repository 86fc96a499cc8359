-- The loop over rows: what it knows before each of them (`Collecting`), at the beginning (`collecting_begins`), that the next row is in the columns and its rule has room (`collecting_fits`), from one row to the next (`collecting_next`), and at the end (`collecting_ends`).
-- Assumes nothing.
use mathlib.Core.Path.{◌≡◌, refl, sym, ap, ◌∙◌}
use mathlib.Core.List.{List, ◌++◌, map, map-append}
use Prim.Native.Nat.{ℕ, zero, suc, ◌+◌, ◌-◌, ◌*◌, ◌≤◌, ◌<◌}
use native.Mathlib.Nat.{zero-add, add-zero}
use native.Mathlib.Omega.{arith}
use lib.ListN.{length, get_or, drop, length-append, length-map}
use lib.Seq.{get_or-drop, drop-drop}
use Rattle.laws.specs.Lists.{pasted}
use Rattle.laws.proofs.PasteLaws.{length-pasted, paste_none, paste_behind}
use Rattle.fonts.specs.Font.{Font}
use Rattle.packing.specs.Packed.{pack}
use Rattle.std.specs.Prelude.{Option, Some, None}
use Rattle.synthesis.specs.Rules.{rows, ruled, kind_of}
use Rattle.synthesis.specs.Made.{packed_in, row_of, gives, Collected}
use Rattle.synthesis.proofs.RuledLaws.{length-rows, ruled_cons, ruled-few}

-- the rules of so many rows, each one number, where components begin at place c and the other numbers at place l
abbrev pub to_come : Font → ℕ → ℕ → ℕ → List ℕ → List ℕ → ℕ → ℕ → ℕ → List ℕ
to_come f n each k cs ls left c l = map pack (ruled f (kind_of n) (rows left n each k (drop c cs) (drop l ls)))

-- before a row, with it and others to come: their rules, written over what is there, make what all rules were to make
pub record Collecting (f : Font) (count n each k : ℕ) (cs ls start : List ℕ) (left c l made : ℕ) (now : List ℕ) : Type 0 where
  pub components : c + left * n ≤ length cs
  pub ligatures : l + left * each ≤ length ls
  pub room : made + left ≤ length start
  pub long : length now ≡ length start
  pub place : made + length (to_come f n each k cs ls left c l) ≡ length (to_come f n each k cs ls count 0 0)
  pub whole : pasted (to_come f n each k cs ls left c l) made now ≡ pasted (to_come f n each k cs ls count 0 0) 0 start

held-few : (row : Option ℕ) → length (packed_in row) ≤ 1
held-few (Some x) = omega arith
held-few None = omega arith

module _ (f : Font) (count n each k : ℕ) (cs ls start : List ℕ) where
  pub collecting_begins : count * n ≤ length cs → count * each ≤ length ls → count ≤ length start → Collecting f count n each k cs ls start count 0 0 0 start
  collecting_begins h g r =
      record {
        components = omega arith;
        ligatures = omega arith;
        room = omega arith;
        long = refl;
        place = zero-add (length (to_come f n each k cs ls count 0 0));
        whole = refl;
      }

  -- no more than the rows
  few : (left c l : ℕ) → length (to_come f n each k cs ls left c l) ≤ left
  few left c l =
      let rest = rows left n each k (drop c cs) (drop l ls) in
      omega
      (arith, length-map (ruled f (kind_of n) rest) pack, ruled-few f (kind_of n) rest, length-rows left n each k (drop c cs) (drop l ls))

  -- the rule of the next row, and those of the others
  next_row : (left c l : ℕ) → to_come f n each k cs ls (suc left) c l ≡ gives f (kind_of n) (row_of n cs c (get_or ls (l + k) 0)) ++ to_come f n each k cs ls left (c + n) (l + each)
  unfolding rows
  next_row left c l =
      rw (get_or-drop l ls k 0, drop-drop n c cs, drop-drop each l ls, ruled_cons f (kind_of n) (row_of n cs c (get_or ls (l + k) 0)) (rows left n each k (drop (c + n) cs) (drop (l + each) ls)))
      (simp map-append)

  pub collecting_fits :
      (left c l made : ℕ) (now : List ℕ) → Collecting f count n each k cs ls start left c l made now → 0 < left
      → (c + n ≤ length cs) × (l + each ≤ length ls) × (made < length now)
  collecting_fits zero c l made now p h = absurd (omega arith)
  collecting_fits (suc left) c l made now p h = (omega (arith, p.components), omega (arith, p.ligatures), omega (arith, p.room, p.long))

  pub collecting_next :
      (left c l made : ℕ) (now : List ℕ) → Collecting f count n each k cs ls start left c l made now → 0 < left
      → (row : Option ℕ) → packed_in row ≡ gives f (kind_of n) (row_of n cs c (get_or ls (l + k) 0))
      → {after : List ℕ} {r : ℕ} → (after ≡ pasted (packed_in row) made now) × (r ≡ made + length (packed_in row))
      → Collecting f count n each k cs ls start (left - 1) (c + n) (l + each) r after
  collecting_next zero c l made now p h row e w = absurd (omega arith)
  collecting_next (suc left) c l made now p h row e {after} {r} w =
      let rest : List ℕ = to_come f n each k cs ls left (c + n) (l + each) in
      let next : to_come f n each k cs ls (suc left) c l ≡ packed_in row ++ rest = next_row left c l ∙ ap (λ (x : List ℕ). x ++ rest) (sym e) in
      let one = held-few row in
      let some = few left (c + n) (l + each) in
      let fits : r + length rest ≤ length now = omega (arith, p.room, p.long, w.1) in
      let same : suc left - 1 ≡ left = omega arith in
      rw same
      (record {
        components = omega (arith, p.components);
        ligatures = omega (arith, p.ligatures);
        room = omega (arith, p.room, w.1);
        long = rw w.0 (length-pasted (packed_in row) made now (omega (arith, w.1)) ∙ p.long);
        place = omega (arith, p.place, ap length next, length-append (packed_in row) rest, w.1);
        whole =
            ap (pasted rest r) w.0 ∙ paste_behind (packed_in row) rest now made r w.1 fits
            ∙ ap (λ (x : List ℕ). pasted x made now) (sym next) ∙ p.whole;
      })

  pub collecting_ends :
      (left c l made : ℕ) (now : List ℕ) → Collecting f count n each k cs ls start left c l made now → left ≤ 0
      → Collected (ruled f (kind_of n) (rows count n each k cs ls)) start made now
  unfolding rows ruled pasted
  collecting_ends zero c l made now p h =
      let all = to_come f n each k cs ls count 0 0 in
      let counted : made ≡ length all = sym (add-zero made) ∙ p.place in
      record {
        filled = sym (paste_none made now) ∙ p.whole ∙ ap (λ (i : ℕ). all ++ drop i start) (zero-add (length all) ∙ sym counted);
        counted = counted ∙ length-map (ruled f (kind_of n) (rows count n each k cs ls)) pack;
      }
  collecting_ends (suc left) c l made now p h = absurd (omega arith)
