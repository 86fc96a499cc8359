-- Loops: the components of one rule are put into the column (`Putting`, `putting_next`, `putting_ends`), and rule by rule both columns are filled (`Unpacking`, `unpacking_starts`, `unpacking_room`, `unpacking_next`, `unpacking_ends`). Both carry what is still to be put.
-- Assumes nothing.
use mathlib.Core.Path.{◌≡◌, refl, sym, ap, ◌∙◌}
use mathlib.Core.List.{List, [], ◌∷◌, ◌++◌, map}
use Prim.Native.Nat.{ℕ, zero, suc, ◌+◌, ◌*◌, ◌-◌, ◌/◌, ◌%◌, ◌≤◌, ◌<◌}
use native.Mathlib.Omega.{arith}
use lib.ListN.{length, get_or, drop, set, length-append, length-set, length-map, length-drop, drop_of_length-le}
use Rattle.laws.specs.Lists.{pasted}
use Rattle.laws.proofs.LoopLaws.{drop-next}
use Rattle.laws.proofs.PasteLaws.{length-pasted, paste_none, paste_one, paste_behind}
use Rattle.layouts.specs.Lookups.{flat, ligatures}
use Rattle.packing.specs.Packed.{digits, above, unpacked}
use Rattle.layouts.proofs.FlatLaws.{length-flat}
use Rattle.packing.proofs.PackLaws.{length_digits, wide-unpacked}

-- an element is stored before a part that is still to be put
set_before : (l : List ℕ) (i x : ℕ) (P : List ℕ) → i + (1 + length P) ≤ length l → pasted P (i + 1) (set l i x) ≡ pasted (x ∷ P) i l
set_before l i x P h = ap (pasted P (i + 1)) (paste_one x i l (omega arith)) ∙ paste_behind (x ∷ []) P l i (i + 1) refl (omega arith)

-- ---- one rule's components
-- `left` numbers of `rest` are still to be put, from k on
pub record Putting (n x : ℕ) (start : List ℕ) (at : ℕ) (now : List ℕ) (rest left k : ℕ) : Type 0 where
  pub long : length now ≡ length start
  pub room : k + left ≤ length now
  pub over : above left rest ≡ above n x
  pub parts : pasted (digits left rest) k now ≡ pasted (digits n x) at start

module _ {n x : ℕ} {start : List ℕ} {at : ℕ} {now : List ℕ} {rest left k : ℕ} (p : Putting n x start at now rest left k) where
  pub putting_next : 0 < left → Putting n x start at (set now k (rest % 65536)) (rest / 65536) (left - 1) (k + 1)
  unfolding digits above
  putting_next h = go left refl
    where
      go : (m : ℕ) → left ≡ m → Putting n x start at (set now k (rest % 65536)) (rest / 65536) (left - 1) (k + 1)
      go zero e = absurd (omega arith)
      go (suc m) e =
          let f : left - 1 ≡ m = omega arith in
          record {
            long = length-set now k (rest % 65536) ∙ p.long;
            room = simp length-set (omega (arith, p.room));
            over = rw f (ap (λ (i : ℕ). above i rest) (sym e) ∙ p.over);
            parts = rw f (set_before now k (rest % 65536) (digits m (rest / 65536)) (omega (arith, length_digits m (rest / 65536), p.room)) ∙ ap (λ (i : ℕ). pasted (digits i rest) k now) (sym e) ∙ p.parts);
          }

  pub putting_ends : left ≤ 0 → (rest ≡ above n x) × (now ≡ pasted (digits n x) at start)
  unfolding digits above
  putting_ends h =
      let z : left ≡ 0 = omega arith in
      (ap (λ (i : ℕ). above i rest) (sym z) ∙ p.over, sym (paste_none k now) ∙ ap (λ (i : ℕ). pasted (digits i rest) k now) (sym z) ∙ p.parts)

-- ---- rule by rule
-- the components and the ligatures that numbers are unpacked to
abbrev components_of_lem : ℕ → List ℕ → List ℕ
components_of_lem n xs = flat (map (unpacked n) xs)

abbrev ligatures_of : ℕ → List ℕ → List ℕ
ligatures_of n xs = ligatures (map (unpacked n) xs)

length-components : (n : ℕ) (xs : List ℕ) → length (components_of_lem n xs) ≡ length xs * n
length-components n xs = length-flat n (map (unpacked n) xs) (wide-unpacked n xs) ∙ ap (λ (m : ℕ). m * n) (length-map xs (unpacked n))

length-ligatures : (n : ℕ) (xs : List ℕ) → length (ligatures_of n xs) ≡ length xs
length-ligatures n xs = length-map (map (unpacked n) xs) (λ r. r.ligature) ∙ length-map xs (unpacked n)

-- i rules are unpacked, up to place `at` of the components
pub record Unpacking (n : ℕ) (rules components₀ ligatures₀ components ligatures : List ℕ) (i at : ℕ) : Type 0 where
  pub inside : i ≤ length rules
  pub long : length components ≡ length components₀
  pub long-ligatures : length ligatures ≡ length ligatures₀
  pub room : at + length (components_of_lem n (drop i rules)) ≤ length components
  pub room-ligatures : length rules ≤ length ligatures
  pub parts : pasted (components_of_lem n (drop i rules)) at components ≡ pasted (components_of_lem n rules) 0 components₀
  pub parts-ligatures : pasted (ligatures_of n (drop i rules)) i ligatures ≡ pasted (ligatures_of n rules) 0 ligatures₀

pub unpacking_starts :
    (n : ℕ) (rules components ligatures : List ℕ) → length rules * n ≤ length components → length rules ≤ length ligatures
    → Unpacking n rules components ligatures components ligatures 0 0
unpacking_starts n rules components ligatures h g =
    record {
      inside = omega arith;
      long = refl;
      long-ligatures = refl;
      room = omega (arith, length-components n rules);
      room-ligatures = g;
      parts = refl;
      parts-ligatures = refl;
    }

module _ {n : ℕ} {rules components₀ ligatures₀ components ligatures : List ℕ} {i at : ℕ} (u : Unpacking n rules components₀ ligatures₀ components ligatures i at) where
  module _ (h : i < length rules) where
    next-components : components_of_lem n (drop i rules) ≡ digits n (get_or rules i 0) ++ components_of_lem n (drop (i + 1) rules)
    unfolding flat
    next-components = ap (components_of_lem n) (drop-next rules i 0 h)

    next-long : length (components_of_lem n (drop i rules)) ≡ n + length (components_of_lem n (drop (i + 1) rules))
    next-long =
        ap length next-components
        ∙ length-append (digits n (get_or rules i 0)) (components_of_lem n (drop (i + 1) rules))
        ∙ ap (λ (m : ℕ). m + length (components_of_lem n (drop (i + 1) rules))) (length_digits n (get_or rules i 0))

    pub unpacking_room : at + n ≤ length components
    unpacking_room = omega (arith, next-long, u.room)

    pub unpacking_next :
        (r : ℕ) (now : List ℕ) → (r ≡ above n (get_or rules i 0)) × (now ≡ pasted (digits n (get_or rules i 0)) at components)
        → Unpacking n rules components₀ ligatures₀ now (set ligatures i (r % 65536)) (i + 1) (at + n)
    unpacking_next r now e =
        let D : List ℕ = digits n (get_or rules i 0) in
        let C : List ℕ = components_of_lem n (drop (i + 1) rules) in
        let L : List ℕ = ligatures_of n (drop (i + 1) rules) in
        let size : length D ≡ n = length_digits n (get_or rules i 0) in
        let same : length now ≡ length components = ap length e.1 ∙ length-pasted D at components (omega (arith, unpacking_room)) in
        let lig : length L ≡ length rules - (i + 1) = length-ligatures n (drop (i + 1) rules) ∙ length-drop (i + 1) rules in
        record {
          inside = omega arith;
          long = same ∙ u.long;
          long-ligatures = length-set ligatures i (r % 65536) ∙ u.long-ligatures;
          room = omega (arith, same, next-long, u.room);
          room-ligatures = simp length-set u.room-ligatures;
          parts = ap (pasted C (at + n)) e.1
              ∙ paste_behind D C components at (at + n) (ap (λ (m : ℕ). at + m) (sym size)) (omega (arith, next-long, u.room))
              ∙ ap (λ (l : List ℕ). pasted l at components) (sym next-components)
              ∙ u.parts;
          parts-ligatures = set_before ligatures i (r % 65536) L (omega (arith, lig, u.room-ligatures))
              ∙ ap (λ (m : ℕ). pasted (m % 65536 ∷ L) i ligatures) e.0
              ∙ ap (λ (l : List ℕ). pasted (ligatures_of n l) i ligatures) (sym (drop-next rules i 0 h))
              ∙ u.parts-ligatures;
        }

  module _ (h : length rules ≤ i) where
    none_left : drop i rules ≡ []
    none_left = drop_of_length-le rules {i = i} h

    pub unpacking_ends :
        (components ≡ components_of_lem n rules ++ drop (length rules * n) components₀) × (ligatures ≡ ligatures_of n rules ++ drop (length rules) ligatures₀)
    unfolding pasted flat
    unpacking_ends = (
      ends components at (components_of_lem n rules) components₀ (length rules * n) (length-components n rules) (ap (λ (l : List ℕ). pasted (components_of_lem n l) at components) (sym none_left) ∙ u.parts),
      ends ligatures i (ligatures_of n rules) ligatures₀ (length rules) (length-ligatures n rules) (ap (λ (l : List ℕ). pasted (ligatures_of n l) i ligatures) (sym none_left) ∙ u.parts-ligatures),
    )
      where
        ends : (now : List ℕ) (k : ℕ) (P start : List ℕ) (m : ℕ) → length P ≡ m → pasted [] k now ≡ pasted P 0 start → now ≡ P ++ drop m start
        ends now k P start m s e =
            let z : 0 + length P ≡ m = omega arith in
            sym (paste_none k now) ∙ e ∙ ap (λ (j : ℕ). P ++ drop j start) z
