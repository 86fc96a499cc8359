-- Both passes, as the walk goes: what is done, what was skipped, what is left (`Walking`). How it begins, skips, takes a block and ends (`walk_begins`, `walk-skips`,
-- `walk-takes`, `walk-over`, `walk_breaks`); and the skipping, mark by mark (`Skipping`).
-- Assumes nothing.
use mathlib.Core.Path.{◌≡◌, refl, sym, ap, ap₂, ◌∙◌, subst}
use mathlib.Core.List.{List, [], ◌∷◌, ◌++◌, append_assoc, append-nil}
use Prim.Native.Nat.{ℕ, zero, suc, ◌+◌, ◌-◌, ◌≤◌, ◌<◌}
use native.Mathlib.Omega.{arith}
use borrow.Table.Elements.{same_len}
use lib.ListN.{length, get_or, take, drop, length-append, length-map, drop_of_length-le}
use lib.Seq.{slice, slice_empty, length-slice, take-suc, drop-append-le, length-take-le, take_at, drop_at}
use native.Mathlib.Numerals.{add-one}
use Rattle.laws.specs.Lists.{front, behind}
use Rattle.laws.proofs.ListLaws.{front_fits}
use Rattle.laws.proofs.LoopLaws.{drop-next}
use Rattle.laws.proofs.PartLaws.{take-parts, slice_parts, drop-parts, drop-parted}
use Rattle.blocks.proofs.MarkLaws.{nothing, length-marks, class-at, marks-take}
use Rattle.blocks.proofs.BlockLaws.{marks-first}
use Rattle.blocks.specs.Marks.{Mark, marks, brought}
use Rattle.marks.specs.declared.Merged.{Merged}
use Rattle.marks.specs.declared.Merged.TheVariants.{Nothing}
use Rattle.marks.specs.Passes.{moves, reorder_classes, new_class_lem, passes, Span, Over, merged, ranges, renumber, numbered}
use Rattle.marks.specs.Reordered.{listed}
use Rattle.marks.proofs.PassLaws.{Below, below_raise, below-append, Low, Stops, passes-is, ranges-is, passes-low, ranges-low, merged_some}

-- the class of a pass
abbrev pub class_at : ℕ → ℕ
class_at pass = get_or reorder_classes pass 0

classes-next : (pass : ℕ) → pass < 2 → drop pass reorder_classes ≡ class_at pass ∷ drop (pass + 1) reorder_classes
classes-next pass q = drop-next reorder_classes pass 0 q

low-append : (cs : List ℕ) (a b : List Mark) → Low cs a → Low cs b → Low cs (a ++ b)
low-append [] a b p q = tt
low-append (c ∷ cs) a b p q = (below-append c a b p.0 q.0, low-append cs a b p.1 q.1)

-- what is below the class of a pass is below those of the passes to come
low-all : (pass : ℕ) (l : List Mark) → pass < 2 → Below (class_at pass) l → Low (drop pass reorder_classes) l
low-all zero l q p = (p, (below_raise l (omega arith) p, tt))
low-all (suc zero) l q p = (p, tt)
low-all (suc (suc pass)) l q p = absurd (omega arith)

empty : (l : List Mark) → length l ≡ 0 → l ≡ []
empty [] e = refl
empty (m ∷ l) e = absurd (omega arith)

-- ---- the skipping
-- from i₀ to i all marks are of a smaller class
pub record Skipping (M : List Mark) (class i₀ i : ℕ) : Type 0 where
  pub order : i₀ ≤ i
  pub fits : i ≤ length M
  pub below : Below class (slice i₀ i M)

pub skipping_begins : (M : List Mark) (class i : ℕ) → i ≤ length M → Skipping M class i i
skipping_begins M class i h = record { order = omega arith; fits = h; below = rw (slice_empty i M) tt }

pub skipping_on :
    {M : List Mark} {class i₀ i : ℕ} (d : Mark) → i < length M → (get_or M i d).class < class → Skipping M class i₀ i → Skipping M class i₀ (i + 1)
skipping_on {M} {class} {i₀} {i} d h l s =
    let o : i₀ ≤ i = s.order in
    let e : slice i₀ (i + 1) M ≡ slice i₀ i M ++ (get_or M i d ∷ []) =
    rw (add-one i, take-suc M i d h) (drop-append-le i₀ (take i M) (get_or M i d ∷ []) (rw (length-take-le i M (omega arith)) o))
    in
    record { order = omega arith; fits = omega arith; below = rw e (below-append class (slice i₀ i M) (get_or M i d ∷ []) s.below (l, tt)) }

-- a mark whose class is not smaller
pub stops_at : (M : List Mark) (class i : ℕ) (d : Mark) → i < length M → class ≤ (get_or M i d).class → Stops class (drop i M)
stops_at M class i d h l = rw (drop-next M i d h) l

-- ---- the walk
pub record Walking (new : ℕ → ℕ) (start : ℕ) (M₀ M : List Mark) (found : List Span) (from i pass : ℕ) : Type 0 where
  pub done : List Mark
  pub skips : List Mark
  pub rest : List Mark
  pub is : M ≡ done ++ (skips ++ rest)
  pub at_from : length done ≡ from
  pub at_i : from + length skips ≡ i
  pub low : Low (drop pass reorder_classes) skips
  pub whole : passes new reorder_classes M₀ ≡ done ++ passes new (drop pass reorder_classes) (skips ++ rest)
  pub spans : ranges start reorder_classes M₀ ≡ found ++ ranges (start + from) (drop pass reorder_classes) (skips ++ rest)
  pub few : length found ≤ pass

pub walk_begins : (new : ℕ → ℕ) (start : ℕ) (M : List Mark) → Walking new start M M [] 0 0 0
walk_begins new start M =
    let z : start ≡ start + 0 = omega arith in
    record {
      done = [];
      skips = [];
      rest = M;
      is = refl;
      at_from = refl;
      at_i = refl;
      low = (tt, (tt, tt));
      whole = refl;
      spans = ap (λ (s : ℕ). ranges s reorder_classes M) z;
      few = omega arith;
    }

module _ {new : ℕ → ℕ} {start : ℕ} {M₀ M : List Mark} {found : List Span} {from i pass : ℕ} (w : Walking new start M₀ M found from i pass) where
  -- the classes of the passes behind this one
  abbrev cs : List ℕ
  cs = drop (pass + 1) reorder_classes

  -- where the marks lie
  begun : length (w.done ++ w.skips) ≡ i
  begun = length-append w.done w.skips ∙ omega (arith, w.at_from, w.at_i)

  rest-is : drop i M ≡ w.rest
  rest-is = ap (drop i) (w.is ∙ sym (append_assoc w.done w.skips w.rest)) ∙ drop_at (w.done ++ w.skips) w.rest i begun

  pub walk-order : from ≤ i
  walk-order = omega (arith, w.at_i)

  -- marks of smaller classes are skipped
  pub walk-skips : (k : ℕ) → pass < 2 → Skipping M (class_at pass) i k → Walking new start M₀ M found from k pass
  walk-skips k q s =
      let o : i ≤ k = s.order in
      let S : List Mark = slice i k M in
      let parts : w.rest ≡ S ++ drop k M = sym rest-is ∙ drop-parted M i k o s.fits in
      let l : length S ≡ k - i = length-slice i k M s.fits in
      let joined : w.skips ++ w.rest ≡ (w.skips ++ S) ++ drop k M = ap (λ (r : List Mark). w.skips ++ r) parts ∙ sym (append_assoc w.skips S (drop k M)) in
      record {
        done = w.done;
        skips = w.skips ++ S;
        rest = drop k M;
        is = w.is ∙ ap (λ (r : List Mark). w.done ++ r) joined;
        at_from = w.at_from;
        at_i = ap (λ (n : ℕ). from + n) (length-append w.skips S) ∙ omega (arith, w.at_i);
        low = low-append (drop pass reorder_classes) w.skips S w.low (low-all pass S q s.below);
        whole = w.whole ∙ ap (λ (r : List Mark). w.done ++ passes new (drop pass reorder_classes) r) joined;
        spans = w.spans ∙ ap (λ (r : List Mark). found ++ ranges (start + from) (drop pass reorder_classes) r) joined;
        few = w.few;
      }

  -- the block of the pass, which may be empty, and what is behind it
  abbrev found-block : List Mark
  found-block = front (moves (class_at pass)) (drop i M)

  abbrev behind-block : List Mark
  behind-block = behind (moves (class_at pass)) (drop i M)

  -- it comes to stand before what was skipped, with its number, and the next pass begins behind it
  walk-next :
      pass < 2 → Stops (class_at pass) (drop i M) → (M₂ : List Mark) → M₂ ≡ w.done ++ (numbered (new (class_at pass)) found-block ++ (w.skips ++ behind-block))
      → (found₂ : List Span) → found₂ ≡ found ++ merged (start + from) w.skips found-block → length found₂ ≤ pass + 1
      → Walking new start M₀ M₂ found₂ (from + length found-block) (i + length found-block) (pass + 1)
  walk-next q s M₂ m found₂ f few =
      let c : ℕ = class_at pass in
      let D : List Mark = w.done in
      let S : List Mark = w.skips in
      let X : List Mark = found-block in
      let Y : List Mark = behind-block in
      let N : List Mark = numbered (new c) X in
      let low : Below c S × Low cs S = subst (λ (l : List ℕ). Low l S) (classes-next pass q) w.low in
      let l_n : length N ≡ length X = length-map X (renumber (new c)) in
      let on : start + from + length X ≡ start + (from + length X) = omega arith in
      record {
        done = D ++ N;
        skips = S;
        rest = Y;
        is = m ∙ sym (append_assoc D N (S ++ Y));
        at_from = length-append D N ∙ omega (arith, w.at_from);
        at_i = omega (arith, w.at_i);
        low = low.1;
        whole =
            w.whole
            ∙ ap₂ (λ (l : List ℕ) (r : List Mark). D ++ passes new l (S ++ r)) (classes-next pass q) (sym rest-is)
            ∙ ap (λ (l : List Mark). D ++ l) (passes-is c S (drop i M) low.0 s new cs)
            ∙ sym (append_assoc D N (passes new cs (S ++ Y)));
        spans =
            w.spans
            ∙ ap₂ (λ (l : List ℕ) (r : List Mark). found ++ ranges (start + from) l (S ++ r)) (classes-next pass q) (sym rest-is)
            ∙ ap (λ (l : List Span). found ++ l) (ranges-is c S (drop i M) low.0 s (start + from) cs)
            ∙ sym (append_assoc found (merged (start + from) S X) (ranges (start + from + length X) cs (S ++ Y)))
            ∙ ap₂ (λ (l : List Span) (n : ℕ). l ++ ranges n cs (S ++ Y)) (sym f) on;
        few = few;
      }

  -- the marks once the block has its number
  numbered_is : (M₁ : List Mark) → M₁ ≡ take i M ++ (numbered (new (class_at pass)) found-block ++ behind-block)
      → M₁ ≡ w.done ++ (w.skips ++ (numbered (new (class_at pass)) found-block ++ behind-block))
  numbered_is M₁ m =
      m
      ∙ ap (λ (l : List Mark). l ++ (numbered (new (class_at pass)) found-block ++ behind-block))
      (ap (take i) (w.is ∙ sym (append_assoc w.done w.skips w.rest)) ∙ take_at (w.done ++ w.skips) w.rest i begun)
      ∙ append_assoc w.done w.skips (numbered (new (class_at pass)) found-block ++ behind-block)

  -- a block that ends at j is brought forward
  pub walk-takes :
      pass < 2 → Stops (class_at pass) (drop i M) → (j : ℕ) → j ≡ i + length found-block → (i ≡ j → ⊥)
      → (M₁ : List Mark) → M₁ ≡ take i M ++ (numbered (new (class_at pass)) found-block ++ behind-block)
      → (M₂ : List Mark) → M₂ ≡ brought from i (take j M₁) ++ drop j M₁
      → (found₂ : List Span) → found₂ ≡ found ++ (Over (start + from) (start + j) ∷ [])
      → Walking new start M₀ M₂ found₂ (from + (j - i)) j (pass + 1)
  walk-takes q s j e d M₁ m₁ M₂ m₂ found₂ f =
      let D : List Mark = w.done in
      let S : List Mark = w.skips in
      let X : List Mark = found-block in
      let Y : List Mark = behind-block in
      let N : List Mark = numbered (new (class_at pass)) X in
      let l_n : length N ≡ length X = length-map X (renumber (new (class_at pass))) in
      let l_s : length S + from ≡ i = omega (arith, w.at_i) in
      let l_p : length (D ++ (S ++ N)) ≡ j = length-append D (S ++ N) ∙ ap (λ (n : ℕ). length D + n) (length-append S N) ∙ omega (arith, w.at_from, w.at_i) in
      let parted : M₁ ≡ (D ++ (S ++ N)) ++ Y = numbered_is M₁ m₁ ∙ sym (append_assoc D (S ++ N) Y ∙ ap (λ (l : List Mark). D ++ l) (append_assoc S N Y)) in
      let front-part : take j M₁ ≡ D ++ (S ++ N) = ap (take j) parted ∙ take_at (D ++ (S ++ N)) Y j l_p in
      let back-part : drop j M₁ ≡ Y = ap (drop j) parted ∙ drop_at (D ++ (S ++ N)) Y j l_p in
      let came : brought from i (D ++ (S ++ N)) ≡ D ++ (N ++ S) =
      ap₂ (λ (t r : List Mark). t ++ r) (take-parts D S N from i w.at_from l_s)
      (ap₂ (λ (x y : List Mark). x ++ y) (drop-parts D S N from i w.at_from l_s) (slice_parts D S N from i w.at_from l_s))
      in
      let moved : M₂ ≡ D ++ (N ++ (S ++ Y)) =
      m₂
      ∙ ap₂ (λ (x y : List Mark). x ++ y) (ap (brought from i) front-part ∙ came) back-part
      ∙ append_assoc D (N ++ S) Y
      ∙ ap (λ (l : List Mark). D ++ l) (append_assoc N S Y)
      in
      let wide : start + from + (length S + length X) ≡ start + j = omega (arith, w.at_i) in
      let spanned : found₂ ≡ found ++ merged (start + from) S X =
      f ∙ ap (λ (l : List Span). found ++ l) (sym (merged_some (start + from) S X (λ z. d (omega arith)) ∙ ap (λ (n : ℕ). Over (start + from) n ∷ []) wide))
      in
      let few : length found₂ ≤ pass + 1 = rw (f, length-append) (omega (arith, w.few)) in
      let on : from + length X ≡ from + (j - i) = omega arith in
      subst (λ (n : ℕ). Walking new start M₀ M₂ found₂ (from + (j - i)) n (pass + 1)) (sym e)
      (subst (λ (n : ℕ). Walking new start M₀ M₂ found₂ n (i + length X) (pass + 1)) on (walk-next q s M₂ moved found₂ spanned few))

  -- the block is empty
  pub walk_none :
      pass < 2 → Stops (class_at pass) (drop i M) → (j : ℕ) → j ≡ i + length found-block → i ≡ j
      → (M₁ : List Mark) → M₁ ≡ take i M ++ (numbered (new (class_at pass)) found-block ++ behind-block)
      → Walking new start M₀ M₁ found from i (pass + 1)
  walk_none q s j e z M₁ m₁ =
      let none : found-block ≡ [] = empty found-block (omega arith) in
      let D : List Mark = w.done in
      let stays : M₁ ≡ D ++ (numbered (new (class_at pass)) found-block ++ (w.skips ++ behind-block)) =
      numbered_is M₁ m₁
      ∙ ap (λ (x : List Mark). D ++ (w.skips ++ (numbered (new (class_at pass)) x ++ behind-block))) none
      ∙ sym (ap (λ (x : List Mark). D ++ (numbered (new (class_at pass)) x ++ (w.skips ++ behind-block))) none)
      in
      let spanned : found ≡ found ++ merged (start + from) w.skips found-block =
      sym (ap (λ (x : List Mark). found ++ merged (start + from) w.skips x) none ∙ append-nil found)
      in
      let on : from + length found-block ≡ from = omega arith in
      let here : i + length found-block ≡ i = omega arith in
      subst (λ (n : ℕ). Walking new start M₀ M₁ found from n (pass + 1)) here
      (subst (λ (n : ℕ). Walking new start M₀ M₁ found n (i + length found-block) (pass + 1)) on (walk-next q s M₁ stays found spanned (omega (arith, w.few))))

  -- what is left is smaller than the classes of all passes to come
  ends : Low (drop pass reorder_classes) (w.skips ++ w.rest) → (found ≡ ranges start reorder_classes M₀) × (M ≡ passes new reorder_classes M₀)
  ends low =
      (sym (w.spans ∙ ap (λ (l : List Span). found ++ l) (ranges-low (start + from) (drop pass reorder_classes) (w.skips ++ w.rest) low) ∙ append-nil found), w.is ∙ sym (w.whole ∙ ap (λ (l : List Mark). w.done ++ l) (passes-low new (drop pass reorder_classes) (w.skips ++ w.rest) low)))

  -- there are no passes to come
  pub walk-over : 2 ≤ pass → (found ≡ ranges start reorder_classes M₀) × (M ≡ passes new reorder_classes M₀)
  walk-over h = ends (subst (λ (l : List ℕ). Low l (w.skips ++ w.rest)) (sym (drop_of_length-le reorder_classes {i = pass} h)) tt)

  -- all marks are skipped: both passes are left at once
  pub walk_breaks : i ≡ length M → (found ≡ ranges start reorder_classes M₀) × (M ≡ passes new reorder_classes M₀)
  walk_breaks e =
      let bare : w.skips ++ w.rest ≡ w.skips =
      ap (λ (l : List Mark). w.skips ++ l) (sym rest-is ∙ drop_of_length-le M {i = i} (omega arith)) ∙ append-nil w.skips
      in
      ends (subst (Low (drop pass reorder_classes)) (sym bare) w.low)

-- ---- the walk in two columns
pub record Walked (low high start : ℕ) (codes₀ classes₀ codes classes : List ℕ) (found : Merged) (from i pass : ℕ) : Type 0 where
  pub codes-keep : length codes ≡ length codes₀
  pub classes-keep : length classes ≡ length classes₀
  pub fits : i ≤ length codes
  pub walk : Walking (new_class_lem low high) start (marks codes₀ classes₀) (marks codes classes) (listed found) from i pass

pub walked_begins :
    (low high start : ℕ) (codes classes : List ℕ) → Walked low high start codes classes codes classes Nothing 0 0 0
walked_begins low high start codes classes =
    record { codes-keep = refl; classes-keep = refl; fits = omega arith; walk = walk_begins (new_class_lem low high) start (marks codes classes) }

module _ {low high start : ℕ} {codes₀ classes₀ codes classes : List ℕ} {found : Merged} {from i pass : ℕ} (e₀ : length codes₀ ≡ length classes₀)
    (w : Walked low high start codes₀ classes₀ codes classes found from i pass) where
  pub walked_even : length codes ≡ length classes
  walked_even = w.codes-keep ∙ e₀ ∙ sym w.classes-keep

  pub walked_length : length (marks codes classes) ≡ length codes
  walked_length = length-marks codes classes walked_even

  pub walked_skipping : (class : ℕ) → Skipping (marks codes classes) class i i
  walked_skipping class = skipping_begins (marks codes classes) class i (rw walked_length w.fits)

  pub walked_skipped : (class k : ℕ) → Skipping (marks codes classes) class i k → k ≤ length codes
  walked_skipped class k s = rw (← walked_length) s.fits

  -- where the end is not reached, there is a mark at hand
  pub walked_inside : (class k : ℕ) → Skipping (marks codes classes) class i k → k < length codes₀ → k < length codes
  walked_inside class k s d = omega (arith, d, w.codes-keep)

  -- where it is, all is skipped
  pub walked_ended : (class k : ℕ) → Skipping (marks codes classes) class i k → length codes₀ ≤ k → k ≡ length (marks codes classes)
  walked_ended class k s d = omega (arith, walked_skipped class k s, d, w.codes-keep, walked_length)

  -- it is skipped
  pub walked_on :
      (class k : ℕ) → k < length codes → get_or classes k 0 < class → Skipping (marks codes classes) class i k → Skipping (marks codes classes) class i (k + 1)
  walked_on class k h l = skipping_on nothing (rw walked_length h) (rw (class-at codes classes k h walked_even) l)

  -- the skipping stops at k, and the block of the pass's class that begins there ends at j
  module _ (k j : ℕ) (q : pass < 2) (skips : Skipping (marks codes classes) (class_at pass) i k) (e : j ≡ k + length (front (moves (class_at pass)) (drop k (marks codes classes)))) where
    stands : Walking (new_class_lem low high) start (marks codes₀ classes₀) (marks codes classes) (listed found) from k pass
    stands = walk-skips w.walk k q skips

    pub walked_from : from ≤ k
    walked_from = walk-order stands

    pub walked_block : k ≤ j
    walked_block = omega (arith, e)

    pub walked_fits : j ≤ length codes
    walked_fits = rw (e, ← walked_length) (front_fits (moves (class_at pass)) (marks codes classes) k skips.fits)

    stops : k < length codes → class_at pass ≤ get_or classes k 0 → Stops (class_at pass) (drop k (marks codes classes))
    stops h l = stops_at (marks codes classes) (class_at pass) k nothing (rw walked_length h) (rw (class-at codes classes k h walked_even) l)

    -- the block gets its number in the column y
    module _ (h : k < length codes) (l : class_at pass ≤ get_or classes k 0) (y : List ℕ) (ly : length y ≡ length classes) (new : ℕ) (n : new ≡ new_class_lem low high (class_at pass))
        (b : marks codes y ≡ take k (marks codes classes) ++ (numbered new (front (moves (class_at pass)) (drop k (marks codes classes))) ++ behind (moves (class_at pass)) (drop k (marks codes classes)))) where
      renumbered :
          marks codes y
          ≡ take k (marks codes classes)
          ++ (numbered (new_class_lem low high (class_at pass)) (front (moves (class_at pass)) (drop k (marks codes classes))) ++ behind (moves (class_at pass)) (drop k (marks codes classes)))
      renumbered = rw (← n) b

      pub numbered-even : length codes ≡ length y
      numbered-even = walked_even ∙ sym ly

      -- an empty one: the next pass begins here
      pub walked_none : k ≡ j → Walked low high start codes₀ classes₀ codes y found from k (pass + 1)
      walked_none z =
          record {
            codes-keep = w.codes-keep;
            classes-keep = ly ∙ w.classes-keep;
            fits = omega arith;
            walk = walk_none stands q (stops h l) j e z (marks codes y) renumbered;
          }

      -- one that is not empty comes forward in both columns
      pub walked_takes :
          (k ≡ j → ⊥) → (u v : List ℕ) → length u ≡ length (take j codes) → length v ≡ length (take j y) → marks u v ≡ brought from k (marks (take j codes) (take j y))
          → (more : Merged) → listed more ≡ listed found ++ (Over (start + from) (start + j) ∷ [])
          → Walked low high start codes₀ classes₀ (u ++ drop j codes) (v ++ drop j y) more (from + (j - k)) j (pass + 1)
      walked_takes d u v lu lv b₂ more f =
          let fits : j ≤ length codes = walked_fits in
          let whole : length (u ++ drop j codes) ≡ length codes = same_len j codes u lu in
          let even : length u ≡ length v = lu ∙ length-take-le j codes fits ∙ sym (lv ∙ length-take-le j y (rw (← numbered-even) fits)) in
          record {
            codes-keep = whole ∙ w.codes-keep;
            classes-keep = same_len j y v lv ∙ ly ∙ w.classes-keep;
            fits = rw whole fits;
            walk =
                walk-takes stands q (stops h l) j e d (marks codes y) renumbered (marks (u ++ drop j codes) (v ++ drop j y))
                (marks-first j codes y u v even ∙ ap (λ (r : List Mark). r ++ drop j (marks codes y)) (b₂ ∙ ap (brought from k) (marks-take j codes y)))
                (listed more) f;
          }
