-- Letters replaced at two places leave the same line in either order (`replaced_order`), current or not: a record that only one of them touches is as if the other
-- were not there, and one that both touch is joined afresh last in either order. So for two calls, each refused or not: a request has the same number before and
-- behind any other (`refusal-behind`), and the lines that they leave are equal (`left-order`).
-- Assumes nothing.
use mathlib.Core.Path.{◌≡◌, refl, sym, ap, ◌∙◌}
use mathlib.Core.Bool.{Bool, true, false, cond}
use Prim.Native.Nat.{ℕ, ◌<◌, ◌≤◌}
use native.Mathlib.Omega.{arith}
use borrow.Author.Tests.{eqb-true}
use lib.Dec.{eqb}
use lib.ListN.{length, get_or}
use lib.Seq.{set_comm}
use Rattle.masks.specs.Masks.{masks}
use Rattle.refusals.specs.Left.{After}
use Rattle.lines.specs.declared.Frame.{Frame}
use Rattle.lines.specs.Held.{Setting, Line}
use Rattle.lines.specs.Joined.{types_of, frame_of, fresh_actions}
use Rattle.lines.proofs.LineLaws.{same_line}
use Rattle.renewing.specs.Renewed.{touched, renewed}
use Rattle.replacing.specs.Replaced.{Request, changed, replaced_line, replace_refusal, replace_after}
use Rattle.renewing.proofs.RenewLaws.{renewed-order}
use Rattle.replacing.proofs.LocalLaws.{length-changed, untouched_action, untouched_mask, untouched_touched}
use Rattle.replacing.proofs.AllowedLaws.{Allowed, allowed, length-letters, refusal_replaced}

changed_comm : (p q : Request) (l : Line) → (p.place ≡ q.place → ⊥) → changed q (changed p l) ≡ changed p (changed q l)
changed_comm p q l d =
    rw
    (set_comm l.codes p.place q.place p.code q.code d, set_comm l.letters.types p.place q.place p.type q.type d, set_comm l.letters.categories p.place q.place p.category q.category d)

-- the line `old` of which first the records were renewed that p touches in the line `once`, then those that q touches in the line `twice`
abbrev renewed_twice : Frame → Line → ℕ → Line → ℕ → Line → Line
renewed_twice f twice q once p old =
    record {
      codes = twice.codes;
      letters = twice.letters;
      base = old.base;
      actions = renewed (touched f twice q) (λ j. get_or (fresh_actions f twice) j 0) (renewed (touched f once p) (λ j. get_or (fresh_actions f once) j 0) old.actions);
      masks =
          renewed (touched f twice q) (λ j. get_or (masks f.features old.base (fresh_actions f twice)) j 0)
          (renewed (touched f once p) (λ j. get_or (masks f.features old.base (fresh_actions f once)) j 0) old.masks);
    }

module _ (s : Setting) (p q : Request) (l : Line) (a : Allowed s p l) (b : Allowed s q l) where
  -- what q does not touch is as if q were not there
  module _ (j : ℕ) (h : j < length l.letters.types) (no : touched (frame_of s) (changed q (changed p l)) q.place j ≡ false) where
    within : (r : Request) → r.place < length l.letters.types → r.place ≤ length (types_of (changed p l).letters)
    within r i = omega (arith, length-letters s p l a, length-changed (frame_of s) p l)

    on : j < length (types_of (changed p l).letters)
    on = omega (arith, length-letters s p l a, length-changed (frame_of s) p l)

    alone-touched : touched (frame_of s) (changed p l) p.place j ≡ touched (frame_of s) (changed q (changed p l)) p.place j
    alone-touched = untouched_touched (frame_of s) q (changed p l) j on (within q b.inside) no p.place (within p a.inside)

    alone-action : get_or (fresh_actions (frame_of s) (changed p l)) j 0 ≡ get_or (fresh_actions (frame_of s) (changed q (changed p l))) j 0
    alone-action = sym (untouched_action (frame_of s) q (changed p l) j on (within q b.inside) no)

    alone-mask :
        get_or (masks s.features l.base (fresh_actions (frame_of s) (changed p l))) j 0
        ≡ get_or (masks s.features l.base (fresh_actions (frame_of s) (changed q (changed p l)))) j 0
    alone-mask = sym (untouched_mask (frame_of s) q (changed p l) j on (within q b.inside) no s.features l.base (omega (arith, a.line.base)))

pub replaced_order :
    (s : Setting) (p q : Request) (l : Line) → Allowed s p l → Allowed s q l → (p.place ≡ q.place → ⊥)
    → replaced_line (frame_of s) q (replaced_line (frame_of s) p l) ≡ replaced_line (frame_of s) p (replaced_line (frame_of s) q l)
replaced_order s p q l a b d =
    let f = frame_of s in
    let both = changed q (changed p l) in
    let c : changed p (changed q l) ≡ both = sym (changed_comm p q l d) in
    let back : (j : ℕ) → touched f both p.place j ≡ false → touched f (changed p (changed q l)) p.place j ≡ false =
    λ j no. ap (λ (m : Line). touched f m p.place j) c ∙ no
    in
    let actions =
    renewed-order (touched f (changed p l) p.place) (touched f both p.place) (touched f (changed q l) q.place) (touched f both q.place)
    (λ j. get_or (fresh_actions f (changed p l)) j 0) (λ j. get_or (fresh_actions f (changed q l)) j 0) (λ j. get_or (fresh_actions f both) j 0) l.actions
    (λ j h no. let o : j < length l.letters.types = omega (arith, a.line.actions) in (alone-touched s p q l a b j o no, alone-action s p q l a b j o no))
    (λ j h no. let o : j < length l.letters.types = omega (arith, a.line.actions) in (alone-touched s q p l b a j o (back j no) ∙ ap (λ (m : Line). touched f m q.place j) c, alone-action s q p l b a j o (back j no) ∙ ap (λ (m : Line). get_or (fresh_actions f m) j 0) c))
    in
    let masked =
    renewed-order (touched f (changed p l) p.place) (touched f both p.place) (touched f (changed q l) q.place) (touched f both q.place)
    (λ j. get_or (masks s.features l.base (fresh_actions f (changed p l))) j 0) (λ j. get_or (masks s.features l.base (fresh_actions f (changed q l))) j 0) (λ j. get_or (masks s.features l.base (fresh_actions f both)) j 0) l.masks
    (λ j h no. let o : j < length l.letters.types = omega (arith, a.line.masks) in (alone-touched s p q l a b j o no, alone-mask s p q l a b j o no))
    (λ j h no. let o : j < length l.letters.types = omega (arith, a.line.masks) in (alone-touched s q p l b a j o (back j no) ∙ ap (λ (m : Line). touched f m q.place j) c, alone-mask s q p l b a j o (back j no) ∙ ap (λ (m : Line). get_or (masks s.features l.base (fresh_actions f m)) j 0) c))
    in
    same_line both.codes both.letters l.base actions masked ∙ ap (λ (m : Line). renewed_twice f m p.place (changed q l) q.place l) (sym c)

-- ---- two calls
-- the line that a call leaves
abbrev line_after : Setting → Request → Line → Line
line_after s r l = cond (eqb (replace_refusal s r l) 0) (replaced_line (frame_of s) r l) l

left-line : (s : Setting) (r : Request) (l : Line) (n : ℕ) (m : Line) → After n m ≡ replace_after s r l → m ≡ line_after s r l
left-line s r l n m = go (eqb (replace_refusal s r l) 0)
  where
    go : (b : Bool) → After n m ≡ cond b (After 0 (replaced_line (frame_of s) r l)) (After (replace_refusal s r l) l) → m ≡ cond b (replaced_line (frame_of s) r l) l
    go true e = cc
    go false e = cc

refusal-left : (s : Setting) (p q : Request) (l : Line) → replace_refusal s q (line_after s p l) ≡ replace_refusal s q l
refusal-left s p q l = go (eqb (replace_refusal s p l) 0) refl
  where
    go : (b : Bool) → eqb (replace_refusal s p l) 0 ≡ b → replace_refusal s q (cond b (replaced_line (frame_of s) p l) l) ≡ replace_refusal s q l
    go true e = refusal_replaced s p l (allowed s p l (eqb-true (replace_refusal s p l) 0 e)) q
    go false e = refl

pub refusal-behind : (s : Setting) (p q : Request) (l : Line) (n : ℕ) (k : Line) → After n k ≡ replace_after s p l → replace_refusal s q k ≡ replace_refusal s q l
refusal-behind s p q l n k e = rw (left-line s p l n k e) (refusal-left s p q l)

line_after-order : (s : Setting) (p q : Request) (l : Line) → (p.place ≡ q.place → ⊥) → line_after s q (line_after s p l) ≡ line_after s p (line_after s q l)
line_after-order s p q l d =
    rw (refusal-left s p q l, refusal-left s q p l) (go (eqb (replace_refusal s p l) 0) refl (eqb (replace_refusal s q l) 0) refl)
  where
    go :
        (a : Bool) → eqb (replace_refusal s p l) 0 ≡ a → (b : Bool) → eqb (replace_refusal s q l) 0 ≡ b
        → cond b (replaced_line (frame_of s) q (cond a (replaced_line (frame_of s) p l) l)) (cond a (replaced_line (frame_of s) p l) l)
        ≡ cond a (replaced_line (frame_of s) p (cond b (replaced_line (frame_of s) q l) l)) (cond b (replaced_line (frame_of s) q l) l)
    go true e true f =
        replaced_order s p q l (allowed s p l (eqb-true (replace_refusal s p l) 0 e)) (allowed s q l (eqb-true (replace_refusal s q l) 0 f)) d
    go true e false f = refl
    go false e true f = refl
    go false e false f = refl

pub left-order :
    (s : Setting) (p q : Request) (l : Line) → (p.place ≡ q.place → ⊥) → (n i : ℕ) (k m : Line) → After n k ≡ replace_after s p l → After i m ≡ replace_after s q k
    → (n' i' : ℕ) (k' m' : Line) → After n' k' ≡ replace_after s q l → After i' m' ≡ replace_after s p k' → m ≡ m'
left-order s p q l d n i k m e f n' i' k' m' e' f' =
    left-line s q k i m f ∙ ap (line_after s q) (left-line s p l n k e) ∙ line_after-order s p q l d ∙ sym (left-line s p k' i' m' f' ∙ ap (line_after s p) (left-line s q l n' k' e'))
