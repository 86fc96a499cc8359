-- The promises of joining hold.
-- Assumes nothing.
use mathlib.Core.Path.{◌≡◌, refl, sym, ap, ◌∙◌}
use mathlib.Core.Bool.{Bool, true, false, cond}
use mathlib.Core.List.{List, [], ◌∷◌}
use Prim.Native.Nat.{ℕ, zero, suc, ◌-◌, ◌<◌}
use native.Mathlib.Omega.{arith}
use borrow.Author.Tests.{ne_eqb}
use lib.Bits.{bit_or}
use lib.Dec.{eqb}
use lib.ListN.{length, get_or, take, drop}
use Rattle.refusals.specs.Numbers.{said, Verdict}
use Rattle.refusals.proofs.LeftLaws.{left-number, left-accepted}
use Rattle.refusals.proofs.PromiseLaws.{kept}
use Rattle.refusals.proofs.VerdictLaws.{same-said}
use Rattle.letters.specs.Types.{U}
use Rattle.letters.specs.Actions.{isol, fina, fin2, fin3, medi, med2, init}
use Rattle.shapes.specs.Joining.{form, latest, nearest, each_between}
use Rattle.shapes.proofs.JoiningLaws.{length-each, length-line_types}
use Rattle.shapes.proofs.LocalityLaws.{each_at}
use Rattle.shapes.proofs.UnicodeLaws.{form-unicode}
use Rattle.selectors.specs.Selectors.{selector, settled}
use Rattle.selectors.proofs.SelectorLaws.{settled-first, settled-next}
use Rattle.masks.specs.Masks.{mask}
use Rattle.masks.proofs.MaskLaws.{length-masks, masks-at}
use Rattle.lines.specs.Held.{Setting, Line}
use Rattle.lines.specs.Joined.{types_of, frame_of, fresh_actions, refusal, joined_line, Joining}
use Rattle.lines.proofs.LineLaws.{Accepted, accepted, length-fresh}
use Rattle.demands.specs.Neighbours.{text, place_in, Between}
use Rattle.demands.specs.Joining.{Promised, AcceptedJoins, WritesForms, Follows, SelectorsFollow, Joined, ByNeighbours, UnicodeCall, Local, feature_of, MaskOfAction}
use Rattle.demands.proofs.NeighbourLaws.{letters-of, member-selector, between_record, between-once, common-between}

pub promised : Promised
unfolding refusal
promised =
    kept {told = λ _ m. m} {old = λ l. l} {new = joined_line}
    (record { says = λ s l r m x. x; rising = λ s l. refl; fixed = λ r u m n e f. (same-said r u e, f); idle = λ r l m e. (e, tt) })

pub accepted-joins : AcceptedJoins
accepted-joins s l r m = left-accepted (refusal s l) l (joined_line s l) (said r) m

-- ---- a line that is not refused, in its setting
module _ (s : Setting) (l : Line) (a : Accepted s l) where
  abbrev letters : List ℕ
  letters = types_of l.letters

  -- the actions before selectors are settled
  abbrev joined : List ℕ
  joined = each_between form (nearest (types_of s.pre) U) letters (nearest (types_of s.post) U)

  long : length letters ≡ length l.codes
  long = length-line_types l.letters.types l.letters.categories a.line.even ∙ sym a.codes

  joined-long : length joined ≡ length l.codes
  joined-long = length-each form _ letters _ ∙ long

  pub fresh-long : length (fresh_actions (frame_of s) l) ≡ length l.codes
  fresh-long = length-fresh (frame_of s) l ∙ long

  -- a record that follows has what the one before it has
  pub follows-action : (j : ℕ) → j < length l.codes → Follows s l j → get_or (fresh_actions (frame_of s) l) j 0 ≡ get_or (fresh_actions (frame_of s) l) (j - 1) 0
  follows-action zero h f = absurd (omega (arith, f.later))
  follows-action (suc k) h f =
      let code : selector (get_or l.codes (suc k) 0) ≡ true = sym (member-selector (get_or l.codes (suc k) 0)) ∙ f.named in
      let one_less : k ≡ suc k - 1 = omega arith in
      rw (f.mongolian, ← one_less) (settled-next l.codes joined k (omega (arith, joined-long)) ∙ simp code)

  -- any other has what joining gives it
  pub free-action : (j : ℕ) → j < length l.codes → (Follows s l j → ⊥) → get_or (fresh_actions (frame_of s) l) j 0 ≡ get_or joined j 0
  free-action j h free = by_script s.mongolian refl j h free
    where
      at : (k : ℕ) → suc k < length l.codes → (t : Bool) → selector (get_or l.codes (suc k) 0) ≡ t → (t ≡ true → ⊥) → get_or (settled l.codes joined) (suc k) 0 ≡ get_or joined (suc k) 0
      at k h true e never = absurd (never refl)
      at k h false e never = settled-next l.codes joined k (omega (arith, joined-long)) ∙ simp e

      by_script :
          (mongolian : Bool) → s.mongolian ≡ mongolian → (j : ℕ) → j < length l.codes → (Follows s l j → ⊥)
          → get_or (cond mongolian (settled l.codes joined) joined) j 0 ≡ get_or joined j 0
      by_script false e j h free = refl
      by_script true e zero h free = settled-first l.codes joined
      by_script true e (suc k) h free =
          at k h (selector (get_or l.codes (suc k) 0)) refl (λ t. free (record { mongolian = e; later = omega arith; named = member-selector (get_or l.codes (suc k) 0) ∙ t }))

  -- which is the rule between its neighbours
  pub stands :
      (j : ℕ) → j < length l.codes
      → Between (text s l) (place_in s j) (latest (nearest (types_of s.pre) U) (take j letters)) (get_or letters j 0) (nearest (drop (suc j) letters) (nearest (types_of s.post) U))
  stands j h =
      let size : length s.pre.types ≡ length (types_of s.pre) = sym (length-line_types s.pre.types s.pre.categories a.pre.even) in
      rw (letters-of s.pre, letters-of l.letters, letters-of s.post, size) (between_record (types_of s.pre) letters (types_of s.post) j (omega (arith, long)))

  pub by-rule : (j a t b : ℕ) → Joined s l j a t b → get_or (fresh_actions (frame_of s) l) j 0 ≡ form a t b
  by-rule j a t b p =
      free-action j p.inside p.free
      ∙ each_at form _ letters _ j (omega (arith, long, p.inside))
      ∙ between-once (text s l) (place_in s j) form (stands j p.inside) p.place

-- ---- an accepted call
module _ (s : Setting) (l : Line) (r : Verdict) (m : Line) (e : Joining s l r m) (z : said r ≡ 0) where
  unrefused : Accepted s l
  unrefused = accepted s l (sym (left-number (refusal s l) l (joined_line s l) (said r) m e) ∙ z)

  left : m ≡ joined_line s l
  left = accepted-joins s l r m e z

pub writes-forms : WritesForms
writes-forms s l r m e z =
    let a = unrefused s l r m e z in
    rw (left s l r m e z)
    (record {
      codes = refl;
      letters = refl;
      base = refl;
      actions = fresh-long s l a;
      masks = length-masks s.features l.base (fresh_actions (frame_of s) l) (a.base ∙ sym a.codes ∙ sym (fresh-long s l a)) ∙ fresh-long s l a;
    })

pub selectors-follow : SelectorsFollow
selectors-follow s l r m e z j h f = rw (left s l r m e z) (follows-action s l (unrefused s l r m e z) j h f)

pub by_neighbours : ByNeighbours
by_neighbours s l r m e z j h free =
    let a = unrefused s l r m e z in
    let p : Joined s l j _ _ _ = record { inside = h; free = free; place = stands s l a j h } in
    (_, _, _, p, rw (left s l r m e z) (by-rule s l a j _ _ _ p))

pub unicode_call : UnicodeCall
unicode_call s l r m e z clear j a t b p =
    let ok = unrefused s l r m e z in
    let c = common-between s l ok clear p.place in
    rw (left s l r m e z) (by-rule s l ok j a t b p ∙ form-unicode a t b c.0 c.1 c.2)

pub local : Local
local s s' l l' r r' m m' e z e' z' j j' a t b p p' =
    rw (left s l r m e z, left s' l' r' m' e' z')
    (by-rule s l (unrefused s l r m e z) j a t b p ∙ sym (by-rule s' l' (unrefused s' l' r' m' e' z') j' a t b p'))

-- the entry of an action, by its name
entry_named : (i f s t m n b a : ℕ) → get_or (i ∷ f ∷ s ∷ t ∷ m ∷ n ∷ b ∷ []) a 0 ≡ feature_of i f s t m n b a
entry_named i f s t m n b zero = refl
entry_named i f s t m n b (suc zero) = refl
entry_named i f s t m n b (suc (suc zero)) = refl
entry_named i f s t m n b (suc (suc (suc zero))) = refl
entry_named i f s t m n b (suc (suc (suc (suc zero)))) = refl
entry_named i f s t m n b (suc (suc (suc (suc (suc zero))))) = refl
entry_named i f s t m n b (suc (suc (suc (suc (suc (suc zero)))))) = refl
entry_named i f s t m n b (suc (suc (suc (suc (suc (suc (suc a))))))) =
    let x = suc (suc (suc (suc (suc (suc (suc a)))))) in
    let not : (k : ℕ) → k < 7 → eqb x k ≡ false = λ k h. ne_eqb x k (λ e. omega (arith, e, h)) in
    simp (not isol (omega arith), not fina (omega arith), not fin2 (omega arith), not fin3 (omega arith), not medi (omega arith), not med2 (omega arith), not init (omega arith))

pub mask-of-action : MaskOfAction
unfolding mask
mask-of-action s l r m e z i f w t n k b seven j h =
    let a = unrefused s l r m e z in
    rw (left s l r m e z)
    (masks-at s.features l.base (fresh_actions (frame_of s) l) j (omega (arith, a.base, a.codes)) (omega (arith, fresh-long s l a))
    ∙ ap (bit_or (get_or l.base j 0)) (rw seven (entry_named i f w t n k b (get_or (fresh_actions (frame_of s) l) j 0))))
