-- What a replacement leaves at a record: what joining afresh gives where the new letter touches it (`replaced_fresh`), else what it had (`replaced_else`). So a line whose
-- every record is as joining afresh gives stays so (`replaced_current`): the records that are touched are joined afresh, and the others need not be.
-- Assumes nothing.
use mathlib.Core.Path.{◌≡◌, refl, sym, ap, ◌∙◌}
use mathlib.Core.Bool.{Bool, true, false}
use Prim.Native.Nat.{ℕ, ◌<◌, ◌≤◌}
use native.Mathlib.Omega.{arith}
use lib.ListN.{length, get_or}
use Rattle.masks.specs.Masks.{masks}
use Rattle.masks.proofs.MaskLaws.{length-masks}
use Rattle.lines.specs.Held.{Setting, Line}
use Rattle.lines.specs.Joined.{types_of, frame_of, fresh_actions, fresh_line}
use Rattle.lines.proofs.LineLaws.{length-fresh, same_line}
use Rattle.renewing.specs.Renewed.{touched, renewed}
use Rattle.replacing.specs.Replaced.{Request, changed, replaced_line}
use Rattle.renewing.proofs.RenewLaws.{renewed-right, renewed_else, renewed-there}
use Rattle.replacing.proofs.LocalLaws.{TouchesIn, touched_touches, touches_touched, length-changed, untouched_action, untouched_mask}
use Rattle.replacing.proofs.AllowedLaws.{Allowed, length-letters}

-- a request that is carried out
module _ (s : Setting) (r : Request) (l : Line) (a : Allowed s r l) where
  -- the line with the new letter has as many letters, and as many fresh actions and masks as the line has old ones
  long : length (types_of (changed r l).letters) ≡ length l.letters.types
  long = length-changed (frame_of s) r l ∙ length-letters s r l a

  actions-long : length l.actions ≡ length (fresh_actions (frame_of s) (changed r l))
  actions-long = a.line.actions ∙ sym (length-fresh (frame_of s) (changed r l) ∙ long)

  masks-long : length l.masks ≡ length (masks s.features l.base (fresh_actions (frame_of s) (changed r l)))
  masks-long =
      let e : length l.base ≡ length (fresh_actions (frame_of s) (changed r l)) = omega (arith, a.line.base, a.line.actions, actions-long) in
      omega (arith, a.line.masks, a.line.actions, actions-long, length-masks s.features l.base (fresh_actions (frame_of s) (changed r l)) e)

  -- at a record
  module _ (j : ℕ) where
    pub replaced_else :
        (j < length (types_of (changed r l).letters) → TouchesIn (frame_of s) (changed r l) r.place j → ⊥)
        → (get_or (replaced_line (frame_of s) r l).actions j 0 ≡ get_or l.actions j 0) × (get_or (replaced_line (frame_of s) r l).masks j 0 ≡ get_or l.masks j 0)
    replaced_else never =
        let f = frame_of s in
        let new = changed r l in
        let at = touched f new r.place in
        let off : j < length (types_of new.letters) → at j ≡ false =
        λ h. failed (at j) (λ e. never h (touched_touches f new r.place j (omega (arith, long, a.inside)) h e))
        in
        (renewed_else at (λ i. get_or (fresh_actions f new) i 0) l.actions j (λ h. off (omega (arith, long, a.line.actions))), renewed_else at (λ i. get_or (masks s.features l.base (fresh_actions f new)) i 0) l.masks j (λ h. off (omega (arith, long, a.line.masks))))
      where
        failed : (b : Bool) → (b ≡ true → ⊥) → b ≡ false
        failed true d = absurd (d refl)
        failed false d = refl

    pub replaced_fresh :
        TouchesIn (frame_of s) (changed r l) r.place j
        → (get_or (replaced_line (frame_of s) r l).actions j 0 ≡ get_or (fresh_line (frame_of s) (changed r l)).actions j 0)
        × (get_or (replaced_line (frame_of s) r l).masks j 0 ≡ get_or (fresh_line (frame_of s) (changed r l)).masks j 0)
    replaced_fresh t =
        let f = frame_of s in
        let new = changed r l in
        let at = touched f new r.place in
        let yes : j < length (types_of new.letters) → at j ≡ true = λ h. touches_touched f new r.place j (omega (arith, long, a.inside)) h t in
        (renewed-there at l.actions (fresh_actions f new) j actions-long (λ h. yes (omega (arith, long, a.line.actions))), renewed-there at l.masks (masks s.features l.base (fresh_actions f new)) j masks-long (λ h. yes (omega (arith, long, a.line.masks))))

  -- at every record of a line that is current
  pub replaced_current : l ≡ fresh_line (frame_of s) l → replaced_line (frame_of s) r l ≡ fresh_line (frame_of s) (replaced_line (frame_of s) r l)
  replaced_current now =
      let f = frame_of s in
      let new = changed r l in
      let at = touched f new r.place in
      let n = length-letters s r l a in
      let within : r.place ≤ length (types_of l.letters) = omega (arith, a.inside) in
      let fresh = masks s.features l.base (fresh_actions f new) in
      let actions : renewed at (λ j. get_or (fresh_actions f new) j 0) l.actions ≡ fresh_actions f new =
      renewed-right at l.actions (fresh_actions f new) actions-long
      (λ j h off. ap (λ (m : Line). get_or m.actions j 0) now ∙ sym (untouched_action f r l j (omega (arith, a.line.actions)) within off))
      in
      let masked : renewed at (λ j. get_or fresh j 0) l.masks ≡ fresh =
      renewed-right at l.masks fresh masks-long
      (λ j h off. ap (λ (m : Line). get_or m.masks j 0) now ∙ sym (untouched_mask f r l j (omega (arith, a.line.masks)) within off s.features l.base (omega (arith, a.line.masks, a.line.base))))
      in
      same_line new.codes new.letters l.base actions masked
