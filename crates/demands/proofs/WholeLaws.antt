-- What the promises of a replacement say of its records and columns is all of it: a line of which they hold is the replaced line (`whole`).
-- Assumes nothing.
use mathlib.Core.Path.{◌≡◌, refl, sym, ◌∙◌}
use mathlib.Core.Bool.{Bool, true, false, false≢true}
use Prim.Native.Nat.{ℕ, ◌<◌, ◌≤◌}
use native.Mathlib.Omega.{arith}
use lib.ListN.{length, get_or}
use lib.Seq.{ext_get_or}
use Rattle.lines.specs.Held.{Setting, Line, letters_of}
use Rattle.lines.specs.Joined.{types_of, frame_of, joined_line}
use Rattle.lines.proofs.LineLaws.{formed}
use Rattle.renewing.specs.Renewed.{touched}
use Rattle.renewing.proofs.RenewLaws.{length-renewed}
use Rattle.replacing.specs.Replaced.{Request, replaced_line}
use Rattle.replacing.proofs.LocalLaws.{TouchesIn, touched_touches, touches_touched, length-changed}
use Rattle.replacing.proofs.AllowedLaws.{Allowed, length-letters}
use Rattle.replacing.proofs.CurrentLaws.{replaced_else, replaced_fresh}
use Rattle.demands.specs.Replacing.{NamedIn, OthersKept, Renewed, NewLetter}
use Rattle.demands.proofs.NamedLaws.{named_touches, touches_named}

module _ (s : Setting) (a : Request) (l : Line) (ok : Allowed s a l) (k : Line) (new : NewLetter a l k) (kept : OthersKept s a l k) (fresh : Renewed s a k) where
  -- the line that the call leaves
  abbrev left : Line
  left = replaced_line (frame_of s) a l

  size : length (types_of left.letters) ≡ length l.letters.types
  size = length-changed (frame_of s) a l ∙ length-letters s a l ok

  same-named : (j : ℕ) → NamedIn s left a.place j → NamedIn s k a.place j
  same-named j n = rw (new.codes, new.types, new.categories) n

  named-same : (j : ℕ) → NamedIn s k a.place j → NamedIn s left a.place j
  named-same j n = rw (new.codes, new.types, new.categories) at n

  same-fresh : (joined_line s k).actions ≡ (joined_line s left).actions
  same-fresh = rw (new.codes, new.types, new.categories) refl

  same-fresh-masks : (joined_line s k).masks ≡ (joined_line s left).masks
  same-fresh-masks = rw (new.codes, new.types, new.categories, new.base) refl

  -- record by record: what both keep, or what both have from fresh joining
  at : (j : ℕ) → j < length l.letters.types → (get_or k.actions j 0 ≡ get_or left.actions j 0) × (get_or k.masks j 0 ≡ get_or left.masks j 0)
  at j h = go (touched (frame_of s) left a.place j) refl
    where
      within : a.place ≤ length (types_of left.letters)
      within = omega (arith, size, ok.inside)

      on : j < length (types_of left.letters)
      on = omega (arith, size)

      go : (b : Bool) → touched (frame_of s) left a.place j ≡ b → (get_or k.actions j 0 ≡ get_or left.actions j 0) × (get_or k.masks j 0 ≡ get_or left.masks j 0)
      go true e =
          let t = touched_touches (frame_of s) left a.place j within on e in
          let mine = replaced_fresh s a l ok j t in
          let its = fresh j (same-named j (touches_named s.mongolian left.codes (types_of left.letters) a.place j on t)) in
          (its.0 ∙ rw same-fresh (sym mine.0), its.1 ∙ rw same-fresh-masks (sym mine.1))
      go false e =
          let never : TouchesIn (frame_of s) left a.place j → ⊥ = λ t. false≢true (sym e ∙ touches_touched (frame_of s) left a.place j within on t) in
          let mine = replaced_else s a l ok j (λ _. never) in
          let its = kept j (λ n. never (named_touches s.mongolian left.codes (types_of left.letters) a.place (named-same j n))) in
          (its.0 ∙ sym mine.0, its.1 ∙ sym mine.1)

  actions : k.actions ≡ left.actions
  actions =
      ext_get_or 0 k.actions left.actions (new.actions ∙ sym (length-renewed _ _ l.actions))
      (λ j h. (at j (omega (arith, new.actions, ok.line.actions))).0)

  masks : k.masks ≡ left.masks
  masks =
      ext_get_or 0 k.masks left.masks (new.masks ∙ sym (length-renewed _ _ l.masks))
      (λ j h. (at j (omega (arith, new.masks, ok.line.masks))).1)

  pub whole : k ≡ left
  whole = λ i. formed (new.codes i) (letters_of (new.types i) (new.categories i)) (new.base i) (actions i) (masks i)
