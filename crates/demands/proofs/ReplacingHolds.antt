-- The promises of replacing a letter hold.
-- Assumes nothing.
use mathlib.Core.Path.{◌≡◌, refl, sym, ap, ◌∙◌}
use mathlib.Core.List.{List, [], ◌∷◌}
use mathlib.Core.Logic.{⊎_elim}
use Prim.Native.Nat.{◌<◌}
use native.Mathlib.Omega.{arith}
use lib.ListN.{length, length-set}
use Rattle.refusals.specs.Numbers.{said, Verdict}
use Rattle.refusals.proofs.VerdictLaws.{same-said}
use Rattle.lines.specs.Held.{Setting, Line}
use Rattle.lines.specs.Joined.{refusal, frame_of, joined_line, types_of}
use Rattle.lines.proofs.LineLaws.{accepted, refusal-joined}
use Rattle.refusals.proofs.LeftLaws.{left-number, left-accepted}
use Rattle.refusals.proofs.PromiseLaws.{kept}
use Rattle.replacing.specs.Replaced.{Request, changed, replaced_line, replace_refusal, Replacing}
use Rattle.renewing.proofs.RenewLaws.{length-renewed}
use Rattle.replacing.proofs.AllowedLaws.{Allowed, allowed, left_replaced, length-letters, joining_replaced}
use Rattle.replacing.proofs.LocalLaws.{length-changed, types_elsewhere, marks_elsewhere}
use Rattle.replacing.proofs.CurrentLaws.{replaced_else, replaced_fresh, replaced_current}
use Rattle.replacing.proofs.OrderLaws.{refusal-behind, left-order}
use Rattle.demands.specs.Replacing.{Promised, Current, FreshCurrent, StaysCurrent, AfterAll, AlwaysCurrent, JoinsToItself, NamedAlike, AltersNear, GetsFresh, ChangesLetter, NoOther, EitherOrder}
use Rattle.demands.proofs.NamedLaws.{named_touches, touches_named, named-own}
use Rattle.demands.proofs.WholeLaws.{whole}

pub promised : Promised
unfolding replace_refusal
promised =
    kept {told = λ _ m. m} {old = λ l. l} {new = λ q. replaced_line (frame_of q.0) q.1}
    (record { says = λ q l r m x. x; rising = λ q l. refl; fixed = λ r u m n e f. (same-said r u e, f); idle = λ r l m e. (e, tt) })

pub fresh_current : FreshCurrent
fresh_current s l r m e z = let j = left-accepted (refusal s l) l (joined_line s l) (said r) m e z in rw j refl

pub stays_current : StaysCurrent
stays_current s q l r m c e = ⊎_elim (λ (d, same). rw same c) (λ (a, new). rw new (replaced_current s q l a c)) (left_replaced s q l (said r) m e)

all_current : (s : Setting) (qs : List Request) (l m : Line) → Current s l → AfterAll s qs l m → Current s m
all_current s [] l m c e = rw (← e) c
all_current s (q ∷ qs) l m c (r, k, e, on) = all_current s qs k m (stays_current s q l r k c e) on

pub always_current : AlwaysCurrent
always_current s l r k qs m e z on = all_current s qs k m (fresh_current s l r k e z) on

-- a line that joining accepts, it accepts after any requests
rejoined : (s : Setting) (q : Request) (l : Line) (r : Verdict) (m : Line) → Replacing s q l r m → refusal s m ≡ refusal s l
rejoined s q l r m e = ⊎_elim (λ (d, same). rw same refl) (λ (a, new). rw new (joining_replaced s q l a)) (left_replaced s q l (said r) m e)

all-rejoined : (s : Setting) (qs : List Request) (l m : Line) → AfterAll s qs l m → refusal s m ≡ refusal s l
all-rejoined s [] l m e = rw e refl
all-rejoined s (q ∷ qs) l m (r, k, e, on) = all-rejoined s qs k m on ∙ rejoined s q l r k e

pub joins-to-itself : JoinsToItself
joins-to-itself s l r k qs m e z on u n f =
    let none : refusal s l ≡ 0 = sym (left-number (refusal s l) l (joined_line s l) (said r) k e) ∙ z in
    let fresh : k ≡ joined_line s l = left-accepted (refusal s l) l (joined_line s l) (said r) k e z in
    let still : refusal s m ≡ 0 = all-rejoined s qs k m on ∙ ap (refusal s) fresh ∙ refusal-joined s l (accepted s l none) ∙ none in
    let number : said u ≡ 0 = left-number (refusal s m) m (joined_line s m) (said u) n f ∙ still in
    (number, left-accepted (refusal s m) m (joined_line s m) (said u) n f number ∙ sym (always_current s l r k qs m e z on))

-- an accepted request, and the line that it leaves
module _ (s : Setting) (q : Request) (l : Line) (r : Verdict) (m : Line) (e : Replacing s q l r m) (z : said r ≡ 0) where
  unrefused : Allowed s q l
  unrefused = allowed s q l (sym (left-number (replace_refusal s q l) l (replaced_line (frame_of s) q l) (said r) m e) ∙ z)

  left : m ≡ replaced_line (frame_of s) q l
  left = left-accepted (replace_refusal s q l) l (replaced_line (frame_of s) q l) (said r) m e z

pub changes-letter : ChangesLetter
changes-letter s q l r m e z =
    rw (left s q l r m e z)
    (record { codes = refl; types = refl; categories = refl; base = refl; actions = length-renewed _ _ l.actions; masks = length-renewed _ _ l.masks })

pub named-alike : NamedAlike
named-alike s q l r m e z j =
    let f = frame_of s in
    let a = unrefused s q l r m e z in
    let old = types_of l.letters in
    let new = changed q l in
    let long = length-changed f q l in
    let even : length l.codes ≡ length old = a.line.codes ∙ sym (length-letters s q l a) in
    let inside : q.place < length old = omega (arith, length-letters s q l a, a.inside) in
    rw (left s q l r m e z) (
      named-own s.mongolian l.codes new.codes old (types_of new.letters) q.place even long inside (types_elsewhere f q l) (marks_elsewhere f q l),
      named-own s.mongolian new.codes l.codes (types_of new.letters) old q.place (length-set l.codes q.place q.code ∙ even ∙ sym long) (sym long) (omega (arith, long, inside)) (λ i d. sym (types_elsewhere f q l i d)) (λ i d. sym (marks_elsewhere f q l i d)),
    )

pub alters-near : AltersNear
alters-near s q l r m e z j =
    rw (left s q l r m e z) (λ other. replaced_else s q l (unrefused s q l r m e z) j (λ h t. other (touches_named s.mongolian _ _ q.place j h t)))

pub gets_fresh : GetsFresh
gets_fresh s q l r m e z j =
    rw (left s q l r m e z) (λ n. replaced_fresh s q l (unrefused s q l r m e z) j (named_touches s.mongolian _ _ q.place n))

pub no_other : NoOther
no_other s a l r m e z k new kept fresh = whole s a l (unrefused s a l r m e z) k new kept fresh ∙ sym (left s a l r m e z)

pub either_order : EitherOrder
either_order s p q l d r u k m e f u' r' k' m' e' f' =
    let number : (x : Request) (j : Line) (v : Verdict) (n : Line) → Replacing s x j v n → said v ≡ replace_refusal s x j =
    λ x j v n. left-number (replace_refusal s x j) j (replaced_line (frame_of s) x j) (said v) n
    in
    (left-order s p q l d (said r) (said u) k m e f (said u') (said r') k' m' e' f', same-said r r' (number p l r k e ∙ sym (number p k' r' m' f' ∙ refusal-behind s q p l (said u') k' e')), same-said u u' (number q k u m f ∙ refusal-behind s p q l (said r) k e ∙ sym (number q l u' k' e')))
