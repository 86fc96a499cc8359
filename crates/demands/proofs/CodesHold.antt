-- The promises of joining and replacing by codes hold: each is the one of joining or replacing itself, at the types that Unicode lists.
-- Assumes nothing.
use mathlib.Core.Path.{◌≡◌, refl, sym, ap, ap₂, subst, ◌∙◌}
use mathlib.Core.Bool.{true, ◌&&◌, not}
use mathlib.Core.List.{List, [], ◌∷◌, map}
use Prim.Native.Nat.{ℕ, zero, suc, ◌<◌}
use native.Mathlib.Omega.{arith}
use lib.Dec.{eqb, leb}
use lib.ListN.{length, get_or, length-map}
use borrow.Author.Tests.{ne_eqb}
use Rattle.laws.specs.Rows.{Given, first}
use Rattle.refusals.specs.Columns.{line_limit, at_most}
use Rattle.refusals.specs.Numbers.{said, Verdict}
use Rattle.refusals.proofs.PromiseLaws.{kept}
use Rattle.refusals.proofs.LeftLaws.{left-number}
use Rattle.refusals.proofs.VerdictLaws.{same-said}
use Rattle.letters.specs.Types.{X}
use Rattle.letters.specs.Categories.{Zs}
use Rattle.shapes.specs.Joining.{form}
use Rattle.masks.specs.Masks.{mask}
use Rattle.listed.specs.Rows.{type_in}
use Rattle.listed.specs.Listed.{listed}
use Rattle.listed.proofs.PromisesHold.{held-type, unlisted, listed-rises}
use Rattle.listed.proofs.ListedLaws.{listed_below, listed-known}
use Rattle.lines.specs.Held.{Line}
use Rattle.lines.specs.Joined.{context_limit, refusal, frame_of, joined_line}
use Rattle.lines.proofs.LineLaws.{accepted}
use Rattle.replacing.specs.Replaced.{replace_refusal, replaced_line}
use Rattle.coded.specs.Coded.{CodedSetting, CodedLine, CodedRequest, coded_letters_of, coded_line_of, typed_setting, typed_line, typed_request, JoiningCodes}
use Rattle.demands.specs.Neighbours.{in_the_end, letters_in}
use Rattle.demands.specs.Joining.{Joined}
use Rattle.demands.specs.Replacing.{AfterAll}
use Rattle.demands.specs.Codes.{JoinPromised, ReplacePromised, CodesNeverRefused, AsLent, ListedStays, UnlistedByCategory, CodesByNeighbours, JoinsAsListed, CodesUnicode, CodesMasks, CodesWriteForms, CodesFreshCurrent, AfterAllCodes, CodesAlwaysCurrent, CodesJoinToThemselves, CodesAlterNear, CodesGetFresh, CodesChangeLetter, CodesEitherOrder}
use Rattle.demands.specs.CodedExamples.{CodedExamples}
use Rattle.demands.proofs.NeighbourLaws.{letters-of}
use Rattle.demands.proofs.JoiningHolds as joining
use Rattle.demands.proofs.ReplacingHolds as replacing

-- what is left of a line without its types, and that a line held by codes is told by its line of types
abbrev bare : Line → CodedLine
bare l = coded_line_of l.codes l.letters.categories l.base l.actions l.masks

untyped : {m n : CodedLine} → typed_line m ≡ typed_line n → m ≡ n
untyped e = ap bare e

pub join_promised : JoinPromised
unfolding refusal
join_promised =
    kept {told = λ _ m. typed_line m} {old = typed_line} {new = λ s l. joined_line (typed_setting s) (typed_line l)}
    (record { says = λ s l r m x. x; rising = λ s l. refl; fixed = λ r u m n e f. (same-said r u e, untyped f); idle = λ r l m e. (untyped e, tt) })

pub replace_promised : ReplacePromised
unfolding replace_refusal
replace_promised =
    kept {told = λ _ m. typed_line m} {old = typed_line} {new = λ q l. replaced_line (frame_of (typed_setting q.0)) (typed_request q.1) (typed_line l)}
    (record { says = λ q l r m x. x; rising = λ q l. refl; fixed = λ r u m n e f. (same-said r u e, untyped f); idle = λ r l m e. (untyped e, tt) })

-- ---- types
all_known : (codes : List ℕ) → at_most X (map (type_in listed) codes) ≡ true
all_known [] = refl
all_known (c ∷ codes) = rw (listed-known c, all_known codes)

-- the number of a line by lengths and categories
abbrev plain : (n p q : ℕ) (categories before behind base actions masks : List ℕ) → ℕ
plain n p q categories before behind base actions masks =
    let even = eqb n (length categories) && (eqb n n && (eqb n (length base) && (eqb n (length actions) && eqb n (length masks)))) in
    first (
    Given 1 (not (even && (eqb p (length before) && eqb q (length behind)))) ∷
    Given 2 (not (leb n line_limit && (leb p context_limit && leb q context_limit))) ∷
    Given 3 (not (at_most Zs categories && (at_most Zs before && at_most Zs behind))) ∷
    []
    )

number : (s : CodedSetting) (l : CodedLine) → refusal (typed_setting s) (typed_line l) ≡ plain (length l.letters.codes) (length s.pre.codes) (length s.post.codes) l.letters.categories s.pre.categories s.post.categories l.base l.actions l.masks
unfolding refusal
number s l =
    rw (
      length-map l.letters.codes (type_in listed),
      length-map s.pre.codes (type_in listed),
      length-map s.post.codes (type_in listed),
      all_known l.letters.codes,
      all_known s.pre.codes,
      all_known s.post.codes,
    )

pub codes-never_refused : CodesNeverRefused
codes-never_refused s t l k r u m n e f pre post own base actions masks =
    let says : (x : CodedSetting) (y : CodedLine) (v : Verdict) (z : CodedLine) → JoiningCodes x y v z → said v ≡ refusal (typed_setting x) (typed_line y) =
    λ x y v z. left-number (refusal (typed_setting x) (typed_line y)) (typed_line y) (joined_line (typed_setting x) (typed_line y)) (said v) (typed_line z)
    in
    says s l r m e ∙ number s l
    ∙ rw (own.count, pre.count, post.count, own.categories, pre.categories, post.categories, base, actions, masks) refl
    ∙ sym (says t k u n f ∙ number t k)

pub as_lent : AsLent
as_lent s l r m e u n f = (joining.promised).one_answer (typed_setting s) (typed_line l) r u (typed_line m) n e f

letter_at :
    (f : ℕ → ℕ) (codes categories : List ℕ) (j : ℕ) → j < length codes → j < length categories
    → get_or (letters_in (map f codes) categories) j 0 ≡ in_the_end (f (get_or codes j 0)) (get_or categories j 0)
letter_at f [] categories j h k = absurd (omega arith)
letter_at f (c ∷ codes) [] j h k = absurd (omega arith)
letter_at f (c ∷ codes) (g ∷ categories) zero h k = refl
letter_at f (c ∷ codes) (g ∷ categories) (suc j) h k = letter_at f codes categories j (omega arith) (omega arith)

pub listed_stays : ListedStays
listed_stays l j h k row among held =
    letter_at (type_in listed) l.codes l.categories j h k
    ∙ ap (λ (t : ℕ). in_the_end t (get_or l.categories j 0)) (held-type listed listed-rises row among (get_or l.codes j 0) held)
    ∙ rw (ne_eqb row.type X (λ e. omega (arith, listed_below among, e)))

pub unlisted-by-category : UnlistedByCategory
unlisted-by-category l j h k none =
    letter_at (type_in listed) l.codes l.categories j h k
    ∙ ap (λ (t : ℕ). in_the_end t (get_or l.categories j 0)) (unlisted listed (get_or l.codes j 0) none)

-- ---- demand 2
pub codes-by_neighbours : CodesByNeighbours
codes-by_neighbours s l r m = joining.by_neighbours (typed_setting s) (typed_line l) r (typed_line m)

-- the letter that a record is, by its code and its category
own-letter :
    (s : CodedSetting) (l : CodedLine) (r : Verdict) (m : CodedLine) → JoiningCodes s l r m → said r ≡ 0
    → (j a t b : ℕ) → Joined (typed_setting s) (typed_line l) j a t b
    → t ≡ in_the_end (type_in listed (get_or l.letters.codes j 0)) (get_or l.letters.categories j 0)
own-letter s l r m e z j a t b p =
    let x = typed_setting s in
    let y = typed_line l in
    let ok = accepted x y (sym (left-number (refusal x y) y (joined_line x y) (said r) (typed_line m) e) ∙ z) in
    sym p.place.own
    ∙ (joining.stands x y ok j p.inside).own
    ∙ ap (λ (ts : List ℕ). get_or ts j 0) (sym (letters-of y.letters))
    ∙ letter_at (type_in listed) l.letters.codes l.letters.categories j p.inside (omega (arith, p.inside, ok.line.even, length-map l.letters.codes (type_in listed)))

pub joins_as_listed : JoinsAsListed
joins_as_listed s l r m e z j h free row among held =
    let (a, t, b, p, formed) = codes-by_neighbours s l r m e z j h free in
    let same : t ≡ row.type =
    own-letter s l r m e z j a t b p
    ∙ ap (λ (u : ℕ). in_the_end u (get_or l.letters.categories j 0)) (held-type listed listed-rises row among (get_or l.letters.codes j 0) held)
    ∙ rw (ne_eqb row.type X (λ w. omega (arith, listed_below among, w)))
    in
    (a, b, subst (λ (u : ℕ). Joined (typed_setting s) (typed_line l) j a u b) same p, formed ∙ ap (λ (u : ℕ). form a u b) same)

pub codes-unicode : CodesUnicode
codes-unicode s l r m = joining.unicode_call (typed_setting s) (typed_line l) r (typed_line m)

pub codes-masks : CodesMasks
codes-masks s l r m = joining.mask-of-action (typed_setting s) (typed_line l) r (typed_line m)

pub codes_write_forms : CodesWriteForms
codes_write_forms s l r m e z =
    let w = joining.writes-forms (typed_setting s) (typed_line l) r (typed_line m) e z in
    record { letters = ap₂ coded_letters_of w.codes (ap (λ k. k.categories) w.letters); base = w.base; actions = w.actions; masks = w.masks }

-- ---- demand 3
pub codes-fresh_current : CodesFreshCurrent
codes-fresh_current s l r m = replacing.fresh_current (typed_setting s) (typed_line l) r (typed_line m)

after-all : (s : CodedSetting) (all : List CodedRequest) (l m : CodedLine) → AfterAllCodes s all l m → AfterAll (typed_setting s) (map typed_request all) (typed_line l) (typed_line m)
after-all s [] l m e = ap typed_line e
after-all s (q ∷ all) l m (r, k, e, on) = (r, typed_line k, e, after-all s all k m on)

pub codes_always_current : CodesAlwaysCurrent
codes_always_current s l r k all m e z on =
    replacing.always_current (typed_setting s) (typed_line l) r (typed_line k) (map typed_request all) (typed_line m) e z (after-all s all k m on)

pub codes_join_to_themselves : CodesJoinToThemselves
codes_join_to_themselves s l r k all m e z on u n f =
    let (number, same) = replacing.joins-to-itself (typed_setting s) (typed_line l) r (typed_line k) (map typed_request all) (typed_line m) e z (after-all s all k m on) u (typed_line n) f in
    (number, untyped same)

pub codes_alter_near : CodesAlterNear
codes_alter_near s q l r m = replacing.alters-near (typed_setting s) (typed_request q) (typed_line l) r (typed_line m)

pub codes_get_fresh : CodesGetFresh
codes_get_fresh s q l r m = replacing.gets_fresh (typed_setting s) (typed_request q) (typed_line l) r (typed_line m)

pub codes_change_letter : CodesChangeLetter
codes_change_letter s q l r m e z =
    let c = replacing.changes-letter (typed_setting s) (typed_request q) (typed_line l) r (typed_line m) e z in
    record { codes = c.codes; categories = c.categories; base = c.base; actions = c.actions; masks = c.masks }

pub codes-either-order : CodesEitherOrder
codes-either-order s p q l d r u k m e f u' r' k' m' e' f' =
    let o =
    replacing.either_order (typed_setting s) (typed_request p) (typed_request q) (typed_line l) d r u (typed_line k) (typed_line m) e f u' r' (typed_line k') (typed_line m') e' f'
    in
    (untyped o.0, o.1, o.2)

pub coded_examples_lem : CodedExamples
unfolding form mask type_in listed refusal replace_refusal
coded_examples_lem = (refl, (refl, (refl, (refl, (refl, (refl, tt))))))
