-- Lines held by codes: the number that lengths give (`length_number`) is the call's (`joining_refused`, `replacing_refused`), and where they give none all types have room (`in_length`);
-- the line that replacing leaves has the types of its own codes (`left_typed`), so that replacing by these types is replacing by codes (`replacing-by`).
-- Assumes nothing.
use mathlib.Core.Path.{◌≡◌, refl, ap, subst, ◌∙◌}
use mathlib.Core.Bool.{Bool, true, false, not, ◌&&◌, ◌||◌}
use mathlib.Core.List.{List, [], ◌∷◌, map}
use mathlib.Core.Logic.{⊎_elim}
use Prim.Native.Nat.{ℕ, zero, suc, ◌≤◌}
use lib.Dec.{eqb, leb}
use lib.ListN.{length, length-map, set}
use borrow.Author.Tests.{eq-eqb, leb-true, not-false}
use Rattle.laws.specs.Rows.{Row, Given, first}
use Rattle.laws.proofs.RowLaws.{first-none}
use Rattle.laws.proofs.TestLaws.{both}
use Rattle.refusals.specs.Numbers.{said, Verdict}
use Rattle.listed.specs.Rows.{type_in}
use Rattle.listed.specs.Listed.{listed}
use Rattle.lines.specs.Held.{Setting, Line, setting_of, line_of}
use Rattle.lines.specs.Joined.{even_line_lem, uneven, too_long, strange, refusal}
use Rattle.replacing.specs.Replaced.{Request, request_of, strange_request, outside, replace_refusal, Replacing}
use Rattle.replacing.proofs.AllowedLaws.{left_replaced}
use Rattle.coded.specs.Coded.{CodedLetters, CodedSetting, CodedLine, CodedRequest, coded_line_of, typed_setting, typed_line, typed_request, length_rows, ReplacingCodes}

abbrev n : CodedLetters → ℕ
n l = length l.codes

-- lengths of codes are those of their types
long : (l : CodedLetters) → length (map (type_in listed) l.codes) ≡ n l
long l = length-map l.codes (type_in listed)

-- the number that lengths give
abbrev pub length_number : CodedSetting → CodedLine → ℕ
length_number s l =
    first
    (length_rows (n l.letters) (length l.letters.categories) (length l.base) (length l.actions) (length l.masks) (n s.pre) (length s.pre.categories) (n s.post) (length s.post.categories))

-- it is that of the first two rows of joining and replacing
by_rows :
    (s : CodedSetting) (l : CodedLine)
    → let t = typed_setting s in let k = typed_line l in
    length_number s l ≡ first (Given 1 (uneven (even_line_lem k) t.pre t.post) ∷ Given 2 (too_long k.letters t.pre t.post) ∷ [])
by_rows s l = rw (long l.letters, long s.pre, long s.post, eq-eqb (n l.letters) (n l.letters) refl)

-- a number that they give is that of every table which begins with them
begins : (e t : Bool) (rows : List Row) → (first (Given 1 e ∷ Given 2 t ∷ []) ≡ 0 → ⊥) → first (Given 1 e ∷ Given 2 t ∷ []) ≡ first (Given 1 e ∷ Given 2 t ∷ rows)
begins true t rows d = refl
begins false true rows d = refl
begins false false rows d = absurd (d refl)

module _ (s : CodedSetting) (l : CodedLine) (d : length_number s l ≡ 0 → ⊥) where
  given : (rows : List Row) → let t = typed_setting s in let k = typed_line l in
      length_number s l ≡ first (Given 1 (uneven (even_line_lem k) t.pre t.post) ∷ Given 2 (too_long k.letters t.pre t.post) ∷ rows)
  given rows =
      let t = typed_setting s in
      let k = typed_line l in
      by_rows s l ∙ begins (uneven (even_line_lem k) t.pre t.post) (too_long k.letters t.pre t.post) rows (λ z. d (by_rows s l ∙ z))

  pub joining_refused : length_number s l ≡ refusal (typed_setting s) (typed_line l)
  unfolding refusal
  joining_refused = let t = typed_setting s in let k = typed_line l in given (Given 3 (strange k.letters t.pre t.post) ∷ [])

  pub replacing_refused : (q : Request) → length_number s l ≡ replace_refusal (typed_setting s) q (typed_line l)
  unfolding replace_refusal
  replacing_refused q =
      let t = typed_setting s in
      let k = typed_line l in
      given (Given 3 (strange k.letters t.pre t.post || strange_request q k) ∷ Given 4 (outside q k) ∷ [])

-- where they give none, all types have room
pub record InLength (s : CodedSetting) (l : CodedLine) : Type 0 where
  pub line : n l.letters ≤ 4096
  pub pre : n s.pre ≤ 64
  pub post : n s.post ≤ 64

pub in_length : (s : CodedSetting) (l : CodedLine) → length_number s l ≡ 0 → InLength s l
in_length s l z =
    let k = n l.letters in
    let even = eqb k (length l.letters.categories) && (eqb k (length l.base) && (eqb k (length l.actions) && eqb k (length l.masks))) in
    let contexts = eqb (n s.pre) (length s.pre.categories) && eqb (n s.post) (length s.post.categories) in
    let near = leb (n s.pre) 64 && leb (n s.post) 64 in
    let short = not (leb k 4096 && near) in
    let rest = (first-none 0 (not (even && contexts)) (Given 2 short ∷ []) z).1 in
    let b = both (leb k 4096) near (not-false _ (first-none 1 short [] rest).0) in
    let c = both (leb (n s.pre) 64) (leb (n s.post) 64) b.1 in
    record { line = leb-true _ _ b.0; pre = leb-true _ _ c.0; post = leb-true _ _ c.1 }

-- ---- replacing
map-set : (f : ℕ → ℕ) (l : List ℕ) (i v : ℕ) → set (map f l) i (f v) ≡ map f (set l i v)
map-set f [] i v = refl
map-set f (x ∷ l) zero v = refl
map-set f (x ∷ l) (suc i) v = ap (λ (t : List ℕ). f x ∷ t) (map-set f l i v)

pub left_typed :
    (s : Setting) (q : CodedRequest) (l : CodedLine) (r : Verdict) (m : Line) → Replacing s (typed_request q) (typed_line l) r m
    → m.letters.types ≡ map (type_in listed) m.codes
left_typed s q l r m e =
    ⊎_elim
    (λ (d, same). rw same refl)
    (λ (a, new). rw new (map-set (type_in listed) l.letters.codes q.place q.code))
    (left_replaced s (typed_request q) (typed_line l) (said r) m e)

-- and so replacing by types that were looked up is replacing by codes
pub replacing-by :
    (s : CodedSetting) (q : CodedRequest) (l : CodedLine) (r : Verdict) {own before behind : List ℕ} {new : ℕ}
    → own ≡ map (type_in listed) l.letters.codes → before ≡ map (type_in listed) s.pre.codes → behind ≡ map (type_in listed) s.post.codes
    → new ≡ type_in listed q.code
    → {codes types categories base actions masks : List ℕ}
    → Replacing
    (setting_of before s.pre.categories behind s.post.categories s.features s.mongolian)
    (request_of q.place q.code new q.category)
    (line_of l.letters.codes own l.letters.categories l.base l.actions l.masks)
    r
    (line_of codes types categories base actions masks)
    → ReplacingCodes s q l r (coded_line_of codes categories base actions masks)
replacing-by s q l r a b c d {codes} {types} {categories} {base} {actions} {masks} e =
    let typed : Replacing (typed_setting s) (typed_request q) (typed_line l) r (line_of codes types categories base actions masks) = rw (← a, ← b, ← c, ← d) e in
    subst
    (λ (ts : List ℕ). Replacing (typed_setting s) (typed_request q) (typed_line l) r (line_of codes ts categories base actions masks))
    (left_typed (typed_setting s) q l r (line_of codes types categories base actions masks) typed)
    typed
