-- A line with its contexts, by places: its letters are those of the definition (`letters-of`); at each record stands a letter between the neighbours that the walk finds (`between_record`),
-- and between no others (`between-once`); where there is no Alaph, Dalath or Rish, all three are types that Unicode's rule is for (`common-between`).
-- Assumes nothing.
use mathlib.Core.Path.{◌≡◌, refl, sym, ap, ◌∙◌}
use mathlib.Core.Bool.{Bool, true, false, cond, ◌||◌}
use mathlib.Core.List.{List, [], ◌∷◌, ◌++◌, reverse, reverse-cons, append_assoc}
use mathlib.Core.Logic.{◌⊎◌, inl, inr, ⊎_elim, by_cases}
use Prim.Native.Nat.{ℕ, zero, suc, ◌+◌, ◌-◌, ◌<◌}
use native.Mathlib.Nat.{not-suc-le-zero, le_of_suc-le-suc}
use native.Mathlib.Decide.{dec_lt}
use native.Mathlib.Omega.{arith}
use borrow.Author.Tests.{eqb-true, eqb-false, eq-eqb, ne_eqb, leb-true}
use lib.Dec.{eqb, leb}
use lib.Dec.{T as Holds}
use lib.ListN.{length, get_or, take, drop, length-append, length-reverse, get_or-append, get_or-eq_default}
use lib.Seq.{length-take-le, split_at, get_or-append-add, get_or-append_seam}
use Rattle.laws.specs.Lists.{member}
use Rattle.laws.proofs.TestLaws.{same_truth, both}
use Rattle.laws.proofs.TableLaws.{below}
use Rattle.refusals.specs.Columns.{at_most}
use Rattle.letters.specs.Types.{U, Alaph, DalathRish, T, X, transparent, resolved}
use Rattle.letters.specs.Categories.{Cf, Me, Mn}
use Rattle.letters.proofs.LetterLaws.{resolved-below}
use Rattle.shapes.specs.Joining.{passed, latest, nearest, line_types}
use Rattle.shapes.proofs.UnicodeLaws.{common}
use Rattle.shapes.proofs.LocalityLaws.{nearest-append, latest-append}
use Rattle.selectors.specs.Selectors.{selector}
use Rattle.lines.specs.Held.{Letters, Setting, Line}
use Rattle.lines.specs.Joined.{types_of}
use Rattle.lines.proofs.LineLaws.{Accepted}
use Rattle.demands.specs.Neighbours.{in_the_end, letters_in, letters_of, text, NearestBefore, NearestBehind, Before, Behind, Between}
use Rattle.demands.specs.Neighbours as near
use Rattle.demands.specs.Joining.{selectors}
use Rattle.demands.proofs.WorkedLaws.{Every, every_append, every-onto, every-at}

-- ---- the letters
eqb-turned : (m n : ℕ) → eqb m n ≡ eqb n m
eqb-turned m n = same_truth (eqb m n) (eqb n m) (λ e. eq-eqb n m (sym (eqb-true m n e))) (λ e. eq-eqb m n (sym (eqb-true n m e)))

or_false : (b : Bool) → (b || false) ≡ b
or_false true = refl
or_false false = refl

-- a list that has a number, written out as tests: its last number, and one more before a list
member-last : (a x : ℕ) → member x (a ∷ []) ≡ eqb x a
member-last a x = or_false (eqb a x) ∙ eqb-turned a x

member-more : (a x : ℕ) (l : List ℕ) {t : Bool} → member x l ≡ t → member x (a ∷ l) ≡ (eqb x a || t)
member-more a x l e = rw (eqb-turned a x, e)

member-transparent : (c : ℕ) → member c (Mn ∷ Me ∷ Cf ∷ []) ≡ transparent c
member-transparent c = member-more Mn c (Me ∷ Cf ∷ []) (member-more Me c (Cf ∷ []) (member-last Cf c))

pub member-selector : (c : ℕ) → member c selectors ≡ selector c
member-selector c =
    member-more 0x180B c (0x180C ∷ 0x180D ∷ 0x180F ∷ []) (member-more 0x180C c (0x180D ∷ 0x180F ∷ []) (member-more 0x180D c (0x180F ∷ []) (member-last 0x180F c)))

in_the_end_lem : (t c : ℕ) → in_the_end t c ≡ resolved t c
in_the_end_lem t c = ap (λ (b : Bool). cond (eqb t X) (cond b T U) t) (member-transparent c)

letters_in_lem : (ts cs : List ℕ) → letters_in ts cs ≡ line_types ts cs
letters_in_lem [] cs = refl
letters_in_lem (t ∷ ts) [] = refl
letters_in_lem (t ∷ ts) (c ∷ cs) = rw (in_the_end_lem t c, letters_in_lem ts cs)

pub letters-of : (l : Letters) → letters_of l ≡ types_of l
letters-of l = letters_in_lem l.types l.categories

-- ---- the neighbour before
-- the place of the last letter that is not transparent; or there is none
pub record Last (xs : List ℕ) (a : ℕ) : Type 0 where
  pub place : ℕ
  pub inside : place < length xs
  pub letter : get_or xs place 0 ≡ T → ⊥
  pub later : (i : ℕ) → place < i → i < length xs → get_or xs i 0 ≡ T
  pub own : get_or xs place 0 ≡ a

last : (b : ℕ) (xs : List ℕ) → Last xs (latest b xs) ⊎ (((i : ℕ) → i < length xs → get_or xs i 0 ≡ T) × (b ≡ latest b xs))
last b [] = inr (λ i h. absurd (not-suc-le-zero h), refl)
last b (x ∷ xs) = go (eqb x T) refl (last (passed b x) xs)
  where
    go :
        (e : Bool) → eqb x T ≡ e → Last xs (latest (cond e b x) xs) ⊎ (((i : ℕ) → i < length xs → get_or xs i 0 ≡ T) × (cond e b x ≡ latest (cond e b x) xs))
        → Last (x ∷ xs) (latest (cond e b x) xs) ⊎ (((i : ℕ) → i < suc (length xs) → get_or (x ∷ xs) i 0 ≡ T) × (b ≡ latest (cond e b x) xs))
    go e q (inl k) = inl (record { place = suc k.place; inside = omega (arith, k.inside); letter = k.letter; later = further; own = k.own })
      where
        further : (i : ℕ) → suc k.place < i → i < suc (length xs) → get_or (x ∷ xs) i 0 ≡ T
        further zero l h = absurd (not-suc-le-zero l)
        further (suc i) l h = k.later i (le_of_suc-le-suc l) (le_of_suc-le-suc h)
    go true q (inr (all, same)) = inr (every, same)
      where
        every : (i : ℕ) → i < suc (length xs) → get_or (x ∷ xs) i 0 ≡ T
        every zero h = eqb-true x T q
        every (suc i) h = all i (le_of_suc-le-suc h)
    go false q (inr (all, same)) = inl (record { place = 0; inside = omega arith; letter = eqb-false x T q; later = further; own = same })
      where
        further : (i : ℕ) → 0 < i → i < suc (length xs) → get_or (x ∷ xs) i 0 ≡ T
        further zero l h = absurd (not-suc-le-zero l)
        further (suc i) l h = all i (le_of_suc-le-suc h)

before-latest : (xs ys : List ℕ) → Before (xs ++ ys) (length xs) (latest U xs)
before-latest xs ys = ⊎_elim one none-there (last U xs)
  where
    one : Last xs (latest U xs) → Before (xs ++ ys) (length xs) (latest U xs)
    one k =
        let here : (i : ℕ) → i < length xs → get_or (xs ++ ys) i 0 ≡ get_or xs i 0 = λ i h. get_or-append xs ys 0 i h in
        near.found k.place
        (record { earlier = k.inside; letter = λ e. k.letter (sym (here k.place k.inside) ∙ e); between = λ i l h. here i h ∙ k.later i l h })
        (here k.place k.inside ∙ k.own)

    none-there : ((i : ℕ) → i < length xs → get_or xs i 0 ≡ T) × (U ≡ latest U xs) → Before (xs ++ ys) (length xs) (latest U xs)
    none-there (all, same) = near.nothing (λ i h. get_or-append xs ys 0 i h ∙ all i h) same

-- ---- the neighbour behind
pub record First (xs : List ℕ) (a : ℕ) : Type 0 where
  pub place : ℕ
  pub inside : place < length xs
  pub letter : get_or xs place 0 ≡ T → ⊥
  pub earlier : (i : ℕ) → i < place → get_or xs i 0 ≡ T
  pub own : get_or xs place 0 ≡ a

first : (xs : List ℕ) (a : ℕ) → First xs (nearest xs a) ⊎ (((i : ℕ) → i < length xs → get_or xs i 0 ≡ T) × (a ≡ nearest xs a))
first [] a = inr (λ i h. absurd (not-suc-le-zero h), refl)
first (x ∷ xs) a = go (eqb x T) refl (first xs a)
  where
    go :
        (e : Bool) → eqb x T ≡ e → First xs (nearest xs a) ⊎ (((i : ℕ) → i < length xs → get_or xs i 0 ≡ T) × (a ≡ nearest xs a))
        → First (x ∷ xs) (cond e (nearest xs a) x) ⊎ (((i : ℕ) → i < suc (length xs) → get_or (x ∷ xs) i 0 ≡ T) × (a ≡ cond e (nearest xs a) x))
    go false q ih = inl (record { place = 0; inside = omega arith; letter = eqb-false x T q; earlier = λ i h. absurd (not-suc-le-zero h); own = refl })
    go true q (inl k) = inl (record { place = suc k.place; inside = omega (arith, k.inside); letter = k.letter; earlier = every; own = k.own })
      where
        every : (i : ℕ) → i < suc k.place → get_or (x ∷ xs) i 0 ≡ T
        every zero h = eqb-true x T q
        every (suc i) h = k.earlier i (le_of_suc-le-suc h)
    go true q (inr (all, same)) = inr (every, same)
      where
        every : (i : ℕ) → i < suc (length xs) → get_or (x ∷ xs) i 0 ≡ T
        every zero h = eqb-true x T q
        every (suc i) h = all i (le_of_suc-le-suc h)

module _ (xs : List ℕ) (t : ℕ) (ys : List ℕ) where
  -- a place behind the letter t
  there : (i : ℕ) → get_or (xs ++ (t ∷ ys)) (length xs + suc i) 0 ≡ get_or ys i 0
  there i = get_or-append-add xs (t ∷ ys) (suc i) 0

  there-at : (i : ℕ) → length xs < i → get_or (xs ++ (t ∷ ys)) i 0 ≡ get_or ys (i - suc (length xs)) 0
  there-at i l = let e : i ≡ length xs + suc (i - suc (length xs)) = omega arith in ap (λ (k : ℕ). get_or (xs ++ (t ∷ ys)) k 0) e ∙ there (i - suc (length xs))

  behind-nearest : Behind (xs ++ (t ∷ ys)) (length xs) (nearest ys U)
  behind-nearest = ⊎_elim one none-there (first ys U)
    where
      long : length (xs ++ (t ∷ ys)) ≡ length xs + suc (length ys)
      long = length-append xs (t ∷ ys)

      one : First ys (nearest ys U) → Behind (xs ++ (t ∷ ys)) (length xs) (nearest ys U)
      one k =
          near.found (length xs + suc k.place)
          (record {
            later = omega arith;
            inside = omega (arith, long, k.inside);
            letter = λ e. k.letter (sym (there k.place) ∙ e);
            between = λ i l h. there-at i l ∙ k.earlier (i - suc (length xs)) (omega arith);
          })
          (there k.place ∙ k.own)

      none-there : ((i : ℕ) → i < length ys → get_or ys i 0 ≡ T) × (U ≡ nearest ys U) → Behind (xs ++ (t ∷ ys)) (length xs) (nearest ys U)
      none-there (all, same) = near.nothing (λ i l h. there-at i l ∙ all (i - suc (length xs)) (omega (arith, long))) same

  between_split : Between (xs ++ (t ∷ ys)) (length xs) (latest U xs) t (nearest ys U)
  between_split = record { before = before-latest xs (t ∷ ys); own = get_or-append_seam xs t ys 0; behind = behind-nearest }

-- ---- a record of a line
latest-reverse : (b : ℕ) (xs : List ℕ) → latest b (reverse xs) ≡ nearest xs b
latest-reverse b [] = refl
latest-reverse b (x ∷ xs) = ap (latest b) (reverse-cons x xs) ∙ latest-append b (reverse xs) (x ∷ []) ∙ ap (λ (p : ℕ). passed p x) (latest-reverse b xs)

module _ (pre line post : List ℕ) (j : ℕ) (h : j < length line) where
  pub between_record :
      Between (reverse pre ++ (line ++ post)) (length pre + j) (latest (nearest pre U) (take j line)) (get_or line j 0) (nearest (drop (suc j) line) (nearest post U))
  between_record =
      let front = reverse pre ++ take j line in
      let back = drop (suc j) line ++ post in
      let t = get_or line j 0 in
      let whole : reverse pre ++ (line ++ post) ≡ front ++ (t ∷ back) =
      ap (λ (l : List ℕ). reverse pre ++ (l ++ post)) (split_at line j 0 h) ∙ ap (λ (l : List ℕ). reverse pre ++ l) (append_assoc (take j line) (t ∷ drop (suc j) line) post) ∙ sym (append_assoc (reverse pre) (take j line) (t ∷ back))
      in
      let long : length pre + j ≡ length front = sym (length-append (reverse pre) (take j line) ∙ rw (length-reverse pre, length-take-le j line (omega arith)) refl) in
      let seen : latest (nearest pre U) (take j line) ≡ latest U front = sym (latest-append U (reverse pre) (take j line) ∙ ap (λ (b : ℕ). latest b (take j line)) (latest-reverse U pre)) in
      rw (whole, long, seen, ← nearest-append (drop (suc j) line) post U) (between_split front t back)

-- ---- one answer
module _ (ts : List ℕ) (p : ℕ) where
  before-once : {a b : ℕ} → Before ts p a → Before ts p b → a ≡ b
  before-once (near.found k x e) (near.found i y f) =
      let same : k ≡ i =
      by_cases (dec_lt k i) (λ l. absurd (y.letter (x.between i l y.earlier))) (λ n. by_cases (dec_lt i k) (λ l. absurd (x.letter (y.between k l x.earlier))) (λ m. omega (arith, n, m)))
      in
      sym e ∙ ap (λ (n : ℕ). get_or ts n 0) same ∙ f
  before-once (near.found k x e) (near.nothing all f) = absurd (x.letter (all k x.earlier))
  before-once (near.nothing all e) (near.found k x f) = absurd (x.letter (all k x.earlier))
  before-once (near.nothing all e) (near.nothing every f) = sym e ∙ f

  behind-once : {a b : ℕ} → Behind ts p a → Behind ts p b → a ≡ b
  behind-once (near.found k x e) (near.found i y f) =
      let same : k ≡ i =
      by_cases (dec_lt k i) (λ l. absurd (x.letter (y.between k x.later l))) (λ n. by_cases (dec_lt i k) (λ l. absurd (y.letter (x.between i y.later l))) (λ m. omega (arith, n, m)))
      in
      sym e ∙ ap (λ (n : ℕ). get_or ts n 0) same ∙ f
  behind-once (near.found k x e) (near.nothing all f) = absurd (x.letter (all k x.later x.inside))
  behind-once (near.nothing all e) (near.found k x f) = absurd (x.letter (all k x.later x.inside))
  behind-once (near.nothing all e) (near.nothing every f) = sym e ∙ f

  -- what a rule by neighbours gives is one number
  pub between-once : (f : ℕ → ℕ → ℕ → ℕ) {a t b a' t' b' : ℕ} → Between ts p a t b → Between ts p a' t' b' → f a t b ≡ f a' t' b'
  between-once f x y = rw (before-once x.before y.before, sym x.own ∙ y.own, behind-once x.behind y.behind) refl

-- ---- types in the end
-- a type below X that is neither an Alaph nor a Dalath or Rish is one that Unicode's rule is for
common-of : (t : ℕ) → t < X → (t ≡ Alaph → ⊥) → (t ≡ DalathRish → ⊥) → common t ≡ true
common-of t h x y =
    let all : Holds (eqb t Alaph || (eqb t DalathRish || common t)) = below X (λ (t : ℕ). eqb t Alaph || (eqb t DalathRish || common t)) tt t h in
    Holds-true (common t) (simp (ne_eqb t Alaph x, ne_eqb t DalathRish y) at all)
  where
    Holds-true : (b : Bool) → Holds b → b ≡ true
    Holds-true true h = refl
    Holds-true false h = absurd h

line_small : (ts cs : List ℕ) → at_most X ts ≡ true → Every (λ (t : ℕ). t < X) (line_types ts cs)
line_small [] cs h = tt
line_small (t ∷ ts) [] h = tt
line_small (t ∷ ts) (c ∷ cs) h =
    let b = both (leb t X) (at_most X ts) h in
    (resolved-below t c (leb-true t X b.0), line_small ts cs b.1)

module _ (s : Setting) (l : Line) (a : Accepted s l) where
  text-small : (i : ℕ) → get_or (text s l) i 0 < X
  text-small i =
      rw (letters-of s.pre, letters-of l.letters, letters-of s.post)
      (by_cases (dec_lt i (length whole)) (λ h. every-at Small whole 0 i all h) (λ n. rw (get_or-eq_default whole 0 {n = i} (omega (arith, n))) (omega arith)))
    where
      Small : ℕ → Type 0
      Small t = t < X

      whole : List ℕ
      whole = reverse (types_of s.pre) ++ (types_of l.letters ++ types_of s.post)

      all : Every Small whole
      all =
          every_append Small (reverse (types_of s.pre)) (types_of l.letters ++ types_of s.post)
          (every-onto Small (types_of s.pre) [] (line_small s.pre.types s.pre.categories a.pre.small) tt)
          (every_append Small (types_of l.letters) (types_of s.post) (line_small l.letters.types l.letters.categories a.line.small) (line_small s.post.types s.post.categories a.post.small))

  module _ (clear : (i : ℕ) → (get_or (text s l) i 0 ≡ Alaph → ⊥) × (get_or (text s l) i 0 ≡ DalathRish → ⊥)) where
    common-at : (i : ℕ) → common (get_or (text s l) i 0) ≡ true
    common-at i = common-of (get_or (text s l) i 0) (text-small i) (clear i).0 (clear i).1

    -- where there is no Alaph, Dalath or Rish, a letter and its neighbours are such
    pub common-between : {p a t b : ℕ} → Between (text s l) p a t b → (common a ≡ true) × (common t ≡ true) × (common b ≡ true)
    common-between {p} x = (before x.before, rw (← x.own) (common-at p), behind x.behind)
      where
        before : {a : ℕ} → Before (text s l) p a → common a ≡ true
        before (near.found k y e) = rw (← e) (common-at k)
        before (near.nothing every e) = rw (← e) refl

        behind : {b : ℕ} → Behind (text s l) p b → common b ≡ true
        behind (near.found k y e) = rw (← e) (common-at k)
        behind (near.nothing every e) = rw (← e) refl
