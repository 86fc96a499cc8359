-- An entry of an accepted plan (`Good`, `plan-good`): it is made of an origin, the writer does not refuse its lookup, the reader reads it as it is, and it is no longer than a plan's lookups are. The entries are made of the origins in their order (`plan-made`), and all together have no more bytes than the longest plan (`plan-size`). The bytes and the mask of each are found by what is answered (`bytes-at`, `number_at`).
-- Assumes nothing.
use mathlib.Core.Path.{◌≡◌, refl, sym, ap, ap₂, ◌∙◌}
use mathlib.Core.Bool.{Bool, true, false, cond, ◌||◌}
use mathlib.Core.Logic.{◌⊎◌, inl, inr}
use mathlib.Core.List.{List, [], ◌∷◌, ◌++◌, map, append_assoc, map-append, Memᴰ}
use Prim.Native.Nat.{ℕ, ◌+◌, ◌*◌, ◌≤◌}
use native.Mathlib.Omega.{arith}
use native.Mathlib.Nat.{mul-le-mul_right}
use borrow.Author.Tests.{lt-ltb, eqb-true, eqb-false}
use lib.Dec.{eqb}
use lib.ListN.{length, get_or, take, drop, length-append, length-map}
use lib.Seq.{take_at, drop_at, get_or_at}
use Rattle.laws.proofs.TestLaws.{neither}
use Rattle.refusals.specs.Columns.{rising}
use Rattle.words.proofs.WordLaws.{length-bytes}
use Rattle.layouts.specs.declared.Kind.{Kind}
use Rattle.layouts.specs.declared.Kind.TheVariants.{Single, Ligature}
use Rattle.layouts.specs.Tables.{Rule, first}
use Rattle.layouts.specs.Lookups.{Lookup, lookup_of, width, known, flat, ligatures, words_of, firsts_in, fits}
use Rattle.layouts.proofs.FitLaws.{fits-append, fits_head}
use Rattle.layouts.proofs.SetLaws.{Wide}
use Rattle.layouts.proofs.WrittenLaws.{Allowed, allowed, two-or-three}
use Rattle.scanning.specs.Exact.{kind_read, as_read, Readable}
use Rattle.ordering.proofs.KeyLaws.{Each, each_append, each-parts}
use Rattle.ordering.proofs.OrderLaws.{sorted_stable, length-sorted, each-sorted}
use Rattle.layouts.proofs.FlatLaws.{length-flat, rules-flat}
use Rattle.synthesis.specs.Rules.{in_order}
use Rattle.drafts.specs.Entries.{Entry, bytes_of, size_of, all_bytes, seven, padded, rule_limit, most, longest_plan}
use Rattle.drafts.proofs.EntryLaws.{all_append}
use Rattle.drafts.proofs.RoomLaws.{few-allowed}
use Rattle.windows.specs.Windows.{signed}
use Rattle.fallback.specs.Plan.{Inputs, unicode, plan}
use Rattle.fallback.specs.Planned.{even, short}
use Rattle.assurance.specs.Origins.{Origin, lent, tables, origins, rules_of, From, Made, end, used, skipped}
use Rattle.assurance.specs.Planning.{total}
use Rattle.assurance.specs.Lookups.{longest, most_glyphs}
use Rattle.assurance.proofs.OriginLaws.{made_of, entry_of, kept, plan-kept, Sound, Ready, origins_ready}
use Rattle.assurance.proofs.PlanLaws.{Passed, total_sizes}

-- ---- columns of sound rules
wide-sound : (n : ℕ) (rs : List Rule) → Each (Sound n) rs → Wide n rs
unfolding Wide
wide-sound n [] p = tt
wide-sound n (r ∷ rs) p = (p.0.0, wide-sound n rs p.1)

fits-flat : (n : ℕ) (rs : List Rule) → Each (Sound n) rs → fits (flat rs) ≡ true
unfolding flat fits
fits-flat n [] p = refl
fits-flat n (r ∷ rs) p = rw (fits-append r.components (flat rs), (fits_head r.ligature r.components p.0.1).1, fits-flat n rs p.1)

fits-ligatures : (n : ℕ) (rs : List Rule) → Each (Sound n) rs → fits (ligatures rs) ≡ true
unfolding fits
fits-ligatures n [] p = refl
fits-ligatures n (r ∷ rs) p = rw (lt-ltb r.ligature 65536 (fits_head r.ligature r.components p.0.1).0, fits-ligatures n rs p.1)

-- one component each
flat-firsts : (rs : List Rule) → Each (Sound 1) rs → flat rs ≡ map first rs
unfolding flat
flat-firsts [] p = refl
flat-firsts (r ∷ rs) p = go r.components p.0.0 ∙ ap (λ (l : List ℕ). first r ∷ l) (flat-firsts rs p.1)
  where
    go : (cs : List ℕ) → length cs ≡ 1 → cs ++ flat rs ≡ get_or cs 0 0 ∷ flat rs
    go [] e = absurd (omega arith)
    go (c ∷ []) e = refl
    go (c ∷ d ∷ cs) e = absurd (omega arith)

firsts-listed : (kind : Kind) (rs : List Rule) → Each (Sound (width kind)) rs → firsts_in kind (flat rs) (ligatures rs) ≡ map first rs
firsts-listed Single rs p = flat-firsts rs p
firsts-listed (Ligature n) rs p = ap (map first) (rules-flat n rs (wide-sound n rs p))

-- ---- kinds
kind-bounds : (kind : Kind) → known kind ≡ true → (most kind ≤ longest) × (width kind ≤ 3)
kind-bounds Single k = (omega arith, omega arith)
kind-bounds (Ligature n) k = go (two-or-three n k)
  where
    go : (n ≡ 2) ⊎ (n ≡ 3) → (most (Ligature n) ≤ longest) × (n ≤ 3)
    go (inl e) = (omega arith, omega arith)
    go (inr e) = (omega arith, omega arith)

-- a lookup that has a rule is read as it is
same_read : (l : Lookup) → (length l.substitutes ≡ 0 → ⊥) → as_read l ≡ l
same_read l d = ap (λ (k : Kind). lookup_of l.flags k l.glyphs l.substitutes) (go l.kind l.substitutes d)
  where
    go : (kind : Kind) (ss : List ℕ) → (length ss ≡ 0 → ⊥) → kind_read kind ss ≡ kind
    go Single ss d = refl
    go (Ligature n) [] d = absurd (d refl)
    go (Ligature n) (s ∷ ss) d = refl

-- ---- the entry of an origin
pub record Good (os : List Origin) (e : Entry) : Type 0 where
  pub readable : Readable e.lookup
  pub short : 2 * length (words_of e.lookup) ≤ longest
  pub same : as_read e.lookup ≡ e.lookup
  pub glyphs : length e.lookup.glyphs ≤ most_glyphs
  pub substitutes : length e.lookup.substitutes ≤ rule_limit
  pub origin : (o : Origin) × Memᴰ o os × From o e

module _ (o : Origin) (q : Ready o) where
  abbrev rs : List Rule
  rs = in_order o.rules

  abbrev n : ℕ
  n = width o.kind

  sound : Each (Sound n) rs
  sound = each-sorted first (Sound n) o.rules q.sound

  few : length (ligatures rs) ≤ rule_limit
  few = omega (arith, length-map rs (λ (r : Rule). r.ligature), length-sorted first o.rules, q.few)

  columns-even : length (flat rs) ≡ length (ligatures rs) * n
  columns-even = length-flat n rs (wide-sound n rs sound) ∙ ap (λ (k : ℕ). k * n) (sym (length-map rs (λ (r : Rule). r.ligature)))

  written : Allowed (made_of o).lookup (most o.kind)
  written =
      allowed (made_of o).lookup (most o.kind)
      (few-allowed o.flags q.flag (flat rs) (ligatures rs) (fits-flat n rs sound) (fits-ligatures n rs sound) few o.kind q.named columns-even (most o.kind) (omega arith))

  made-from : From o (made_of o)
  made-from =
      let same : rules_of (made_of o).lookup ≡ rs = rules-flat n rs (wide-sound n rs sound) in
      record { masked = refl; flagged = refl; named = refl; ordered = rw same (sorted_stable first o.rules) }

  made-good : (os : List Origin) → Memᴰ o os → (length rs ≡ 0 → ⊥) → Good os (made_of o)
  made-good os m d =
      let b = kind-bounds o.kind q.named in
      record {
        readable = record { even = written.even; named = written.in_range; fit = written.small; up = ap (rising 0) (firsts-listed o.kind rs sound) ∙ (sorted_stable first o.rules).ordered };
        short = omega (arith, written.enough, b.0);
        same = same_read (made_of o).lookup (λ z. d (sym (length-map rs (λ (r : Rule). r.ligature)) ∙ z));
        glyphs = omega (arith, columns-even, mul-le-mul_right n few, b.1);
        substitutes = few;
        origin = (o, m, made-from);
      }

  entry-good : (os : List Origin) → Memᴰ o os → Each (Good os) (entry_of o)
  entry-good os m = go (eqb o.mask 0 || eqb (length rs) 0) refl
    where
      go : (t : Bool) → (eqb o.mask 0 || eqb (length rs) 0) ≡ t → Each (Good os) (cond t [] (made_of o ∷ []))
      go true e = tt
      go false e = (made-good os m (eqb-false (length rs) 0 (neither (eqb o.mask 0) (eqb (length rs) 0) e).1), tt)

  -- its bytes
  entry-size : length (all_bytes (entry_of o)) ≤ most o.kind
  unfolding all_bytes
  entry-size = go (eqb o.mask 0 || eqb (length rs) 0)
    where
      go : (t : Bool) → length (all_bytes (cond t [] (made_of o ∷ []))) ≤ most o.kind
      go true = omega arith
      go false = omega (arith, length-append (bytes_of (made_of o)) [], length-bytes (words_of (made_of o).lookup), written.enough)

kept-good : (all os : List Origin) → ((o : Origin) → Memᴰ o os → Memᴰ o all) → Each Ready os → Each (Good all) (kept os)
kept-good all [] f q = tt
kept-good all (o ∷ os) f q =
    each_append (Good all) (entry_of o) (kept os) (entry-good o q.0 all (f o (Memᴰ.head refl))) (kept-good all os (λ p m. f p (Memᴰ.tail m)) q.1)

kept-made : (os : List Origin) → Each Ready os → Made os (kept os)
kept-made [] q = end
kept-made (o ∷ os) q = go (eqb o.mask 0) (eqb (length (in_order o.rules)) 0) refl refl (kept-made os q.1)
  where
    long : length (in_order o.rules) ≡ length o.rules
    long = length-sorted first o.rules

    go :
        (a b : Bool) → eqb o.mask 0 ≡ a → eqb (length (in_order o.rules)) 0 ≡ b → Made os (kept os)
        → Made (o ∷ os) (cond (a || b) [] (made_of o ∷ []) ++ kept os)
    go true b e f m = skipped (inl (eqb-true o.mask 0 e)) m
    go false true e f m = skipped (inr (sym long ∙ eqb-true (length (in_order o.rules)) 0 f)) m
    go false false e f m = used (eqb-false o.mask 0 e) (λ z. eqb-false (length (in_order o.rules)) 0 f (long ∙ z)) (made-from o q.0) m

pub plan-made : (i : Inputs) (room : ℕ) → Passed i room → Made (origins i) (plan i)
plan-made i room p = rw plan-kept (kept-made (origins i) (origins_ready i p.belong p.limited))

pub plan-good : (i : Inputs) (room : ℕ) → Passed i room → (before : List Entry) (e : Entry) (behind : List Entry) → plan i ≡ before ++ (e ∷ behind) → Good (origins i) e
plan-good i room p before e behind s =
    let all : Each (Good (origins i)) (plan i) = rw plan-kept (kept-good (origins i) (origins i) (λ o m. m) (origins_ready i p.belong p.limited)) in
    (each-parts (Good (origins i)) before (e ∷ behind) (rw s at all)).1.0

-- ---- the bytes of all entries
abbrev most_of : List Origin → ℕ
most_of [] = 0
most_of (o ∷ os) = most o.kind + most_of os

kept-size : (os : List Origin) → Each Ready os → length (all_bytes (kept os)) ≤ most_of os
unfolding all_bytes
kept-size [] q = omega arith
kept-size (o ∷ os) q =
    omega (arith, ap length (all_append (entry_of o) (kept os)), length-append (all_bytes (entry_of o)) (all_bytes (kept os)), entry-size o q.0, kept-size os q.1)

pub plan-size : (i : Inputs) → even i ≡ true → short i ≡ true → length (all_bytes (plan i)) ≤ longest_plan
plan-size i e s = rw plan-kept (omega (arith, kept-size (origins i) (origins_ready i e s), go (eqb (length (unicode i)) 0) (signed i.font)))
  where
    go : (t u : Bool) → most_of (cond t (cond u (tables i.masks) []) (lent i)) ≤ longest_plan
    go true true = omega arith
    go true false = omega arith
    go false u = omega arith

-- ---- by what is answered
module _ (before : List Entry) (e : Entry) (behind : List Entry) where
  -- the number of an entry stands behind those of the entries before it
  abbrev others : (Entry → ℕ) → List ℕ
  others f = map f behind ++ drop (length (map f (before ++ (e ∷ behind)))) seven

  padded-parts : (f : Entry → ℕ) → padded (map f (before ++ (e ∷ behind))) ≡ map f before ++ (f e ∷ others f)
  padded-parts f =
      ap (λ (l : List ℕ). l ++ drop (length (map f (before ++ (e ∷ behind)))) seven) (map-append f before (e ∷ behind))
      ∙ append_assoc (map f before) (f e ∷ map f behind) (drop (length (map f (before ++ (e ∷ behind)))) seven)

  pub number_at : (f : Entry → ℕ) → get_or (padded (map f (before ++ (e ∷ behind)))) (length before) 0 ≡ f e
  number_at f = ap (λ (l : List ℕ). get_or l (length before) 0) (padded-parts f) ∙ get_or_at (map f before) (f e) (others f) 0 (length before) (length-map before f)

  numbers_before : (f : Entry → ℕ) → take (length before) (padded (map f (before ++ (e ∷ behind)))) ≡ map f before
  numbers_before f = ap (take (length before)) (padded-parts f) ∙ take_at (map f before) (f e ∷ others f) (length before) (length-map before f)

  all-parts : (rest : List ℕ) → all_bytes (before ++ (e ∷ behind)) ++ rest ≡ all_bytes before ++ (bytes_of e ++ (all_bytes behind ++ rest))
  unfolding all_bytes
  all-parts rest =
      ap (λ (l : List ℕ). l ++ rest) (all_append before (e ∷ behind))
      ∙ append_assoc (all_bytes before) (bytes_of e ++ all_bytes behind) rest
      ∙ ap (λ (l : List ℕ). all_bytes before ++ l) (append_assoc (bytes_of e) (all_bytes behind) rest)

  -- the bytes of its lookup
  pub bytes-at :
      (lengths left rest : List ℕ) → lengths ≡ padded (map size_of (before ++ (e ∷ behind))) → left ≡ all_bytes (before ++ (e ∷ behind)) ++ rest
      → take (get_or lengths (length before) 0) (drop (total (take (length before) lengths)) left) ≡ bytes_of e
  bytes-at lengths left rest l a =
      let size : get_or lengths (length before) 0 ≡ size_of e = ap (λ (x : List ℕ). get_or x (length before) 0) l ∙ number_at size_of in
      let place : total (take (length before) lengths) ≡ length (all_bytes before) =
      ap (λ (x : List ℕ). total (take (length before) x)) l ∙ ap total (numbers_before size_of) ∙ total_sizes before
      in
      let past : drop (length (all_bytes before)) left ≡ bytes_of e ++ (all_bytes behind ++ rest) =
      ap (drop (length (all_bytes before))) (a ∙ all-parts rest) ∙ drop_at (all_bytes before) (bytes_of e ++ (all_bytes behind ++ rest)) (length (all_bytes before)) refl
      in
      ap₂ (λ (n k : ℕ). take n (drop k left)) size place ∙ ap (take (size_of e)) past ∙ take_at (bytes_of e) (all_bytes behind ++ rest) (size_of e) refl
