-- The promises of writing a lookup hold.
-- Assumes nothing.
use mathlib.Core.Path.{◌≡◌, refl, sym, ap, ap₂, ◌∙◌}
use mathlib.Core.Bool.{Bool, true, false}
use mathlib.Core.Logic.{◌⊎◌, inl, inr}
use mathlib.Core.List.{List, [], ◌∷◌, ◌++◌, map}
use Prim.Native.Nat.{ℕ, zero, suc, ◌+◌, ◌*◌, ◌<◌}
use native.Mathlib.Omega.{arith}
use borrow.Author.Tests.{lt-leb, leb-false, ltb-true, ltb-false}
use lib.Dec.{ltb, leb}
use lib.ListN.{length, drop, length-map}
use Rattle.laws.specs.Lists.{Past}
use Rattle.laws.proofs.PartLaws.{past_same, past-front}
use Rattle.refusals.specs.Numbers.{said}
use Rattle.refusals.proofs.LeftLaws.{left-number, left-accepted}
use Rattle.refusals.proofs.PromiseLaws.{kept}
use Rattle.words.specs.Words.{bytes, words_at}
use Rattle.words.proofs.WordLaws.{length-bytes}
use Rattle.layouts.specs.declared.Kind.{Kind}
use Rattle.layouts.specs.declared.Kind.TheVariants.{Single, Ligature}
use Rattle.layouts.specs.Tables.{Rule, first, leader, sets}
use Rattle.layouts.specs.Lookups.{Lookup, lookup_of, width, known, rules, laid_out, words_of, firsts_in, fits}
use Rattle.layouts.specs.Written.{Written, WriteOutcome, write_outcome, write_refusal, length_said, Writing}
use Rattle.layouts.proofs.FitLaws.{fits-lent}
use Rattle.layouts.proofs.SetLaws.{wide-rules}
use Rattle.layouts.proofs.SizeLaws.{length-rules, size-single, size-ligature}
use Rattle.layouts.proofs.LimitLaws.{Regular, regular-rules, single-fits}
use Rattle.layouts.proofs.WrittenLaws.{same_answer, Allowed, allowed, offset-given, room-given, none-given, two-or-three}
use Rattle.reading.specs.Read.{type_of}
use Rattle.fidelity.specs.Followed.{coverage_at, followed}
use Rattle.fidelity.specs.Writing.{Promised, PastTheAnswer, changes, size_of, Size, Lent, Even, OffsetFrom, most_single, SingleLimit, most_in_set, OneSetLimit, most_alone, LoneRuleLimit, format_of, Headed, covered_in, Covered, EveryOffset}
use Rattle.fidelity.proofs.ChangeLaws.{leaders_changes, length-changes}
use Rattle.fidelity.proofs.StandLaws.{Stands, stands-bytes, Laid, coverage-at}
use Rattle.fidelity.proofs.FollowLaws.{single-laid, single-followed, starts, blocks, ligature-laid, ligature-followed}
use Rattle.fidelity.proofs.BoundLaws.{one-set-fits, lone_rules_fit, one-set-most, lone_rules_most}

-- ---- what the call leaves if it is not refused
module _ (l : Lookup) (area : List ℕ) where
  abbrev new : WriteOutcome
  new = write_outcome (2 * length (words_of l)) (bytes (words_of l) ++ drop (2 * length (words_of l)) area)

  module _ (r : Written) (left : List ℕ) (x : Writing l area r left) where
    pub number-given : said r ≡ write_refusal l (length area)
    number-given = left-number (write_refusal l (length area)) (write_outcome 0 area) new (said r) (write_outcome (length_said r) left) x

    module _ (z : said r ≡ 0) where
      pub accepted : Allowed l (length area)
      accepted = allowed l (length area) (sym number-given ∙ z)

      done : write_outcome (length_said r) left ≡ new
      done = left-accepted (write_refusal l (length area)) (write_outcome 0 area) new (said r) (write_outcome (length_said r) left) x z

      pub length-left : length_said r ≡ 2 * length (words_of l)
      length-left = ap (λ (o : WriteOutcome). o.count) done

      pub area-left : left ≡ bytes (words_of l) ++ drop (2 * length (words_of l)) area
      area-left = ap (λ (o : WriteOutcome). o.area) done

      words_left : Stands left 0 (words_of l)
      words_left = rw area-left (stands-bytes (words_of l) (drop (2 * length (words_of l)) area))

      past : Past (length_said r) area left
      past = past-front (2 * length (words_of l)) (bytes (words_of l)) area left (length-bytes (words_of l)) accepted.enough area-left (length_said r) length-left

pub promised : Promised
unfolding write_refusal
promised =
    kept {told = λ r left. write_outcome (length_said r) left} {old = write_outcome 0} {new = new}
    (record {
      says = λ l area r left x. x;
      rising = λ l area. refl;
      fixed = λ r u left other n o. (same_answer r u n (ap (λ (x : WriteOutcome). x.count) o), ap (λ (x : WriteOutcome). x.area) o);
      idle = λ r area left o. (ap (λ (x : WriteOutcome). x.area) o, ap (λ (x : WriteOutcome). x.count) o);
    })

pub past_the_answer : PastTheAnswer
past_the_answer l area r left x = go (said r) refl
  where
    go : (n : ℕ) → said r ≡ n → Past (length_said r) area left
    go zero e = past l area r left x e
    go (suc n) e = rw (promised.refused_stays l area r left x (λ z. omega (arith, e, z))).0 (past_same (length_said r) area)

-- ---- of each kind
low : (n : ℕ) → (n ≡ 2) ⊎ (n ≡ 3) → 0 < n
low n (inl e) = omega arith
low n (inr e) = omega arith

size-of :
    (kind : Kind) (flags : ℕ) (glyphs substitutes : List ℕ) → length glyphs ≡ length substitutes * width kind → known kind ≡ true
    → 2 * length (laid_out kind flags glyphs substitutes) ≡ size_of kind (length substitutes) (length (changes (firsts_in kind glyphs substitutes)))
size-of Single flags glyphs substitutes even named = size-single flags glyphs substitutes (omega arith)
size-of (Ligature n) flags components ligatures even named =
    let rs : List Rule = rules n components ligatures in
    rw (length-changes rs) (size-ligature n (low n (two-or-three n named)) flags rs (wide-rules n components ligatures even) ∙ rw (length-rules n components ligatures))

pub size : Size
size l area r left x z =
    let a = accepted l area r left x z in
    length-left l area r left x z ∙ size-of l.kind l.flags l.glyphs l.substitutes a.even a.in_range

-- ---- from which number on 5 is given
offset-from : (l : Lookup) (most : ℕ) → Even l → known l.kind ≡ true → fits (words_of l) ≡ leb (length l.substitutes) most → OffsetFrom most l
offset-from l most even named fit area r left x = (on, back)
  where
    room : ℕ
    room = length area

    written : fits (words_of l) ≡ true → write_refusal l room ≡ 5 → ⊥
    written w e = go (ltb room (2 * length (words_of l))) refl
      where
        go : (t : Bool) → ltb room (2 * length (words_of l)) ≡ t → ⊥
        go true s = omega (arith, e, room-given l room even named w (ltb-true room (2 * length (words_of l)) s))
        go false s =
            omega (arith, e, none-given l room (record { even = even; in_range = named; small = w; enough = ltb-false room (2 * length (words_of l)) s }))

    on : said r ≡ 5 → most < length l.substitutes
    on e = go (leb (length l.substitutes) most) refl
      where
        go : (t : Bool) → leb (length l.substitutes) most ≡ t → most < length l.substitutes
        go true s = absurd (written (fit ∙ s) (sym (number-given l area r left x) ∙ e))
        go false s = leb-false (length l.substitutes) most s

    back : most < length l.substitutes → said r ≡ 5
    back h = number-given l area r left x ∙ offset-given l room even named (fit ∙ lt-leb (length l.substitutes) most h)

pub single-limit : SingleLimit
single-limit flags glyphs substitutes lent even =
    offset-from (lookup_of flags Single glyphs substitutes) most_single even refl
    (single-fits flags glyphs substitutes lent.flag (fits-lent glyphs lent.glyph) (fits-lent substitutes lent.substitute) (omega arith))

module _ (flags n : ℕ) (components ligatures : List ℕ) (named : known (Ligature n) ≡ true) (lent : Lent (lookup_of flags (Ligature n) components ligatures)) (even : length components ≡ length ligatures * n) where
  abbrev rs : List Rule
  rs = rules n components ligatures

  small : (n ≡ 2) ⊎ (n ≡ 3) → n < 65536
  small (inl e) = omega arith
  small (inr e) = omega arith

  regular : Regular n rs
  regular = regular-rules n components ligatures (small (two-or-three n named)) even (fits-lent components lent.glyph) (fits-lent ligatures lent.substitute)

  one_set : length (changes (map first rs)) ≡ 1 → OffsetFrom (most_in_set n) (lookup_of flags (Ligature n) components ligatures)
  one_set e =
      let c = two-or-three n named in
      offset-from (lookup_of flags (Ligature n) components ligatures) (most_in_set n) even named
      (one-set-fits flags n rs (low n c) lent.flag regular (sym (length-changes rs) ∙ e)
      ∙ rw (length-rules n components ligatures) (one-set-most n (length ligatures) c))

  lone_rules : changes (map first rs) ≡ map first rs → OffsetFrom (most_alone n) (lookup_of flags (Ligature n) components ligatures)
  lone_rules e =
      let c = two-or-three n named in
      offset-from (lookup_of flags (Ligature n) components ligatures) (most_alone n) even named
      (lone_rules_fit flags n rs (low n c) lent.flag regular (sym (length-changes rs) ∙ ap length e ∙ length-map rs first)
      ∙ rw (length-rules n components ligatures) (lone_rules_most n (length ligatures) c))

pub one-set-limit : OneSetLimit
one-set-limit = one_set

pub lone_rule_limit : LoneRuleLimit
lone_rule_limit = lone_rules

-- ---- what is found in the bytes
module _ (b : List ℕ) where
  headed-of :
      (kind : Kind) (flags : ℕ) (glyphs substitutes : List ℕ) → Stands b 0 (laid_out kind flags glyphs substitutes)
      → words_at b 0 5 ≡ type_of kind ∷ flags ∷ 1 ∷ 8 ∷ format_of kind ∷ []
  headed-of Single flags glyphs substitutes s = (single-laid b flags glyphs substitutes s).headed
  headed-of (Ligature n) flags components ligatures s = (ligature-laid b flags n (rules n components ligatures) s).headed

  -- the coverage, where it was laid
  there : (type flags format : ℕ) (numbers glyphs others : List ℕ) → Laid b type flags format numbers glyphs others → words_at b (coverage_at b) (2 + length glyphs) ≡ 1 ∷ length glyphs ∷ glyphs
  there type flags format numbers glyphs others x =
      ap₂ (words_at b) (coverage-at b type flags format numbers glyphs others x) (two (length glyphs)) ∙ x.covered
    where
      two : (n : ℕ) → 2 + n ≡ suc (suc n)
      two n = omega arith

  covered_of :
      (kind : Kind) (flags : ℕ) (glyphs substitutes : List ℕ) → Stands b 0 (laid_out kind flags glyphs substitutes)
      → words_at b (coverage_at b) (2 + length (covered_in kind (firsts_in kind glyphs substitutes)))
      ≡ 1 ∷ length (covered_in kind (firsts_in kind glyphs substitutes)) ∷ covered_in kind (firsts_in kind glyphs substitutes)
  covered_of Single flags glyphs substitutes s = there 1 flags 2 substitutes glyphs [] (single-laid b flags glyphs substitutes s)
  covered_of (Ligature n) flags components ligatures s =
      let rs : List Rule = rules n components ligatures in
      rw (← leaders_changes rs) (there 4 flags 1 (starts b flags n rs) (map leader (sets rs)) (blocks b flags n rs) (ligature-laid b flags n rs s))

  followed_of :
      (kind : Kind) (flags : ℕ) (glyphs substitutes : List ℕ) → length glyphs ≡ length substitutes * width kind → known kind ≡ true → Stands b 0 (laid_out kind flags glyphs substitutes)
      → followed b ≡ rules (width kind) glyphs substitutes
  followed_of Single flags glyphs substitutes even named s = single-followed b flags glyphs substitutes (omega arith) (single-laid b flags glyphs substitutes s)
  followed_of (Ligature n) flags components ligatures even named s =
      let rs : List Rule = rules n components ligatures in
      ligature-followed b flags n rs (low n (two-or-three n named)) (wide-rules n components ligatures even) (ligature-laid b flags n rs s)

pub headed : Headed
headed l area r left x z = headed-of left l.kind l.flags l.glyphs l.substitutes (words_left l area r left x z)

pub covered : Covered
covered l area r left x z = covered_of left l.kind l.flags l.glyphs l.substitutes (words_left l area r left x z)

pub every-offset : EveryOffset
every-offset l area r left x z =
    let a = accepted l area r left x z in
    followed_of left l.kind l.flags l.glyphs l.substitutes a.even a.in_range (words_left l area r left x z)
