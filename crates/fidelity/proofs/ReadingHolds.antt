-- The promises of reading a lookup back hold.
-- Assumes nothing.
use mathlib.Core.Path.{◌≡◌, refl, sym, ap, ◌∙◌}
use mathlib.Core.Bool.{Bool, true, false, cond}
use mathlib.Core.List.{List, [], ◌∷◌, ◌++◌}
use Prim.Native.Nat.{ℕ, zero, suc, ◌*◌, ◌≤◌}
use native.Mathlib.Nat.{zero-mul}
use native.Mathlib.Omega.{arith}
use borrow.Author.Tests.{le-ltb, ltb-false}
use lib.Dec.{ltb}
use lib.ListN.{length, take, drop}
use lib.Seq.{take_at}
use Rattle.laws.specs.Lists.{Past}
use Rattle.laws.proofs.PartLaws.{past_same, past-front}
use Rattle.laws.specs.Rows.{first}
use Rattle.laws.proofs.RowLaws.{first-none}
use Rattle.laws.proofs.TestLaws.{neither}
use Rattle.refusals.specs.Numbers.{said as number_said}
use Rattle.refusals.specs.Columns.{rising}
use Rattle.refusals.proofs.LeftLaws.{left-number, left_stays, left-accepted, left-done}
use Rattle.refusals.proofs.PromiseLaws.{kept}
use Rattle.words.specs.Words.{bytes}
use Rattle.words.proofs.WordLaws.{length-bytes}
use Rattle.layouts.specs.declared.Kind.{Kind}
use Rattle.layouts.specs.declared.Kind.TheVariants.{Single, Ligature}
use Rattle.std.specs.Prelude.{Ok}
use Rattle.layouts.specs.Tables.{sets, offsets, joined, ligature_of, ligature}
use Rattle.layouts.specs.Lookups.{Lookup, lookup_of, width, rules, words_of, firsts}
use Rattle.layouts.specs.Written as write
use Rattle.layouts.specs.Written.{Written, write_outcome, write_refusal, write_after, Writing}
use Rattle.layouts.proofs.WrittenLaws.{Allowed, none-given}
use Rattle.scanning.specs.Scans.{Scan, fine, wrong, short}
use Rattle.scanning.specs.Grammar.{reading}
use Rattle.scanning.specs.Exact.{kind_read, as_read, Readable}
use Rattle.scanning.proofs.ExactLaws.{bytes-accepted, bytes-written}
use Rattle.reading.specs.Read.{Columns, ReadOutcome, nothing, found, lacking, made, read_rows, read_refusal, Answer, outcome_said, Reading}
use Rattle.fidelity.specs.Reading.{Promised, AreBytes, count_said, glyphs_said, PastTheAnswer, WriterGives, Accepts, lookup_said, ReadsBack, WritesBack, NeverFall, EmptyAlike, EmptyReadsTwo}
use Rattle.fidelity.proofs.WritingHolds as writing
use Rattle.fidelity.proofs.SaidLaws.{list-said, same_answer, Said, said-found}

-- what an answer says has the columns that were left
same-list : (r : Answer) (left : Columns) (o : ReadOutcome) → outcome_said r left ≡ o → left ≡ o.list
same-list r left o e = sym (list-said r left) ∙ ap (λ (x : ReadOutcome). x.list) e

pub promised : Promised
unfolding read_refusal
promised =
    kept {told = outcome_said} {old = nothing} {new = λ b. made (reading b)}
    (record {
      says = λ b c r left x. x;
      rising = λ b c. refl;
      fixed = λ r u left other n o. (same_answer r u left other n o, same-list r left _ o ∙ list-said u other);
      idle = λ r c left o. let same = same-list r left (nothing c) o in (same, o ∙ ap nothing (sym same));
    })

-- ---- what the call leaves if it is refused, and if it is not
-- the bytes are a lookup's, and the columns hold its list
record Found (b : List ℕ) (c : Columns) (l : Lookup) (o : ReadOutcome) : Type 0 where
  said : reading b ≡ fine l
  glyphs : length l.glyphs ≤ length c.glyphs
  substitutes : length l.substitutes ≤ length c.substitutes
  there : o ≡ found l c

module _ (b : List ℕ) (c : Columns) (r : Answer) (left : Columns) (x : Reading b c r left) where
  pub number-given : number_said r ≡ read_refusal (reading b) c
  number-given = left-number (read_refusal (reading b) c) (nothing c) (made (reading b) c) (number_said r) (outcome_said r left) x

  pub unaltered : (number_said r ≡ 0 → ⊥) → outcome_said r left ≡ nothing c
  unaltered = left_stays (read_refusal (reading b) c) (nothing c) (made (reading b) c) (number_said r) (outcome_said r left) x

  pub done : number_said r ≡ 0 → outcome_said r left ≡ made (reading b) c
  done z = left-accepted (read_refusal (reading b) c) (nothing c) (made (reading b) c) (number_said r) (outcome_said r left) x z

  was_found : number_said r ≡ 0 → (l : Lookup) × Found b c l (outcome_said r left)
  unfolding read_refusal
  was_found z = go (reading b) refl (sym number-given ∙ z) (done z)
    where
      go : (s : Scan) → reading b ≡ s → first (read_rows s c) ≡ 0 → outcome_said r left ≡ made s c → (l : Lookup) × Found b c l (outcome_said r left)
      go (fine l) e f o =
          let lacks = first-none 7 (lacking (fine l) c) [] f in
          let n = neither (ltb (length c.glyphs) (length l.glyphs)) (ltb (length c.substitutes) (length l.substitutes)) lacks.0 in
          (l, record { said = e; glyphs = ltb-false _ _ n.0; substitutes = ltb-false _ _ n.1; there = o })
      go (wrong left) e f o = absurd (omega arith)
      go short e f o = absurd (omega arith)

-- ---- what the writer gives
module _ (l : Lookup) where
  readable : (room : ℕ) → Allowed l room → rising 0 (firsts l) ≡ true → Readable l
  readable room a up = record { even = a.even; named = a.in_range; fit = a.small; up = up }

  allowed : (room : ℕ) → Readable l → 2 * length (words_of l) ≤ room → Allowed l room
  allowed room q h = record { even = q.even; in_range = q.named; small = q.fit; enough = h }

  front : (area : List ℕ) → take (2 * length (words_of l)) (bytes (words_of l) ++ drop (2 * length (words_of l)) area) ≡ bytes (words_of l)
  front area = take_at (bytes (words_of l)) (drop (2 * length (words_of l)) area) (2 * length (words_of l)) (length-bytes (words_of l))

  module _ (area : List ℕ) (w : Written) (out : List ℕ) (x : Writing l area w out) (z : number_said w ≡ 0) where
    bytes-given : take (write.length_said w) out ≡ bytes (words_of l)
    bytes-given = rw (writing.length-left l area w out x z, writing.area-left l area w out x z) (front area)

    given-accepted : rising 0 (firsts l) ≡ true → reading (take (write.length_said w) out) ≡ fine (as_read l)
    given-accepted up = ap reading bytes-given ∙ bytes-accepted l (readable (length area) (writing.accepted l area w out x z) up)

  -- lent an area, it may answer so
  may_give : (area : List ℕ) → Allowed l (length area) → Writing l area (Ok (2 * length (words_of l))) (bytes (words_of l) ++ drop (2 * length (words_of l)) area)
  may_give area a = left-done (write_refusal l (length area)) (write_outcome 0 area) _ 0 _ (sym (none-given l (length area) a)) refl refl

-- ---- which bytes are accepted
-- the bytes of a readable lookup are what the writer gives, lent an area of their length
pub gives-written : (b : List ℕ) (l : Lookup) → b ≡ bytes (words_of l) → Readable l → WriterGives b l
gives-written b l e q =
    let long : 2 * length (words_of l) ≤ length b = omega (arith, ap length e, length-bytes (words_of l)) in
    record {
      area = b;
      answer = Ok (2 * length (words_of l));
      left = bytes (words_of l) ++ drop (2 * length (words_of l)) b;
      asked = may_give l b (allowed l (length b) q long);
      written = refl;
      there = front l b ∙ sym e;
      up = q.up;
    }

-- and what it gives is read
pub given-read : (b : List ℕ) (l : Lookup) → WriterGives b l → reading b ≡ fine (as_read l)
given-read b l g = ap reading (sym g.there) ∙ given-accepted l g.area g.answer g.left g.asked g.written g.up

pub accepts : Accepts
unfolding read_refusal
accepts b h c r left x = (on, back)
  where
    on : (number_said r ≡ 7 → ⊥) → (l : Lookup) × WriterGives b l
    on d = go (reading b) refl (number-given b c r left x)
      where
        go : (s : Scan) → reading b ≡ s → number_said r ≡ first (read_rows s c) → (l : Lookup) × WriterGives b l
        go (wrong n) e f = absurd (d f)
        go short e f = absurd (d f)
        go (fine l) e f = let m = bytes-written b h l e in (l, gives-written b l m.0 m.1.readable)

    back : ((l : Lookup) × WriterGives b l) → number_said r ≡ 7 → ⊥
    back (l, g) e = go (lacking (fine (as_read l)) c) (sym e ∙ number-given b c r left x ∙ ap (λ (s : Scan). first (read_rows s c)) (given-read b l g))
      where
        go : (t : Bool) → ◌≡◌ {A = ℕ} 7 (cond t 8 0) → ⊥
        go true f = omega arith
        go false f = omega arith

-- ---- there and back
even-read :
    (kind : Kind) (glyphs substitutes : List ℕ) → length glyphs ≡ length substitutes * width kind → length glyphs ≡ length substitutes * width (kind_read kind substitutes)
even-read Single glyphs substitutes e = e
even-read (Ligature n) glyphs [] e = e ∙ zero-mul n ∙ sym (zero-mul 2)
even-read (Ligature n) glyphs (s ∷ substitutes) e = e

pub reads-back : ReadsBack
unfolding read_refusal
reads-back l area w out x z up c glyphs substitutes r left y =
    let b : List ℕ = take (write.length_said w) out in
    let s : reading b ≡ fine (as_read l) = given-accepted l area w out x z up in
    let none : number_said r ≡ 0 =
    number-given b c r left y
    ∙ ap (λ (s : Scan). first (read_rows s c)) s
    ∙ rw (le-ltb (length c.glyphs) (length l.glyphs) glyphs, le-ltb (length c.substitutes) (length l.substitutes) substitutes)
    in
    let even = even-read l.kind l.glyphs l.substitutes (writing.accepted l area w out x z).even in
    (none, (said-found (as_read l) even c r left none (done b c r left y none ∙ ap (λ (s : Scan). made s c) s)).lookup)

-- the lookup that an accepted answer says is the one whose bytes were read
module _ (b : List ℕ) (h : AreBytes b) (c : Columns) (r : Answer) (left : Columns) (x : Reading b c r left) (z : number_said r ≡ 0) where
  abbrev said : Lookup
  said = (was_found b c r left x z).0

  is_found : Found b c said (outcome_said r left)
  is_found = (was_found b c r left x z).1

  is-written : (b ≡ bytes (words_of said)) × Readable said
  is-written =
      let m = bytes-written b h said is_found.said in
      (m.0, m.1.readable)

  is_said : Said said is-written.1.even c r left
  is_said = said-found said is-written.1.even c r left z is_found.there

  columns-left : left ≡ (found said c).list
  columns-left = same-list r left (found said c) is_found.there

  past-glyphs : Past (glyphs_said r) c.glyphs left.glyphs
  past-glyphs = past-front (length said.glyphs) said.glyphs c.glyphs left.glyphs refl is_found.glyphs (ap (λ (d : Columns). d.glyphs) columns-left) (glyphs_said r) is_said.glyphs

  past-substitutes : Past (count_said r) c.substitutes left.substitutes
  past-substitutes =
      past-front (length said.substitutes) said.substitutes c.substitutes left.substitutes refl is_found.substitutes (ap (λ (d : Columns). d.substitutes) columns-left) (count_said r) is_said.count

  never_falls : rising 0 (firsts (lookup_said r left)) ≡ true
  never_falls = ap (λ (l : Lookup). rising 0 (firsts l)) is_said.lookup ∙ is-written.1.up

  module _ (area : List ℕ) (long : length b ≤ length area) (w : Written) (out : List ℕ) (y : Writing (lookup_said r left) area w out) where
    asked : Writing said area w out
    asked = rw (← is_said.lookup) y

    size : length b ≡ 2 * length (words_of said)
    size = ap length is-written.0 ∙ length-bytes (words_of said)

    unrefused : number_said w ≡ 0
    unrefused = writing.number-given said area w out asked ∙ none-given said (length area) (allowed said (length area) is-written.1 (omega (arith, size)))

    back_again : (number_said w ≡ 0) × (write.length_said w ≡ length b) × (take (length b) out ≡ b)
    back_again =
        let n : write.length_said w ≡ length b = writing.length-left said area w out asked unrefused ∙ sym size in
        (unrefused, n, ap (λ (k : ℕ). take k out) (sym n) ∙ bytes-given said area w out asked unrefused ∙ sym is-written.0)

pub writes-back : WritesBack
writes-back = back_again

pub never_fall : NeverFall
never_fall = never_falls

pub past_the_answer : PastTheAnswer
past_the_answer b h c r left x = go (number_said r) refl
  where
    go : (n : ℕ) → number_said r ≡ n → Past (glyphs_said r) c.glyphs left.glyphs × Past (count_said r) c.substitutes left.substitutes
    go zero e = (past-glyphs b h c r left x e, past-substitutes b h c r left x e)
    go (suc n) e = rw (promised.refused_stays b c r left x (λ z. omega (arith, e, z))).0 (past_same (glyphs_said r) c.glyphs, past_same (count_said r) c.substitutes)

-- ---- an empty list of ligatures
after-alike : (flags : ℕ) (area : List ℕ) → write_after (lookup_of flags (Ligature 3) [] []) area ≡ write_after (lookup_of flags (Ligature 2) [] []) area
unfolding write_refusal rules ligature ligature_of sets offsets joined
after-alike flags area = refl

pub empty-alike : EmptyAlike
empty-alike flags area w v out other x y = (writing.promised).one_answer (lookup_of flags (Ligature 2) [] []) area w v out other x (y ∙ after-alike flags area)

pub empty-reads-two : EmptyReadsTwo
unfolding rules
empty-reads-two flags n area w out x z c r left y =
    reads-back (lookup_of flags (Ligature n) [] []) area w out x z refl c (omega arith) (omega arith) r left y
