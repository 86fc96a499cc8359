-- What `read_lookup` answers is settled by what the writers give.
-- Assumes nothing.
use mathlib.Core.Path.{◌≡◌, refl, sym, ap, ◌∙◌}
use mathlib.Core.Bool.{Bool, true, false, cond, false≢true}
use mathlib.Core.List.{List}
use Prim.Native.Nat.{ℕ}
use native.Mathlib.Omega.{arith}
use borrow.Author.Tests.{le-ltb, ltb-false}
use lib.Dec.{ltb}
use lib.ListN.{length}
use Rattle.laws.specs.Rows.{first}
use Rattle.laws.proofs.TestLaws.{neither}
use Rattle.refusals.specs.Numbers.{said}
use Rattle.refusals.specs.Left.{After, leaves}
use Rattle.layouts.specs.Lookups.{Lookup}
use Rattle.scanning.specs.Scans.{Scan, fine, wrong, short}
use Rattle.scanning.specs.Grammar.{reading}
use Rattle.scanning.specs.Exact.{as_read}
use Rattle.scanning.proofs.ExactLaws.{bytes-written}
use Rattle.reading.specs.Read.{Columns, nothing, found, accepted, lacking, made, read_rows, read_refusal, Answer, outcome_said, Reading}
use Rattle.fidelity.specs.Reading.{AreBytes}
use Rattle.fidelity.specs.Settled as settled
use Rattle.fidelity.specs.Settled.{Room, GivenFor, Settled, ByTheWriters, NoOther}
use Rattle.fidelity.proofs.ReadingHolds.{promised, gives-written, given-read, number-given, unaltered, done}

-- the test of room is that
module _ (l : Lookup) (c : Columns) where
  room-there : lacking (fine l) c ≡ false → Room l c
  room-there e =
      let n = neither (ltb (length c.glyphs) (length l.glyphs)) (ltb (length c.substitutes) (length l.substitutes)) e in
      record { glyphs = ltb-false _ _ n.0; substitutes = ltb-false _ _ n.1 }

  room-not-lacking : Room l c → lacking (fine l) c ≡ false
  room-not-lacking h = rw (le-ltb (length c.glyphs) (length l.glyphs) h.glyphs, le-ltb (length c.substitutes) (length l.substitutes) h.substitutes)

  no_room-lacking : (Room l c → ⊥) → lacking (fine l) c ≡ true
  no_room-lacking n = go (lacking (fine l) c) refl
    where
      go : (t : Bool) → lacking (fine l) c ≡ t → t ≡ true
      go true e = refl
      go false e = absurd (n (room-there e))

module _ (b : List ℕ) (h : AreBytes b) (c : Columns) (r : Answer) (left : Columns) where
  given : (l : Lookup) → reading b ≡ fine l → GivenFor b l
  given l e = let m = bytes-written b h l e in record { gives = gives-written b l m.0 m.1.readable; reads = m.1.same }

  read-given : (l : Lookup) → GivenFor b l → reading b ≡ fine l
  read-given l g = given-read b l g.gives ∙ ap fine g.reads

  on : Reading b c r left → Settled b c r left
  unfolding read_refusal
  on x = go (reading b) refl (number-given b c r left x) (done b c r left x)
    where
      unread : said r ≡ 7 → ((l : Lookup) → reading b ≡ fine l → ⊥) → Settled b c r left
      unread e never = settled.no_lookup (λ l g. never (as_read l) (given-read b l g)) e (unaltered b c r left x (λ z. omega (arith, e, z)))

      room : (l : Lookup) → reading b ≡ fine l → (t : Bool) → lacking (fine l) c ≡ t → said r ≡ cond t 8 0 → (said r ≡ 0 → outcome_said r left ≡ found l c) → Settled b c r left
      room l e true k n o = settled.no_room l (given l e) (λ q. false≢true (sym (room-not-lacking l c q) ∙ k)) n (unaltered b c r left x (λ z. omega (arith, n, z)))
      room l e false k n o = settled.read l (given l e) (room-there l c k) n (o n)

      go : (s : Scan) → reading b ≡ s → said r ≡ first (read_rows s c) → (said r ≡ 0 → outcome_said r left ≡ made s c) → Settled b c r left
      go (fine l) e n o = room l e (lacking (fine l) c) refl n o
      go (wrong k) e n o = unread n (λ l f. false≢true (ap accepted (sym e ∙ f)))
      go short e n o = unread n (λ l f. false≢true (ap accepted (sym e ∙ f)))

  back : Settled b c r left → Reading b c r left
  unfolding read_refusal
  back (settled.read l g q n o) = rw (read-given l g, room-not-lacking l c q, n, o) refl
  back (settled.no_room l g q n o) = rw (read-given l g, no_room-lacking l c q, n, o) refl
  back (settled.no_lookup never n o) = go (reading b) refl
    where
      go : (s : Scan) → reading b ≡ s → After (said r) (outcome_said r left) ≡ leaves (first (read_rows s c)) (nothing c) (made s c)
      go (fine l) e = absurd (never l (given l e).gives)
      go (wrong k) e = rw (n, o) refl
      go short e = rw (n, o) refl

pub by_the_writers : ByTheWriters
by_the_writers b h c r left = (on b h c r left, back b h c r left)

pub no_other : NoOther
no_other b h c r left x u other s = promised.one_answer b c u r other left (back b h c u other s) x
