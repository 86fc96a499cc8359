-- Words taken one by one, in both directions: `Takes` that a scan takes exactly the words of the values that are good, and hands on the value; `Taken` what it took. Scans one behind the other (`two-takes`), words before and behind (`behind-takes`, `ahead-takes`), a value said in another way (`Said`, `said-takes`), the same scan (`same_takes`);
-- one word (`next-takes`), so many words that each pass a test (`passed`, `each-takes`), words of any value (`several-takes`), glyphs that rise (`rise-takes`); the end (`Ended`, `ends`, `ended`). A scan that is fine says one lookup (`same-fine`), and is neither wrong nor short (`wrong-fine`, `short-fine`).
-- Assumes nothing.
use mathlib.Core.Path.{◌≡◌, refl, sym, ap, ◌∙◌}
use mathlib.Core.Bool.{Bool, true, false, cond, ◌&&◌}
use mathlib.Core.List.{List, [], ◌∷◌, ◌++◌, append-nil, append_assoc}
use Prim.Native.Nat.{ℕ, zero, suc, ◌+◌, ◌*◌, ◌<◌, ◌≤◌}
use native.Mathlib.Omega.{arith}
use borrow.Author.Tests.{eq-eqb, eqb-true, le-leb, lt-ltb, leb-true, ltb-true}
use lib.Dec.{eqb, leb, ltb}
use lib.ListN.{length}
use Rattle.laws.proofs.TestLaws.{both}
use Rattle.refusals.specs.Columns.{rising}
use Rattle.layouts.specs.Lookups.{Lookup, fits}
use Rattle.layouts.proofs.FitLaws.{fits_head}
use Rattle.scanning.specs.Scans.{Scan, Rest, fine, wrong, short, next, exactly, several, rise, end}

-- ---- scans that are not fine
abbrev is_fine : Scan → ℕ
is_fine (fine l) = 1
is_fine (wrong n) = 0
is_fine short = 0

pub wrong-fine : (n : ℕ) (l : Lookup) → wrong n ≡ fine l → ⊥
wrong-fine n l e = let z : ◌≡◌ {A = ℕ} 0 1 = ap is_fine e in omega arith

pub short-fine : (l : Lookup) → short ≡ fine l → ⊥
short-fine l e = let z : ◌≡◌ {A = ℕ} 0 1 = ap is_fine e in omega arith

-- ---- what is taken
-- a good value, whose words are the first of all, and with which the rest is fine
pub record Taken {A : Type 0} (P : A → Type 0) (words : A → List ℕ) (k : A → Rest) (ws : List ℕ) (l : Lookup) : Type 0 where
  pub value : A
  pub good : P value
  pub rest : List ℕ
  pub split : ws ≡ words value ++ rest
  pub more : k value rest ≡ fine l

-- a scan takes the words of every good value, and of no other
pub record Takes {A : Type 0} (P : A → Type 0) (words : A → List ℕ) (scan : (A → Rest) → Rest) : Type 0 where
  pub on : (a : A) → P a → (k : A → Rest) (ws : List ℕ) → scan k (words a ++ ws) ≡ k a ws
  pub back : (k : A → Rest) (ws : List ℕ) (l : Lookup) → scan k ws ≡ fine l → Taken P words k ws l

-- a good value that is said as b and has these words
pub record Said {A B : Type 0} (P : A → Type 0) (words : A → List ℕ) (h : A → B) (b : B) (ws : List ℕ) : Type 0 where
  pub from : A
  pub holds : P from
  pub same : h from ≡ b
  pub written : ws ≡ words from

-- ---- scans made of scans
module _ {A : Type 0} {P : A → Type 0} {f : A → List ℕ} {s : (A → Rest) → Rest} (x : Takes P f s) where
  -- one behind the other
  module _ {B : Type 0} {Q : A → B → Type 0} {g : A → B → List ℕ} {t : A → (B → Rest) → Rest} (y : (a : A) → P a → Takes (Q a) (g a) (t a)) where
    pub two-takes : Takes {A = A × B} (λ p. P p.0 × Q p.0 p.1) (λ p. f p.0 ++ g p.0 p.1) (λ k. s (λ a. t a (λ b. k (a, b))))
    two-takes = record { on = on; back = back }
      where
        on :
            (p : A × B) → P p.0 × Q p.0 p.1 → (k : A × B → Rest) (ws : List ℕ)
            → s (λ a. t a (λ b. k (a, b))) ((f p.0 ++ g p.0 p.1) ++ ws) ≡ k p ws
        on p h k ws =
            rw (append_assoc (f p.0) (g p.0 p.1) ws)
            (x.on p.0 h.0 (λ a. t a (λ b. k (a, b))) (g p.0 p.1 ++ ws) ∙ (y p.0 h.0).on p.1 h.1 (λ b. k (p.0, b)) ws)

        back :
            (k : A × B → Rest) (ws : List ℕ) (l : Lookup) → s (λ a. t a (λ b. k (a, b))) ws ≡ fine l
            → Taken (λ p. P p.0 × Q p.0 p.1) (λ p. f p.0 ++ g p.0 p.1) k ws l
        back k ws l e =
            let m = x.back (λ a. t a (λ b. k (a, b))) ws l e in
            let n = (y m.value m.good).back (λ b. k (m.value, b)) m.rest l m.more in
            record {
              value = (m.value, n.value);
              good = (m.good, n.good);
              rest = n.rest;
              split = m.split ∙ ap (λ (v : List ℕ). f m.value ++ v) n.split ∙ sym (append_assoc (f m.value) (g m.value n.value) n.rest);
              more = n.more;
            }

  -- a value said in another way
  module _ {B : Type 0} (h : A → B) (Q : B → Type 0) (g : B → List ℕ) where
    pub said-takes : ((b : B) → Q b → Said P f h b (g b)) → ((a : A) → P a → Q (h a) × (f a ≡ g (h a))) → Takes Q g (λ k. s (λ a. k (h a)))
    said-takes to of = record { on = on; back = back }
      where
        on : (b : B) → Q b → (k : B → Rest) (ws : List ℕ) → s (λ a. k (h a)) (g b ++ ws) ≡ k b ws
        on b q k ws =
            let m = to b q in
            rw m.written (x.on m.from m.holds (λ a. k (h a)) ws ∙ ap (λ (c : B). k c ws) m.same)

        back : (k : B → Rest) (ws : List ℕ) (l : Lookup) → s (λ a. k (h a)) ws ≡ fine l → Taken Q g k ws l
        back k ws l e =
            let m = x.back (λ a. k (h a)) ws l e in
            let n = of m.value m.good in
            record { value = h m.value; good = n.0; rest = m.rest; split = m.split ∙ ap (λ (v : List ℕ). v ++ m.rest) n.1; more = m.more }

-- ---- one word
pub next-takes : (test : ℕ → Bool) → Takes (λ w. test w ≡ true) (λ w. w ∷ []) (next test)
unfolding next
next-takes test = record { on = λ w h k ws. rw h; back = back }
  where
    back : (k : ℕ → Rest) (ws : List ℕ) (l : Lookup) → next test k ws ≡ fine l → Taken (λ w. test w ≡ true) (λ w. w ∷ []) k ws l
    back k [] l e = absurd (short-fine l e)
    back k (w ∷ ws) l e = go (test w) refl e
      where
        go : (b : Bool) → test w ≡ b → cond b (k w ws) (wrong (suc (length ws))) ≡ fine l → Taken (λ w. test w ≡ true) (λ w. w ∷ []) k (w ∷ ws) l
        go true h e = record { value = w; good = h; rest = ws; split = refl; more = e }
        go false h e = absurd (wrong-fine (suc (length ws)) l e)

-- ---- these very words
exactly-on : (xs : List ℕ) (k : Rest) (ws : List ℕ) → exactly xs k (xs ++ ws) ≡ k ws
unfolding exactly next
exactly-on [] k ws = refl
exactly-on (x ∷ xs) k ws = rw (eq-eqb x x refl) (exactly-on xs k ws)

exactly-back : (xs : List ℕ) (k : Unit {0} → Rest) (ws : List ℕ) (l : Lookup) → exactly xs (k tt) ws ≡ fine l → Taken {A = Unit} (λ u. Unit) (λ u. xs) k ws l
unfolding exactly
exactly-back [] k ws l e = record { value = tt; good = tt; rest = ws; split = refl; more = e }
exactly-back (x ∷ xs) k ws l e =
    let m = (next-takes (eqb x)).back (λ w. exactly xs (k tt)) ws l e in
    let n = exactly-back xs k m.rest l m.more in
    record { value = tt; good = tt; rest = n.rest; split = front m.value m.rest n.rest (eqb-true x m.value m.good) m.split n.split; more = n.more }
  where
    front : (w : ℕ) (r r' : List ℕ) → x ≡ w → ws ≡ w ∷ r → r ≡ xs ++ r' → ws ≡ x ∷ (xs ++ r')
    front w r r' p q t = cc

exactly-takes : (xs : List ℕ) → Takes {A = Unit} (λ u. Unit) (λ u. xs) (λ k. exactly xs (k tt))
exactly-takes xs = record { on = λ u h k ws. exactly-on xs (k tt) ws; back = λ k ws l e. exactly-back xs k ws l e }

module _ {A : Type 0} {P : A → Type 0} {f : A → List ℕ} {s : (A → Rest) → Rest} where
  -- before what is taken
  pub behind-takes : (xs : List ℕ) → Takes P f s → Takes P (λ a. xs ++ f a) (λ k. exactly xs (s k))
  behind-takes xs x =
      said-takes (two-takes (exactly-takes xs) (λ u v. x)) (λ p. p.1) P (λ a. xs ++ f a)
      (λ a h. record { from = (tt, a); holds = (tt, h); same = refl; written = refl })
      (λ p h. (h.1, refl))

  -- behind it, and by it
  pub ahead-takes : Takes P f s → (xs : A → List ℕ) → Takes P (λ a. f a ++ xs a) (λ k. s (λ a. exactly (xs a) (k a)))
  ahead-takes x xs =
      said-takes (two-takes x (λ a h. exactly-takes (xs a))) (λ p. p.0) P (λ a. f a ++ xs a)
      (λ a h. record { from = (a, tt); holds = (h, tt); same = refl; written = refl })
      (λ p h. (h.0, refl))

  -- a scan that is the same for all words
  pub same_takes : {t : (A → Rest) → Rest} → ((k : A → Rest) → t k ≡ s k) → Takes P f s → Takes P f t
  same_takes e x =
      record { on = λ a h k ws. ap (λ (r : Rest). r (f a ++ ws)) (e k) ∙ x.on a h k ws; back = λ k ws l d. x.back k ws l (ap (λ (r : Rest). r ws) (sym (e k)) ∙ d) }

-- ---- so many words, each tested by the one before it and by how many are to come
module _ (test : ℕ → ℕ → ℕ → Bool) (step : ℕ → ℕ) where
  unfoldable pub passed : ℕ → List ℕ → Bool
  passed low [] = true
  passed low (w ∷ ws) = test (length ws) low w && passed (step w) ws

  module _ (s : ℕ → ℕ → (List ℕ → Rest) → Rest)
      (none : (low : ℕ) (k : List ℕ → Rest) → s zero low k ≡ k [])
      (one : (n low : ℕ) (k : List ℕ → Rest) → s (suc n) low k ≡ next (test n low) (λ w. s n (step w) (λ ws. k (w ∷ ws)))) where
    pub each-takes : (n low : ℕ) → Takes (λ ws. (length ws ≡ n) × (passed low ws ≡ true)) (λ ws. ws) (s n low)
    unfolding passed
    each-takes zero low = same_takes {s = λ k. k []} (none low) (record { on = on; back = λ k ws l e. record { value = []; good = (refl, refl); rest = ws; split = refl; more = e } })
      where
        on : (a : List ℕ) → (length a ≡ zero) × (passed low a ≡ true) → (k : List ℕ → Rest) (ws : List ℕ) → k [] (a ++ ws) ≡ k a ws
        on [] h k ws = refl
        on (w ∷ a) h k ws = absurd (omega (arith, h.0))
    each-takes (suc n) low =
        same_takes (one n low)
        (said-takes (two-takes (next-takes (test n low)) (λ w h. each-takes n (step w))) (λ p. p.0 ∷ p.1)
        (λ ws. (length ws ≡ suc n) × (passed low ws ≡ true)) (λ ws. ws) to of)
      where
        to : (ws : List ℕ) → (length ws ≡ suc n) × (passed low ws ≡ true)
            → Said {A = ℕ × List ℕ} (λ p. (test n low p.0 ≡ true) × ((length p.1 ≡ n) × (passed (step p.0) p.1 ≡ true))) (λ p. (p.0 ∷ []) ++ p.1) (λ p. p.0 ∷ p.1) ws ws
        to [] h = absurd (omega (arith, h.0))
        to (w ∷ ws) h =
            let c : length ws ≡ n = omega (arith, h.0) in
            let b = both (test (length ws) low w) (passed (step w) ws) h.1 in
            record { from = (w, ws); holds = (rw c at b.0, (c, b.1)); same = refl; written = refl }

        of : (p : ℕ × List ℕ) → (test n low p.0 ≡ true) × ((length p.1 ≡ n) × (passed (step p.0) p.1 ≡ true))
            → ((length (p.0 ∷ p.1) ≡ suc n) × (passed low (p.0 ∷ p.1) ≡ true)) × ((p.0 ∷ []) ++ p.1 ≡ p.0 ∷ p.1)
        of p h = ((ap suc h.1.0, rw (h.1.0, h.0) h.1.1), refl)

-- words of any value
pub several-takes : (n : ℕ) → Takes (λ ws. length ws ≡ n) (λ ws. ws) (several n)
unfolding several passed
several-takes n =
    said-takes (each-takes (λ left low w. true) (λ w. w) (λ n low. several n) (λ low k. refl) (λ n low k. refl) n 0) (λ ws. ws) (λ ws. length ws ≡ n) (λ ws. ws)
    (λ ws h. record { from = ws; holds = (h, all ws 0); same = refl; written = refl })
    (λ ws h. (h.0, refl))
  where
    all : (ws : List ℕ) (low : ℕ) → passed (λ left low w. true) (λ w. w) low ws ≡ true
    all [] low = refl
    all (w ∷ ws) low = all ws w

-- ---- glyphs that rise
module _ (apart : ℕ) where
  -- the test of one, and of all
  abbrev climbs : ℕ → ℕ → ℕ → Bool
  climbs left low w = leb low w && ltb (w + apart * left) 65536

  abbrev climbed : ℕ → List ℕ → Bool
  climbed low ws = passed climbs (λ w. w + apart) low ws

  -- glyphs that rise and fit leave room for those behind them
  room_risen : (x : ℕ) (xs : List ℕ) → rising apart (x ∷ xs) ≡ true → fits (x ∷ xs) ≡ true → x + apart * length xs < 65536
  room_risen x [] r f = omega (arith, (fits_head x [] f).0)
  room_risen x (y ∷ ys) r f =
      let b = both (leb (x + apart) y) (rising apart (y ∷ ys)) r in
      omega (arith, leb-true (x + apart) y b.0, room_risen y ys b.1 (fits_head x (y ∷ ys) f).1)

  climbed-on : (low x : ℕ) (xs : List ℕ) → low ≤ x → rising apart (x ∷ xs) ≡ true → fits (x ∷ xs) ≡ true → climbed low (x ∷ xs) ≡ true
  unfolding passed
  climbed-on low x [] h r f = rw (le-leb low x h, lt-ltb (x + apart * 0) 65536 (room_risen x [] r f))
  climbed-on low x (y ∷ ys) h r f =
      let b = both (leb (x + apart) y) (rising apart (y ∷ ys)) r in
      rw (le-leb low x h, lt-ltb (x + apart * suc (length ys)) 65536 (room_risen x (y ∷ ys) r f))
      (climbed-on (x + apart) y ys (leb-true (x + apart) y b.0) b.1 (fits_head x (y ∷ ys) f).1)

  climbed-parts :
      (low x : ℕ) (xs : List ℕ) → climbed low (x ∷ xs) ≡ true → (low ≤ x) × (x + apart * length xs < 65536) × (climbed (x + apart) xs ≡ true)
  unfolding passed
  climbed-parts low x xs e =
      let b = both (climbs (length xs) low x) (climbed (x + apart) xs) e in
      let c = both (leb low x) (ltb (x + apart * length xs) 65536) b.0 in
      (leb-true low x c.0, ltb-true (x + apart * length xs) 65536 c.1, b.1)

  climbed-back : (low x : ℕ) (xs : List ℕ) → climbed low (x ∷ xs) ≡ true → (low ≤ x) × (rising apart (x ∷ xs) ≡ true) × (fits (x ∷ xs) ≡ true)
  unfolding fits
  climbed-back low x [] e =
      let b = climbed-parts low x [] e in
      (b.0, refl, rw (lt-ltb x 65536 (omega (arith, b.1))))
  climbed-back low x (y ∷ ys) e =
      let b = climbed-parts low x (y ∷ ys) e in
      let r = climbed-back (x + apart) y ys b.2 in
      (b.0, rw (le-leb (x + apart) y r.0) r.1, rw (lt-ltb x 65536 (omega (arith, b.1))) r.2)

  pub rise-takes : (n : ℕ) → Takes (λ ws. (length ws ≡ n) × (rising apart ws ≡ true) × (fits ws ≡ true)) (λ ws. ws) (rise apart n 0)
  unfolding rise passed fits
  rise-takes n =
      said-takes (each-takes climbs (λ w. w + apart) (rise apart) (λ low k. refl) (λ n low k. refl) n 0) (λ ws. ws)
      (λ ws. (length ws ≡ n) × (rising apart ws ≡ true) × (fits ws ≡ true)) (λ ws. ws)
      (λ ws h. record { from = ws; holds = (h.0, on ws h.1 h.2); same = refl; written = refl })
      (λ ws h. ((h.0, (back ws h.1).0, (back ws h.1).1), refl))
    where
      on : (ws : List ℕ) → rising apart ws ≡ true → fits ws ≡ true → climbed 0 ws ≡ true
      on [] r f = refl
      on (x ∷ xs) r f = climbed-on 0 x xs (omega arith) r f

      back : (ws : List ℕ) → climbed 0 ws ≡ true → (rising apart ws ≡ true) × (fits ws ≡ true)
      back [] e = (refl, refl)
      back (x ∷ xs) e = let r = climbed-back 0 x xs e in (r.1, r.2)

-- ---- the end
abbrev lookup_in : Lookup → Scan → Lookup
lookup_in d (fine l) = l
lookup_in d (wrong n) = d
lookup_in d short = d

pub same-fine : (m l : Lookup) → fine m ≡ fine l → m ≡ l
same-fine m l e = ap (lookup_in m) e

end_back : (m : Lookup) (ws : List ℕ) (l : Lookup) → end m ws ≡ fine l → (ws ≡ []) × (m ≡ l)
unfolding end
end_back m [] l e = (refl, same-fine m l e)
end_back m (w ∷ ws) l e = absurd (wrong-fine (suc (length ws)) l e)

-- a good value that says l, and whose words are all
pub record Ended {A : Type 0} (P : A → Type 0) (words : A → List ℕ) (h : A → Lookup) (ws : List ℕ) (l : Lookup) : Type 0 where
  pub value : A
  pub good : P value
  pub made : ws ≡ words value
  pub says : h value ≡ l

module _ {A : Type 0} {P : A → Type 0} {f : A → List ℕ} {s : (A → Rest) → Rest} (x : Takes P f s) (h : A → Lookup) where
  pub ends : (a : A) → P a → s (λ a. end (h a)) (f a) ≡ fine (h a)
  unfolding end
  ends a p = ap (s (λ a. end (h a))) (sym (append-nil (f a))) ∙ x.on a p (λ a. end (h a)) []

  pub ended : (ws : List ℕ) (l : Lookup) → s (λ a. end (h a)) ws ≡ fine l → Ended P f h ws l
  ended ws l e =
      let m = x.back (λ a. end (h a)) ws l e in
      let n = end_back (h m.value) m.rest l m.more in
      record { value = m.value; good = m.good; made = m.split ∙ ap (λ (v : List ℕ). f m.value ++ v) n.0 ∙ append-nil (f m.value); says = n.1 }
