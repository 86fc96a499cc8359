-- The rules that two columns hold, by their places: the next one (`rules-next`, `part-next`, `part_none`), how many a part has (`length_part`), where a rule's components stand (`inside`, `first-at`, `rule-words`), and that those behind the first are written one by one (`other-written`, `others-written`);
-- the walk to the end of a set (`run_from`, `run_on`, `run_ends`, `run-over`, `set_found`); what begins a part that is a set (`leader-at`), and that no set is left (`sets-none`); a rule written (`rule-written`).
-- Assumes nothing.
use mathlib.Core.Path.{◌≡◌, refl, sym, ap, ◌∙◌}
use mathlib.Core.List.{List, [], ◌∷◌}
use Prim.Native.Nat.{ℕ, zero, suc, ◌+◌, ◌-◌, ◌*◌, ◌<◌, ◌≤◌}
use native.Mathlib.Nat.{mul-le-mul_right, zero-mul, add-zero}
use native.Mathlib.Numerals.{add-one}
use native.Mathlib.Omega.{arith}
use lib.ListN.{length, get_or, take, drop, drop_of_length-le, length-take, length-drop}
use lib.Seq.{drop-drop, drop-cons, get_or-take, get_or-drop, take-nil}
use Rattle.words.specs.Words.{Wrote}
use Rattle.words.proofs.WordLaws.{one_less}
use Rattle.words.proofs.WroteLaws.{begin, then, frame, step}
use Rattle.layouts.specs.Tables.{first, leader, sets, rule_words}
use Rattle.layouts.specs.Lookups.{rules}
use Rattle.layouts.proofs.SetLaws.{run, run_more, run-stop, sets-run}
use Rattle.layouts.proofs.SizeLaws.{length-rules}
use Rattle.ligatures.specs.Places.{Shape, rule_at, part, sets_from, SetAt}

pub rules-next : (n : ℕ) (cs ls : List ℕ) (i : ℕ) → i < length ls → drop i (rules n cs ls) ≡ rule_at n cs ls i ∷ drop (suc i) (rules n cs ls)
unfolding rules
rules-next n cs [] i h = absurd (omega arith)
rules-next n cs (l ∷ ls) zero h = rw zero-mul
rules-next n cs (l ∷ ls) (suc i) h = rules-next n (drop n cs) ls i (omega arith) ∙ rw (drop-drop, row n i)
  where
    row : (n i : ℕ) → n + i * n ≡ suc i * n
    row n i = omega arith

-- ---- a part of the rules
pub length_part : (n : ℕ) (cs ls : List ℕ) (i e : ℕ) → e ≤ length ls → length (part n cs ls i e) ≡ e - i
length_part n cs ls i e h = simp (length-take, length-drop, length-rules) (omega arith)

pub part-next : (n : ℕ) (cs ls : List ℕ) (k e : ℕ) → k < e → e ≤ length ls → part n cs ls k e ≡ rule_at n cs ls k ∷ part n cs ls (k + 1) e
part-next n cs ls k e h w = rw (rules-next n cs ls k (omega arith), add-one, less k e h)
  where
    less : (k e : ℕ) → k < e → e - k ≡ suc (e - suc k)
    less k e h = omega arith

pub part_none : (n : ℕ) (cs ls : List ℕ) (k e : ℕ) → e ≤ k → part n cs ls k e ≡ []
part_none n cs ls k e h = rw (none k e h)
  where
    none : (k e : ℕ) → e ≤ k → e - k ≡ 0
    none k e h = omega arith

-- ---- the components of a rule
pub inside : {n : ℕ} {cs ls : List ℕ} (k : ℕ) → Shape n cs ls → k < length ls → k * n + n ≤ length cs
inside {n} {cs} {ls} k s h = omega (arith, s.flat, mul-le-mul_right n h)

pub first-at : (n : ℕ) (cs ls : List ℕ) (k : ℕ) → 0 < n → first (rule_at n cs ls k) ≡ get_or cs (k * n) 0
first-at n cs ls k h = rw (get_or-take n (drop (k * n) cs) 0 0 h, get_or-drop, add-zero)

behind-first : (n : ℕ) (l : List ℕ) → drop 1 (take n l) ≡ take (n - 1) (drop 1 l)
behind-first zero [] = refl
behind-first zero (x ∷ l) = refl
behind-first (suc n) [] = sym (take-nil (suc n - 1))
behind-first (suc n) (x ∷ l) = ap (λ (k : ℕ). take k l) (one_less n)

-- those behind the first are the column's part from the second place on
pub rule-words : (n : ℕ) (cs ls : List ℕ) (k : ℕ) → rule_words n (rule_at n cs ls k) ≡ get_or ls k 0 ∷ n ∷ take (n - 1) (drop (k * n + 1) cs)
unfolding rule_words
rule-words n cs ls k = rw (behind-first n (drop (k * n) cs), drop-drop)

-- they are written one by one: one of k + 1, and the k behind it; and no more
pub other-written :
    (cs : List ℕ) (i j k : ℕ) → i < length cs → j ≡ i + 1 → {d t u : List ℕ} {at a b : ℕ} → Wrote d at (get_or cs i 0 ∷ []) t a [] → Wrote t a (take k (drop j cs)) u b []
    → Wrote d at (take (k + 1) (drop i cs)) u b []
other-written cs i j k h e p q =
    rw (add-one k, drop-cons cs i 0 h, ← add-one i, ← e) (then (frame (take k (drop j cs)) (omega (arith, p.room, p.place, p.same, q.room)) p) q)

pub others-written : {d t ws : List ℕ} {at a : ℕ} → Wrote d at ws t a [] → Wrote t a [] t a []
others-written {t} {a} p = begin t a [] (omega (arith, p.room, p.place, p.same))

-- ---- the walk to the end of a set
-- how many rules from e on begin with f
abbrev pub run_from : ℕ → List ℕ → List ℕ → ℕ → ℕ → ℕ
run_from n cs ls f e = run f (drop e (rules n cs ls))

pub run_on : {n : ℕ} {cs ls : List ℕ} (f e : ℕ) → Shape n cs ls → e < length ls → get_or cs (e * n) 0 ≡ f → run_from n cs ls f e ≡ suc (run_from n cs ls f (e + 1))
run_on {n} {cs} {ls} f e s h q = rw (rules-next n cs ls e h, add-one) (run_more f (rule_at n cs ls e) _ (sym (first-at n cs ls e (omega (arith, s.low)) ∙ q)))

pub run_ends : {n : ℕ} {cs ls : List ℕ} (f e : ℕ) → Shape n cs ls → e < length ls → (get_or cs (e * n) 0 ≡ f → ⊥) → run_from n cs ls f e ≡ 0
run_ends {n} {cs} {ls} f e s h q = rw (rules-next n cs ls e h) (run-stop f (rule_at n cs ls e) _ (λ w. q (sym (first-at n cs ls e (omega (arith, s.low))) ∙ sym w)))

pub run-over : (n : ℕ) (cs ls : List ℕ) (f e : ℕ) → length ls ≤ e → run_from n cs ls f e ≡ 0
unfolding run
run-over n cs ls f e h = rw (drop_of_length-le (rules n cs ls) {i = e} (omega (arith, length-rules n cs ls)))

pub set_found :
    {n : ℕ} {cs ls : List ℕ} (i e : ℕ) → Shape n cs ls → i < e → e ≤ length ls → e ≡ i + 1 + run_from n cs ls (get_or cs (i * n) 0) (i + 1)
    → SetAt n cs ls i e
set_found {n} {cs} {ls} i e s lo hi found =
    let f : first (rule_at n cs ls i) ≡ get_or cs (i * n) 0 = first-at n cs ls i (omega (arith, s.low)) in
    let k : ℕ = run_from n cs ls (get_or cs (i * n) 0) (i + 1) in
    let size : e - i ≡ suc k = omega arith in
    record {
      after = lo;
      within = hi;
      split = rw (rules-next n cs ls i (omega arith), sets-run (rule_at n cs ls i) (drop (suc i) (rules n cs ls)), f, ← add-one i, size, drop-drop, ← found);
    }

pub leader-at : {n : ℕ} {cs ls : List ℕ} (i e : ℕ) → Shape n cs ls → i < e → e ≤ length ls → leader (part n cs ls i e) ≡ get_or cs (i * n) 0
leader-at {n} {cs} {ls} i e s h w = rw (part-next n cs ls i e h w) (first-at n cs ls i (omega (arith, s.low)))

pub sets-none : (n : ℕ) (cs ls : List ℕ) (i : ℕ) → length ls ≤ i → sets_from n cs ls i ≡ []
unfolding sets
sets-none n cs ls i h = rw (drop_of_length-le (rules n cs ls) {i = i} (omega (arith, length-rules n cs ls)))

-- ---- a rule written by three calls
pub rule-written :
    (n : ℕ) (cs ls : List ℕ) (k : ℕ) {d : List ℕ} {at : ℕ} {first-area : List ℕ} {a : ℕ} {second-area : List ℕ} {b : ℕ} {third-area : List ℕ} {e : ℕ}
    → at + 2 * length (rule_words n (rule_at n cs ls k)) ≤ length d
    → Wrote d at (get_or ls k 0 ∷ []) first-area a []
    → Wrote first-area a (n ∷ []) second-area b []
    → Wrote second-area b (take (n - 1) (drop (k * n + 1) cs)) third-area e []
    → Wrote d at (rule_words n (rule_at n cs ls k)) third-area e []
rule-written n cs ls k room p q r =
    let others : List ℕ = take (n - 1) (drop (k * n + 1) cs) in
    rw (rule-words n cs ls k) (then (step others (frame (n ∷ others) (rw (rule-words n cs ls k) at room) p) q) r)
