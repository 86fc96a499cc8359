-- The rules that bytes hold: how many they are, and their components (`length-rule`, `length-rules`, `length-parts`); the sets' rules, by the next set (`sets-next`), how many they are by where they end (`end_is`), and how many their components are (`flat-sets`).
-- Assumes nothing.
use mathlib.Core.Path.{◌≡◌, refl, ap, ◌∙◌}
use mathlib.Core.List.{List, [], ◌∷◌, ◌++◌}
use Prim.Native.Nat.{ℕ, zero, suc, ◌+◌, ◌-◌, ◌*◌, ◌<◌}
use native.Mathlib.Nat.{zero-mul}
use native.Mathlib.Omega.{arith}
use lib.ListN.{length, length-append}
use Rattle.words.specs.Words.{word_at, words_at}
use Rattle.words.proofs.WordLaws.{length-words}
use Rattle.layouts.specs.Lookups.{flat}
use Rattle.layouts.proofs.SetLaws.{Wide, wide-append}
use Rattle.layouts.proofs.FlatLaws.{length-flat}
use Rattle.scanning.specs.Grammar.{set_size}
use Rattle.grouping.specs.Grouped.{rule_at, rules_at, sets_at, end_at}

pub length-rule : (n lead : ℕ) (b : List ℕ) (p : ℕ) → 0 < n → length (rule_at n lead b p).components ≡ n
unfolding rule_at
length-rule n lead b p h = omega (arith, length-words b (p + 4) (n - 1), h)

pub length-rules : (n lead c : ℕ) (b : List ℕ) (p : ℕ) → length (rules_at n lead c b p) ≡ c
unfolding rules_at
length-rules n lead zero b p = refl
length-rules n lead (suc c) b p = ap suc (length-rules n lead c b (p + (2 + 2 * n)))

wide_at : (n lead c : ℕ) (b : List ℕ) (p : ℕ) → 0 < n → Wide n (rules_at n lead c b p)
unfolding Wide rules_at
wide_at n lead zero b p h = tt
wide_at n lead (suc c) b p h = (length-rule n lead b p h, wide_at n lead c b (p + (2 + 2 * n)) h)

pub length-parts : (n lead c : ℕ) (b : List ℕ) (p : ℕ) → 0 < n → length (flat (rules_at n lead c b p)) ≡ c * n
length-parts n lead c b p h = length-flat n (rules_at n lead c b p) (wide_at n lead c b p h) ∙ ap (λ (m : ℕ). m * n) (length-rules n lead c b p)

-- ---- of all sets
pub sets-next :
    (n : ℕ) (b : List ℕ) (lp p m : ℕ)
    → sets_at n (words_at b lp (m + 1)) b p ≡ rules_at n (word_at b lp) (word_at b p) b (p + 2 + 2 * word_at b p) ++ sets_at n (words_at b (lp + 2) m) b (p + set_size n (word_at b p))
unfolding sets_at words_at
sets-next n b lp p m = let one : m + 1 ≡ suc m = omega arith in rw one

-- each set takes two bytes and its rules
pub end_is : (n : ℕ) (leads b : List ℕ) (p : ℕ) → end_at n leads b p ≡ p + 2 * length leads + length (sets_at n leads b p) * (4 + 2 * n)
unfolding end_at sets_at
end_is n [] b p = omega (arith, zero-mul (4 + 2 * n))
end_is n (lead ∷ leads) b p =
    let c : ℕ = word_at b p in
    let m : ℕ = length (sets_at n leads b (p + set_size n c)) in
    end_is n leads b (p + set_size n c)
    ∙ rw (length-append (rules_at n lead c b (p + 2 + 2 * c)) (sets_at n leads b (p + set_size n c)), length-rules n lead c b (p + 2 + 2 * c)) (omega arith)

wide-sets : (n : ℕ) (leads b : List ℕ) (p : ℕ) → 0 < n → Wide n (sets_at n leads b p)
unfolding Wide sets_at
wide-sets n [] b p h = tt
wide-sets n (lead ∷ leads) b p h =
    let c : ℕ = word_at b p in
    wide-append n (rules_at n lead c b (p + 2 + 2 * c)) (sets_at n leads b (p + set_size n c)) (wide_at n lead c b (p + 2 + 2 * c) h) (wide-sets n leads b (p + set_size n c) h)

pub flat-sets : (n : ℕ) (leads b : List ℕ) (p : ℕ) → 0 < n → length (flat (sets_at n leads b p)) ≡ length (sets_at n leads b p) * n
flat-sets n leads b p h = length-flat n (sets_at n leads b p) (wide-sets n leads b p h)
