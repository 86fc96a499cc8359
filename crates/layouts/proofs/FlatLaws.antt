-- Rules and the two columns that hold them: the components of two lists (`flat_append`), and how many there are (`length-flat`); rules are what their columns hold (`rules-flat`), and columns are those of the rules that they hold (`flat-rules`, `ligatures-rules`).
-- Assumes nothing.
use mathlib.Core.Path.{◌≡◌, refl, sym, ap, ◌∙◌}
use mathlib.Core.List.{List, [], ◌∷◌, ◌++◌, append_assoc}
use Prim.Native.Nat.{ℕ, ◌*◌}
use native.Mathlib.Nat.{zero-mul}
use native.Mathlib.Omega.{arith}
use lib.ListN.{length, take, drop, take-append-drop, length-append, length-drop}
use lib.Seq.{take_at, drop_at}
use Rattle.layouts.specs.Tables.{Rule}
use Rattle.layouts.specs.Lookups.{rules, flat, ligatures}
use Rattle.layouts.proofs.SetLaws.{Wide}

pub flat_append : (a b : List Rule) → flat (a ++ b) ≡ flat a ++ flat b
unfolding flat
flat_append [] b = refl
flat_append (r ∷ a) b = ap (λ (l : List ℕ). r.components ++ l) (flat_append a b) ∙ sym (append_assoc r.components (flat a) (flat b))

-- ---- of n components
pub length-flat : (n : ℕ) (rs : List Rule) → Wide n rs → length (flat rs) ≡ length rs * n
unfolding Wide flat
length-flat n [] w = sym (zero-mul n)
length-flat n (r ∷ rs) w = omega (arith, length-append r.components (flat rs), length-flat n rs w.1, w.0)

pub rules-flat : (n : ℕ) (rs : List Rule) → Wide n rs → rules n (flat rs) (ligatures rs) ≡ rs
unfolding Wide flat rules
rules-flat n [] w = refl
rules-flat n (r ∷ rs) w =
    rw (take_at r.components (flat rs) n w.0, drop_at r.components (flat rs) n w.0) (ap (λ (x : List Rule). r ∷ x) (rules-flat n rs w.1))

pub flat-rules : (n : ℕ) (cs ls : List ℕ) → length cs ≡ length ls * n → flat (rules n cs ls) ≡ cs
unfolding flat rules
flat-rules n [] [] e = refl
flat-rules n (c ∷ cs) [] e = absurd (omega (arith, zero-mul n))
flat-rules n cs (l ∷ ls) e =
    ap (λ (v : List ℕ). take n cs ++ v) (flat-rules n (drop n cs) ls (simp length-drop (omega arith))) ∙ take-append-drop n cs

pub ligatures-rules : (n : ℕ) (cs ls : List ℕ) → ligatures (rules n cs ls) ≡ ls
unfolding rules
ligatures-rules n cs [] = refl
ligatures-rules n cs (l ∷ ls) = ap (λ (v : List ℕ). l ∷ v) (ligatures-rules n (drop n cs) ls)
