-- A lookup is read as of one kind: of two scans of the same words (`further-second`, `further-back`); the words of a ligature lookup say its component number (`components_at`, `components-some`, `components-none`), so they are no single lookup's (`ligature_no_single`) and no other component number's (`ligature-one-number`).
-- Assumes nothing.
use mathlib.Core.Path.{◌≡◌, refl, sym, ap, ◌∙◌}
use mathlib.Core.Logic.{◌⊎◌, inl, inr}
use mathlib.Core.List.{List, [], ◌∷◌, ◌++◌, map, append_assoc}
use Prim.Native.Nat.{ℕ, suc, ◌+◌, ◌*◌, ◌<◌}
use native.Mathlib.Omega.{arith}
use lib.ListN.{length, get_or, take, drop, length-map, length-append}
use lib.Seq.{drop_at, get_or-append-add}
use Rattle.layouts.specs.Tables.{Rule, first, leader, sets, offsets, joined, rule_words, set_words, single, ligature_of, ligature}
use Rattle.layouts.specs.Lookups.{Lookup, rules}
use Rattle.layouts.proofs.SetLaws.{run, sets-run}
use Rattle.layouts.proofs.SizeLaws.{length-offsets}
use Rattle.scanning.specs.Scans.{Scan, fine, wrong, short, further}
use Rattle.scanning.specs.Grammar.{single_scan, ligature_scan}
use Rattle.scanning.proofs.TakeLaws.{wrong-fine, short-fine}
use Rattle.scanning.proofs.SingleLaws.{single-back}
use Rattle.scanning.proofs.LigatureLaws.{ligature-back}

-- ---- of two scans
pub further-second : (a b : Scan) (l : Lookup) → ((m : Lookup) → a ≡ fine m → ⊥) → b ≡ fine l → further a b ≡ fine l
further-second (fine m) b l none e = absurd (none m refl)
further-second (wrong n) b l none e = rw e
further-second short b l none e = rw e

pub further-back : (a b : Scan) (l : Lookup) → further a b ≡ fine l → (a ≡ fine l) ⊎ (b ≡ fine l)
further-back (fine m) b l e = inl e
further-back (wrong n) (fine m) l e = inr e
further-back (wrong n) (wrong m) l e = absurd (wrong-fine _ l e)
further-back (wrong n) short l e = absurd (short-fine l e)
further-back short (fine m) l e = inr e
further-back short (wrong m) l e = absurd (short-fine l e)
further-back short short l e = absurd (short-fine l e)

-- ---- the words of a ligature lookup say its component number
-- the number behind the first rule's ligature; 0 where there is no rule
components_at : List ℕ → ℕ
components_at ws = behind (drop (9 + 2 * get_or ws 6 0) ws)
  where
    behind : List ℕ → ℕ
    behind block = get_or block (suc (get_or block 0 0 + 1)) 0

components-none : (flags n : ℕ) → components_at (ligature flags n []) ≡ 0
unfolding components_at ligature ligature_of sets offsets joined
components-none flags n = refl

-- the blocks lie behind offsets and coverage
behind-heads : (flags n : ℕ) (groups : List (List Rule)) → drop (9 + 2 * length groups) (ligature_of flags n groups) ≡ joined (map (set_words n) groups)
unfolding ligature_of
behind-heads flags n groups =
    let os : List ℕ = offsets (10 + 4 * length groups) (map (set_words n) groups) in
    let leads : List ℕ = map leader groups in
    let many : length (os ++ (1 ∷ length leads ∷ leads)) ≡ 2 + 2 * length groups =
    length-append os (1 ∷ length leads ∷ leads) ∙ omega (arith, length-offsets (10 + 4 * length groups) (map (set_words n) groups), length-map groups (set_words n), length-map groups leader)
    in
    rw (← append_assoc os (1 ∷ length leads ∷ leads) (joined (map (set_words n) groups)))
    (drop_at (4 ∷ flags ∷ 1 ∷ 8 ∷ 1 ∷ (6 + 2 * length groups) ∷ length groups ∷ (os ++ (1 ∷ length leads ∷ leads))) (joined (map (set_words n) groups)) (9 + 2 * length groups) (omega (arith, many)))

component_in : (n : ℕ) (r : Rule) (set : List Rule) (ws : List ℕ) → get_or (set_words n (r ∷ set) ++ ws) (suc (suc (length set) + 1)) 0 ≡ n
unfolding set_words joined rule_words
component_in n r set ws =
    let os : List ℕ = offsets (2 + 2 * suc (length set)) (map (rule_words n) (r ∷ set)) in
    let many : length os ≡ suc (length set) = length-offsets (2 + 2 * suc (length set)) (map (rule_words n) (r ∷ set)) ∙ ap suc (length-map set (rule_words n)) in
    let rest : List ℕ = joined (map (rule_words n) (r ∷ set)) ++ ws in
    rw (append_assoc os (joined (map (rule_words n) (r ∷ set))) ws) (ap (λ (x : ℕ). get_or (os ++ rest) (x + 1) 0) (sym many) ∙ get_or-append-add os rest 1 0)

components-some : (flags n : ℕ) (r : Rule) (rs : List Rule) → components_at (ligature flags n (r ∷ rs)) ≡ n
unfolding components_at ligature ligature_of joined set_words
components-some flags n r rs =
    let set : List Rule = take (run (first r) rs) rs in
    let others : List (List Rule) = sets (drop (run (first r) rs) rs) in
    rw (sets-run r rs, behind-heads flags n ((r ∷ set) ∷ others)) (component_in n r set (joined (map (set_words n) others)))

-- ---- scans of the other kinds
pub ligature_no_single : (apart flags n : ℕ) (rs : List Rule) (l : Lookup) → single_scan apart (ligature flags n rs) ≡ fine l → ⊥
unfolding ligature ligature_of single
ligature_no_single apart flags n rs l e =
    let z : ◌≡◌ {A = ℕ} 4 1 = ap (λ (ws : List ℕ). get_or ws 0 0) (single-back apart (ligature flags n rs) l e).made in
    omega arith

-- a rule of n components is read with n, or not at all
pub ligature-one-number : (flags n m : ℕ) (r : Rule) (rs : List Rule) (l : Lookup) → 0 < n → 0 < m → ligature_scan m (ligature flags n (r ∷ rs)) ≡ fine l → n ≡ m
ligature-one-number flags n m r rs l low some e =
    let b = ligature-back m some (ligature flags n (r ∷ rs)) l e in
    go (rules m l.glyphs l.substitutes) (sym (components-some flags n r rs) ∙ ap components_at b.made)
  where
    go : (qs : List Rule) → n ≡ components_at (ligature l.flags m qs) → n ≡ m
    go [] e = absurd (omega (arith, e, components-none l.flags m))
    go (q ∷ qs) e = e ∙ components-some l.flags m q qs
