-- Rules and sets of n components: a scan takes exactly the words of a rule (`rule-takes`), of so many rules (`ruled-takes`) and of a set whose count passes a test (`set-takes`).
-- Assumes nothing.
use mathlib.Core.Path.{◌≡◌, refl, sym, ap}
use mathlib.Core.Bool.{Bool, true}
use mathlib.Core.List.{List, [], ◌∷◌, ◌++◌, map}
use Prim.Native.Nat.{ℕ, zero, suc, ◌+◌, ◌-◌, ◌*◌, ◌<◌}
use native.Mathlib.Omega.{arith}
use lib.ListN.{length, get_or, drop, length-drop}
use Rattle.layouts.specs.Tables.{Rule, first, joined, evenly, rule_words, set_words}
use Rattle.layouts.proofs.SetLaws.{Wide, offsets-rules}
use Rattle.scanning.specs.Scans.{Rest, next, any, exactly, several}
use Rattle.scanning.specs.Grammar.{ruled, grouped}
use Rattle.scanning.proofs.TakeLaws.{Takes, Said, two-takes, said-takes, behind-takes, ahead-takes, next-takes, several-takes}
use Rattle.scanning.proofs.GroupLaws.{Alike}

module _ (n : ℕ) (low : 0 < n) (lead : ℕ) where
  abbrev rule_of : ℕ × List ℕ → Rule
  rule_of p = record { components = lead ∷ p.1; ligature = p.0 }

  abbrev OfRule : Rule → Type 0
  OfRule r = (length r.components ≡ n) × (first r ≡ lead)

  pub rule-takes : Takes OfRule (rule_words n) (λ k. next any (λ ligature. exactly (n ∷ []) (several (n - 1) (λ others. k (rule_of (ligature, others))))))
  unfolding rule_words
  rule-takes =
      said-takes (two-takes (ahead-takes (next-takes any) (λ ligature. n ∷ [])) (λ ligature h. several-takes (n - 1))) rule_of OfRule (rule_words n) to
      (λ p h. ((omega (arith, h.1), refl), refl))
    where
      whole : (cs : List ℕ) → length cs ≡ n → get_or cs 0 0 ≡ lead → lead ∷ drop 1 cs ≡ cs
      whole [] e f = absurd (omega arith)
      whole (c ∷ cs) e f = ap (λ (x : ℕ). x ∷ cs) (sym f)

      to : (r : Rule) → OfRule r → Said (λ p. (any p.0 ≡ true) × (length p.1 ≡ n - 1)) (λ p. ((p.0 ∷ []) ++ (n ∷ [])) ++ p.1) rule_of r (rule_words n r)
      to r h =
          record {
            from = (r.ligature, drop 1 r.components);
            holds = (refl, simp length-drop (omega (arith, h.0)));
            same = ap (λ (cs : List ℕ). record { components = cs; ligature = r.ligature }) (whole r.components h.0 h.1);
            written = refl;
          }

  abbrev OfRules : ℕ → List Rule → Type 0
  OfRules c set = (length set ≡ c) × Wide n set × Alike lead set

  pub ruled-takes : (c : ℕ) → Takes (OfRules c) (λ set. joined (map (rule_words n) set)) (ruled n lead c)
  unfolding ruled joined Wide Alike
  ruled-takes zero = record { on = on; back = λ k ws l e. record { value = []; good = (refl, tt, tt); rest = ws; split = refl; more = e } }
    where
      on : (set : List Rule) → OfRules zero set → (k : List Rule → Rest) (ws : List ℕ) → k [] (joined (map (rule_words n) set) ++ ws) ≡ k set ws
      on [] h k ws = refl
      on (r ∷ set) h k ws = absurd (omega (arith, h.0))
  ruled-takes (suc c) =
      said-takes (two-takes rule-takes (λ r h. ruled-takes c)) (λ p. p.0 ∷ p.1) (OfRules (suc c)) (λ set. joined (map (rule_words n) set)) to
      (λ p h. ((ap suc h.1.0, (h.0.0, h.1.1), (h.0.1, h.1.2)), refl))
    where
      to : (set : List Rule) → OfRules (suc c) set
          → Said {A = Rule × List Rule} (λ p. OfRule p.0 × OfRules c p.1) (λ p. rule_words n p.0 ++ joined (map (rule_words n) p.1)) (λ p. p.0 ∷ p.1) set
          (joined (map (rule_words n) set))
      to [] h = absurd (omega (arith, h.0))
      to (r ∷ set) h = record { from = (r, set); holds = ((h.1.0, h.2.0), (omega (arith, h.0), h.1.1, h.2.1)); same = refl; written = refl }

  -- ---- a set, with its count
  module _ (test : ℕ → Bool) where
    abbrev pub OfSet : List Rule → Type 0
    OfSet set = (test (length set) ≡ true) × Wide n set × Alike lead set

    pub set-takes : Takes OfSet (set_words n) (λ k. next test (λ c. grouped n lead c k))
    unfolding set_words
    set-takes =
        said-takes (two-takes (next-takes test) (λ c h. behind-takes (evenly c (2 + 2 * c) (2 + 2 * n)) (ruled-takes c))) (λ p. p.1) OfSet (set_words n)
        (λ set h. record { from = (length set, set); holds = (h.0, (refl, h.1, h.2)); same = refl; written = written set h.1 })
        (λ p h. ((rw h.1.0 h.0, h.1.1, h.1.2), back p.0 p.1 h.1.0 h.1.1))
      where
        written : (set : List Rule) → Wide n set → set_words n set ≡ length set ∷ (evenly (length set) (2 + 2 * length set) (2 + 2 * n) ++ joined (map (rule_words n) set))
        written set w = rw (offsets-rules n low set (2 + 2 * length set) w)

        back : (c : ℕ) (set : List Rule) → length set ≡ c → Wide n set → c ∷ (evenly c (2 + 2 * c) (2 + 2 * n) ++ joined (map (rule_words n) set)) ≡ set_words n set
        back c set e w = rw (← e) (sym (written set w))
