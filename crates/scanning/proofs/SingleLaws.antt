-- Of single lookups: the scan takes those whose glyphs rise and fit and whose offset of the coverage is of 16 bits (`single-on`), and no other (`single-back`, `SingleRead`).
-- Assumes nothing.
use mathlib.Core.Path.{◌≡◌, refl, sym, ◌∙◌}
use mathlib.Core.Bool.{true}
use mathlib.Core.List.{List, [], ◌∷◌, ◌++◌}
use Prim.Native.Nat.{ℕ, ◌+◌, ◌*◌, ◌≤◌}
use lib.ListN.{length}
use Rattle.refusals.specs.Columns.{rising}
use Rattle.layouts.specs.declared.Kind.TheVariants.{Single}
use Rattle.layouts.specs.Tables.{single}
use Rattle.layouts.specs.Lookups.{Lookup, lookup_of, fits}
use Rattle.scanning.specs.Scans.{fine, any, exactly, several}
use Rattle.scanning.specs.Grammar.{headed, counted, covered, most_single, single_scan}
use Rattle.scanning.proofs.TakeLaws.{Takes, two-takes, behind-takes, several-takes, ends, ended}
use Rattle.scanning.proofs.HeadLaws.{headed-takes, counted-takes, covered-takes}

-- flags, how many, substitutes, glyphs; and the lookup that they make
abbrev Parts : Type 0
Parts = ℕ × (ℕ × (List ℕ × List ℕ))

abbrev said_by : Parts → Lookup
said_by p = lookup_of p.0 Single p.1.1.1 p.1.1.0

-- what is read: a single lookup, whose columns belong together, whose glyphs rise, and whose words these are
pub record SingleRead (apart : ℕ) (ws : List ℕ) (l : Lookup) : Type 0 where
  pub kind : l.kind ≡ Single
  pub even : length l.glyphs ≡ length l.substitutes
  pub up : rising apart l.glyphs ≡ true
  pub made : ws ≡ single l.flags l.glyphs l.substitutes

module _ (apart : ℕ) where
  abbrev Good : Parts → Type 0
  Good p =
      (any p.0 ≡ true) × ((p.1.0 ≤ most_single) × ((length p.1.1.0 ≡ p.1.0) × ((length p.1.1.1 ≡ p.1.0) × (rising apart p.1.1.1 ≡ true) × (fits p.1.1.1 ≡ true))))

  abbrev words_in : Parts → List ℕ
  words_in p = 1 ∷ p.0 ∷ 1 ∷ 8 ∷ 2 ∷ (6 + 2 * p.1.0) ∷ p.1.0 ∷ (p.1.1.0 ++ (1 ∷ p.1.0 ∷ p.1.1.1))

  single-takes :
      Takes Good words_in (λ k. headed 1 (λ flags. exactly (2 ∷ []) (counted most_single (λ n. several n (λ substitutes. covered apart n (λ glyphs. k (flags, (n, (substitutes, glyphs)))))))))
  single-takes =
      two-takes (headed-takes 1)
      (λ flags f. behind-takes (2 ∷ []) (two-takes (counted-takes most_single) (λ n c. two-takes (several-takes n) (λ substitutes s. covered-takes apart n))))

  pub single-on :
      (flags : ℕ) (glyphs substitutes : List ℕ) → length glyphs ≡ length substitutes → length substitutes ≤ most_single → rising apart glyphs ≡ true → fits glyphs ≡ true
      → single_scan apart (single flags glyphs substitutes) ≡ fine (lookup_of flags Single glyphs substitutes)
  unfolding single_scan single
  single-on flags glyphs substitutes same few up fit =
      rw same (ends single-takes said_by (flags, (length substitutes, (substitutes, glyphs))) (refl, (few, (refl, (same, up, fit)))))

  pub single-back : (ws : List ℕ) (l : Lookup) → single_scan apart ws ≡ fine l → SingleRead apart ws l
  unfolding single_scan single
  single-back ws l e =
      let m = ended single-takes said_by ws l e in
      rw m.says at (go m.value m.good m.made)
    where
      go : (p : Parts) → Good p → ws ≡ words_in p → SingleRead apart ws (said_by p)
      go p h e =
          let g = h.1.1 in
          record { kind = refl; even = g.1.0 ∙ sym g.0; up = g.1.1; made = rw (g.0, g.1.0) e }
