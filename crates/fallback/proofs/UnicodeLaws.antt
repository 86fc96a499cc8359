-- The plan by Unicode: the forms below one, entry behind entry, as the loop makes them (`forming`, `form-more`, `forms-made`).
-- Assumes nothing.
use mathlib.Core.Path.{◌≡◌}
use mathlib.Core.List.{List, [], ◌++◌, append_assoc}
use Prim.Native.Nat.{ℕ, zero, suc, ◌+◌, ◌*◌, ◌≤◌}
use native.Mathlib.Numerals.{add-one}
use native.Mathlib.Omega.{arith}
use lib.ListN.{length}
use Rattle.fonts.specs.Font.{Font}
use Rattle.drafts.specs.declared.Draft.{Draft}
use Rattle.drafts.specs.Entries.{Entry}
use Rattle.drafts.specs.Drafted.{Reached, Added}
use Rattle.drafts.proofs.DraftLaws.{reached-more}
use Rattle.fallback.specs.Plan.{formed, four_forms}

-- ---- the loop over the forms
module _ (masks : List ℕ) (f : Font) (shaping forms : List ℕ) where
  -- the entries of the forms below k
  abbrev pub forming : ℕ → List Entry
  forming zero = []
  forming (suc k) = forming k ++ formed masks f shaping forms k

  forming-all : forming 4 ≡ four_forms masks f shaping forms
  forming-all = simp append_assoc

  pub forms-made :
      (k size : ℕ) {d : Draft} {scratch : List ℕ} → k ≤ 4 → 4 ≤ k → Reached (forming k) k (4114 * k) size d scratch
      → Reached (four_forms masks f shaping forms) 4 16456 size d scratch
  forms-made k size h g p =
      let z : k ≡ 4 = omega arith in
      rw (← forming-all) (rw z at p)

  pub form-more :
      (k size : ℕ) {d d' : Draft} {scratch scratch' : List ℕ} → Reached (forming k) k (4114 * k) size d scratch
      → Added (formed masks f shaping forms k) 4114 d scratch d' scratch' → length scratch' ≡ length scratch
      → Reached (forming (k + 1)) (k + 1) (4114 * (k + 1)) size d' scratch'
  form-more k size p a e =
      let q = reached-more p a e in
      rw (add-one k)
      (record { few = omega (arith, q.few); short = omega (arith, q.short); sized = q.sized; drafted = q.drafted })
