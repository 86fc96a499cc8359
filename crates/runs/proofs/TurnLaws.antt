-- A turn of a loop that goes over a line in the order of the work, of any line that has the columns which the loop reads (`next-at`): of the one that seeks the next run, of the one that sums a run, and of the one that sums a word.
-- Assumes nothing.
use mathlib.Core.Path.{◌≡◌, sym, ap, ◌∙◌}
use mathlib.Core.Bool.{Bool, true, false}
use mathlib.Core.List.{List, [], ◌∷◌}
use Prim.Native.Nat.{ℕ, ◌+◌, ◌≤◌, ◌<◌}
use native.Mathlib.Omega.{arith}
use lib.ListN.{length, get_or, drop}
use lib.IntN.{ℤ, pos}
use lib.Signed.{mag}
use mir.Syntax.{w32}
use mir.Val.{to_z, of_z}
use Rattle.letters.specs.Actions.{fixed, repeating}
use Rattle.fitting.specs.Saturating.{sat_add_lem}
use Rattle.fitting.proofs.SignedLaws.{back, ret, sat_add-fits}
use Rattle.runs.specs.Records.{Record, Columns, record_at}
use Rattle.runs.specs.Runs.{tile_action, plain, in_word, word_numbers, run, sum}
use Rattle.runs.specs.Stretched.{work, part_of}
use Rattle.runs.specs.Measured.{Lent, sums_of, word_sum}
use Rattle.runs.specs.declared.Sums.{Sums}
use Rattle.runs.proofs.RecordLaws.{work-next, work-ends}
use Rattle.runs.proofs.RunLaws.{tile-none, Summing, summing_fixed, summing_repeating, summing_ends, advances_of, word_more, word-ends}

-- what a saturating sum of a local and of an element leaves in a local
pub summed : (x : ℕ) (y z r : ℤ) → mag y < 2147483648 → y ≡ z → r ≡ sat_add_lem (to_z w32 x) (to_z w32 (of_z w32 y)) → to_z w32 (of_z w32 r) ≡ sat_add_lem (to_z w32 x) z
summed x y z r f e s =
    ret (sat_add-fits (to_z w32 x) z) (s ∙ ap (sat_add_lem (to_z w32 x)) (back (record { sfits = f }) ∙ e))

-- what a loop carries that sums a run
abbrev pub SumsFrom : Bool → ℕ → List ℤ → List ℕ → ℕ → ℤ → ℤ → ℕ → Type 0
SumsFrom rtl from widths actions k f p n =
    (c : Columns) → c.widths ≡ widths → c.actions ≡ actions → Summing from (drop from (work rtl c)) k (drop k (work rtl c)) f p n

-- what a loop carries that sums a word
abbrev pub WordFrom : Bool → ℕ → List ℕ → List ℕ → List ℕ → List ℤ → ℕ → ℤ → Type 0
WordFrom rtl from categories ignorables actions advances k so =
    (c : Columns) → Lent c c.widths categories ignorables actions advances → word_sum (drop from (work rtl c)) ≡ sum so (advances_of (drop k (work rtl c)))

-- what a loop carries that seeks a run and is at k: of any line with these actions, as many plain records as there are from the first place on
abbrev pub NextFrom : Bool → ℕ → List ℕ → ℕ → Type 0
NextFrom rtl from actions k =
    (c : Columns) → c.actions ≡ actions → from + length (plain (drop from (work rtl c))) ≡ k + length (plain (drop k (work rtl c)))

-- the loop is at k, and i is that place of the line
module _ (rtl : Bool) (c : Columns) (actions : List ℕ) (e : c.actions ≡ actions) (k i : ℕ) (h : k < length actions) (s : i ≡ part_of rtl (length actions) k 1) where
  pub next-at : drop k (work rtl c) ≡ record_at c i ∷ drop (k + 1) (work rtl c)
  next-at =
      work-next rtl c k (rw e h)
      ∙ ap (λ (j : ℕ). record_at c j ∷ drop (k + 1) (work rtl c)) (ap (λ (l : List ℕ). part_of rtl (length l) k 1) e ∙ sym s)

  pub action-at : (record_at c i).action ≡ get_or actions i 0
  action-at = ap (λ (l : List ℕ). get_or l i 0) e

  -- ---- seeking a run
  pub plain_turn : tile_action (get_or actions i 0) ≡ false → k + length (plain (drop k (work rtl c))) ≡ k + 1 + length (plain (drop (k + 1) (work rtl c)))
  plain_turn t = rw (next-at, action-at, t) (omega arith)

  pub plain-stops : tile_action (get_or actions i 0) ≡ true → k + length (plain (drop k (work rtl c))) ≡ k
  plain-stops t = rw (next-at, action-at, t) (omega arith)

  -- ---- summing a run
  module _ (from : ℕ) (widths : List ℤ) (g : c.widths ≡ widths) (f p : ℤ) (n : ℕ) (kept : Summing from (drop from (work rtl c)) k (drop k (work rtl c)) f p n) where
    kept_at : Summing from (drop from (work rtl c)) k (record_at c i ∷ drop (k + 1) (work rtl c)) f p n
    kept_at = rw next-at at kept

    width-at : (record_at c i).width ≡ get_or widths i (pos 0)
    width-at = ap (λ (l : List ℤ). get_or l i (pos 0)) g

    pub fixed_turn : get_or actions i 0 ≡ fixed → Summing from (drop from (work rtl c)) (k + 1) (drop (k + 1) (work rtl c)) (sat_add_lem f (get_or widths i (pos 0))) p n
    fixed_turn t = rw width-at at (summing_fixed kept_at (action-at ∙ t))

    pub repeating_turn : get_or actions i 0 ≡ repeating → Summing from (drop from (work rtl c)) (k + 1) (drop (k + 1) (work rtl c)) f (sat_add_lem p (get_or widths i (pos 0))) (n + 1)
    repeating_turn t = rw width-at at (summing_repeating kept_at (action-at ∙ t))

    pub run-stops : (get_or actions i 0 ≡ fixed → ⊥) → (get_or actions i 0 ≡ repeating → ⊥) → ◌≡◌ {A = Sums} record { fixed = f; repeating = p; tiles = n; past = k } (sums_of from (drop from (work rtl c)))
    run-stops t u = sym (summing_ends kept (ap run next-at ∙ rw (action-at, tile-none t u)))

  -- ---- summing a word
  module _ (categories ignorables : List ℕ) (advances : List ℤ) (lent : Lent c c.widths categories ignorables actions advances) (so : ℤ) (b : Bool) (t : b ≡ word_numbers (get_or actions i 0) (get_or categories i 0) (get_or ignorables i 0)) where
    in_word-at : in_word (record_at c i) ≡ b
    in_word-at = rw (lent.has_actions, lent.has_categories, lent.has_ignorables) (sym t)

    pub word_turn : b ≡ true → sum so (advances_of (drop k (work rtl c))) ≡ sum (sat_add_lem so (get_or advances i (pos 0))) (advances_of (drop (k + 1) (work rtl c)))
    word_turn y = ap (λ (l : List Record). sum so (advances_of l)) next-at ∙ word_more so (record_at c i) (drop (k + 1) (work rtl c)) (in_word-at ∙ y) ∙ rw lent.has_advances

    pub word-stops : b ≡ false → sum so (advances_of (drop k (work rtl c))) ≡ so
    word-stops y = ap (λ (l : List Record). sum so (advances_of l)) next-at ∙ word-ends so (record_at c i) (drop (k + 1) (work rtl c)) (in_word-at ∙ y)

-- the line is at its end
module _ (rtl : Bool) (c : Columns) (actions : List ℕ) (e : c.actions ≡ actions) (k : ℕ) (h : length actions ≤ k) where
  ends_at : drop k (work rtl c) ≡ []
  ends_at = work-ends rtl c k (rw e h)

  pub plain_over : k + length (plain (drop k (work rtl c))) ≡ k
  plain_over = rw ends_at (omega arith)

  pub run-over : (from : ℕ) (f p : ℤ) (n : ℕ) → Summing from (drop from (work rtl c)) k (drop k (work rtl c)) f p n → ◌≡◌ {A = Sums} record { fixed = f; repeating = p; tiles = n; past = k } (sums_of from (drop from (work rtl c)))
  run-over from f p n kept = sym (summing_ends kept (ap run ends_at))

  pub word_over : (s : ℤ) → sum s (advances_of (drop k (work rtl c))) ≡ s
  unfolding sum
  word_over s = rw ends_at
