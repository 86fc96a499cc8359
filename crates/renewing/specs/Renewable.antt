-- What the functions behind the tests of `replace_letter` ask of a line in its frame, once it is tested: `Renewable`; of the letters beside a record: `Beside`.
-- Assumes nothing.
use Rattle.std.specs.Prelude.{◌≡◌, List, ℕ, ◌+◌, length, take, drop}
use Rattle.shapes.specs.Joining.{latest, nearest}
use Rattle.joining.specs.Joinable.{Joinable}
use Rattle.lines.specs.declared.Frame.{Frame}
use Rattle.lines.specs.Held.{Line}

-- all columns are of one length, each type is one, and there are seven feature masks
pub record Renewable (f : Frame) (l : Line) : Type 0 where
  pub letters : Joinable l.letters.types l.letters.categories
  pub codes : length l.codes ≡ length l.letters.types
  pub base : length l.base ≡ length l.letters.types
  pub actions : length l.actions ≡ length l.letters.types
  pub masks : length l.masks ≡ length l.letters.types
  pub features : length f.features ≡ 7

-- in letters of the types ts, p and n are the nearest before and behind the record at k that are not transparent, in the line or past its ends
abbrev pub Beside : Frame → List ℕ → ℕ → ℕ → ℕ → Type 0
Beside f ts k p n = (p ≡ latest f.before.0 (take k ts)) × (n ≡ nearest (drop (k + 1) ts) f.behind.0)
