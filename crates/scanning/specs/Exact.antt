-- What reading back is exact against (document 01, "Reading back"): `kind_read`, `as_read` a lookup as it reads; `Readable` a lookup that the writer does not refuse, given room, and whose first glyphs do not fall; `IsWritten` that words are such a lookup's; `WrittenAs` that bytes are what the writer gives for it;
-- `Accepted`, `Written`, `Exact` that bytes are accepted exactly when they are what the writer gives for some list whose first glyphs do not fall.
-- Assumes nothing.
use Rattle.std.specs.Prelude.{◌≡◌, true, ◌↔◌, List, [], ◌∷◌, ℕ, ◌*◌, length}
use Rattle.refusals.specs.Columns.{rising}
use Rattle.words.specs.Words.{bytes}
use Rattle.layouts.specs.declared.Kind.{Kind}
use Rattle.layouts.specs.declared.Kind.TheVariants.{Single, Ligature}
use Rattle.layouts.specs.Lookups.{Lookup, lookup_of, width, known, words_of, firsts, fits}
use Rattle.layouts.specs.Written.{write_refusal}
use Rattle.scanning.specs.Scans.{fine}
use Rattle.scanning.specs.Grammar.{reading}

-- "An empty ligature list has the same bytes for both component numbers and reads with 2"
abbrev pub kind_read : Kind → List ℕ → Kind
kind_read Single substitutes = Single
kind_read (Ligature n) [] = Ligature 2
kind_read (Ligature n) (s ∷ substitutes) = Ligature n

abbrev pub as_read : Lookup → Lookup
as_read l = lookup_of l.flags (kind_read l.kind l.substitutes) l.glyphs l.substitutes

-- its columns belong together, its component number is known, its words fit, its first glyphs do not fall
pub record Readable (l : Lookup) : Type 0 where
  pub even : length l.glyphs ≡ length l.substitutes * width l.kind
  pub named : known l.kind ≡ true
  pub fit : fits (words_of l) ≡ true
  pub up : rising 0 (firsts l) ≡ true

-- words are those of a readable lookup, and it is as it reads: an empty list of ligatures is one of component number 2
pub record IsWritten (ws : List ℕ) (l : Lookup) : Type 0 where
  pub readable : Readable l
  pub made : ws ≡ words_of l
  pub same : as_read l ≡ l

-- bytes are what the writer gives for l, lent an area of their length, and its first glyphs do not fall
pub record WrittenAs (b : List ℕ) (l : Lookup) : Type 0 where
  pub unrefused : write_refusal l (length b) ≡ 0
  pub made : b ≡ bytes (words_of l)
  pub up : rising 0 (firsts l) ≡ true

-- "Bytes are accepted exactly when they are what the writer gives for some list whose first glyphs do not fall"
abbrev pub Accepted : List ℕ → Type 0
Accepted b = (l : Lookup) × (reading b ≡ fine l)

abbrev pub Written : List ℕ → Type 0
Written b = (l : Lookup) × WrittenAs b l

abbrev pub Exact : List ℕ → Type 0
Exact b = Accepted b ↔ Written b
