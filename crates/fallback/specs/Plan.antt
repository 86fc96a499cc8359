-- The fallback plan (document 01: "The plan follows 001's order, zero masks skipped"): `Ligatures`, `Inputs`, `inputs_of` what is lent; `inputs_lent` the same from the parameters of a call; `formed`, `four_forms`, `shaped`, `ligated` the entry of a form, and that of a list of ligatures; `unicode` the seven entries by Unicode's presentation forms; `plan` the entries of a plan, Windows-1256 second.
-- Assumes nothing.
use Rattle.std.specs.Prelude.{cond, List, ◌++◌, ℕ, eqb, length, get_or}
use Rattle.laws.specs.Lent.{Borrowed}
use Rattle.layouts.specs.declared.Kind.TheVariants.{Single, Ligature}
use Rattle.fonts.specs.Font.{Font, font_of}
use Rattle.synthesis.specs.Rules.{rows, ruled, in_order}
use Rattle.drafts.specs.Features.{rlig_of, ignore_marks}
use Rattle.drafts.specs.Entries.{Entry, entry}
use Rattle.windows.specs.Windows.{direct}

-- a list of ligatures: its components, one row behind the other, and what stands for them, all of them codes
pub record Ligatures : Type 0 where
  pub components : List ℕ
  pub ligatures : List ℕ

-- masks for init, medi, fina, isol, rlig; the font's map; shaping rows, a code and four forms each; the lists of ligatures of three components, of two, and of marks
pub record Inputs : Type 0 where
  pub masks : List ℕ
  pub font : Font
  pub shaping : List ℕ
  pub forms : List ℕ
  pub threes : Ligatures
  pub twos : Ligatures
  pub marks : Ligatures

-- the columns by their names, in the order in which they are lent
abbrev pub inputs_of : List ℕ → List ℕ → List ℕ → List ℕ → List ℕ → List ℕ → List ℕ → List ℕ → List ℕ → List ℕ → List ℕ → Inputs
inputs_of masks codes glyphs shaping forms components3 ligatures3 components2 ligatures2 mark_components mark_ligatures =
    record {
      masks = masks;
      font = font_of codes glyphs;
      shaping = shaping;
      forms = forms;
      threes = record { components = components3; ligatures = ligatures3 };
      twos = record { components = components2; ligatures = ligatures2 };
      marks = record { components = mark_components; ligatures = mark_ligatures };
    }

-- the same of columns that a call is lent
abbrev pub inputs_lent : List ℕ → Borrowed ℕ → Borrowed ℕ → Borrowed ℕ → Borrowed ℕ → Borrowed ℕ → Borrowed ℕ → Borrowed ℕ → Borrowed ℕ → Borrowed ℕ → Borrowed ℕ → Inputs
inputs_lent masks codes glyphs shaping forms components3 ligatures3 components2 ligatures2 mark_components mark_ligatures =
    inputs_of masks codes.entry.now glyphs.entry.now shaping.entry.now forms.entry.now components3.entry.now ligatures3.entry.now components2.entry.now ligatures2.entry.now
    mark_components.entry.now
    mark_ligatures.entry.now

-- "A shaping row has the forms init, medi, fina, isol": the lookup of form k, under the mask at the same place
abbrev pub formed : List ℕ → Font → List ℕ → List ℕ → ℕ → List Entry
formed masks f shaping forms k = entry (get_or masks k 0) ignore_marks Single (in_order (ruled f Single (rows (length shaping) 1 4 k shaping forms)))

-- those of all four forms
abbrev pub four_forms : List ℕ → Font → List ℕ → List ℕ → List Entry
four_forms masks f shaping forms =
    formed masks f shaping forms 0 ++ (formed masks f shaping forms 1 ++ (formed masks f shaping forms 2 ++ formed masks f shaping forms 3))

abbrev pub shaped : Inputs → ℕ → List Entry
shaped i k = formed i.masks i.font i.shaping i.forms k

-- a list of ligatures of n components
abbrev pub ligated : Inputs → ℕ → ℕ → Ligatures → List Entry
ligated i flags n list =
    entry (rlig_of i.masks) flags (Ligature n) (in_order (ruled i.font (Ligature n) (rows (length list.ligatures) n 1 0 list.components list.ligatures)))

-- "The ligature lists have N 3, 2, 2": ligatures of marks do not pass over marks
abbrev pub unicode : Inputs → List Entry
unicode i =
    shaped i 0
    ++ (shaped i 1
    ++ (shaped i 2
    ++ (shaped i 3
    ++ (ligated i ignore_marks 3 i.threes
    ++ (ligated i ignore_marks 2 i.twos
    ++ ligated i 0 2 i.marks)))))

-- "If no lookup results, the Windows-1256 signature is tested"
unfoldable pub plan : Inputs → List Entry
plan i = cond (eqb (length (unicode i)) 0) (direct i.masks i.font) (unicode i)
