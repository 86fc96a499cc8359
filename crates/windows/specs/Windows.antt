-- A font that encodes Arabic by Windows-1256, and its plan (document 01: "the Windows-1256 signature is tested and its five lookups follow"): `signed` whether a font has the signature; `windows` the five entries; `direct` what is planned for a font that gave no lookup.
-- Assumes nothing.
use Rattle.std.specs.Prelude.{Bool, cond, ◌&&◌, List, [], ◌++◌, ℕ, eqb}
use Rattle.layouts.specs.declared.Kind.TheVariants.{Single, Ligature}
use Rattle.fonts.specs.Font.{Font, glyph_of}
use Rattle.drafts.specs.Features.{init_of, medi_of, fina_of, rlig_of, ignore_marks}
use Rattle.drafts.specs.Entries.{Entry, entry}
use Rattle.windows.specs.Tables.{initial, medial, final, lam_alef, shadda}

-- Alef, Lam, Alef Maksura, Yeh and Sukun have the glyphs of Windows-1256, as whole numbers of 32 bits
unfoldable pub signed : Font → Bool
signed f =
    eqb (glyph_of f 0x0627) 199
    && (eqb (glyph_of f 0x0644) 225 && (eqb (glyph_of f 0x0649) 236 && (eqb (glyph_of f 0x064A) 237 && eqb (glyph_of f 0x0652) 250)))

-- isol is not used, and marks are not passed over where they are replaced
abbrev pub windows : List ℕ → List Entry
windows masks =
    entry (rlig_of masks) ignore_marks (Ligature 2) lam_alef
    ++ (entry (init_of masks) ignore_marks Single initial
    ++ (entry (medi_of masks) ignore_marks Single medial
    ++ (entry (fina_of masks) ignore_marks Single final
    ++ entry (rlig_of masks) 0 (Ligature 2) shadda)))

abbrev pub direct : List ℕ → Font → List Entry
direct masks f = cond (signed f) (windows masks) []
