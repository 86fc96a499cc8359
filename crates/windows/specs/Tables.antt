-- The rules for fonts that encode Arabic by Windows-1256 (001, `WIN1256_..`): `_becomes_` a rule of one glyph, `◌beside◌becomes◌` one of two; `initial`, `medial`, `final` the forms of glyphs; `lam_alef`, `shadda` the ligatures. Their glyphs are those of Windows-1256 and of the places beside them that such fonts use.
-- Assumes nothing.
use Rattle.std.specs.Prelude.{List, [], ◌∷◌, ℕ}
use Rattle.layouts.specs.Tables.{Rule}

infixl 20 ◌becomes◌
abbrev pub ◌becomes◌ : ℕ → ℕ → Rule
g becomes form = record { components = g ∷ []; ligature = form }

infixl 20 ◌beside◌becomes◌
abbrev pub ◌beside◌becomes◌ : ℕ → ℕ → ℕ → Rule
g beside h becomes ligature = record { components = g ∷ h ∷ []; ligature = ligature }

abbrev pub initial : List Rule
initial =
    (198 becomes 162) ∷ (200 becomes 4) ∷ (201 becomes 5) ∷ (202 becomes 5) ∷ (203 becomes 6) ∷ (204 becomes 7) ∷ (205 becomes 9) ∷ (206 becomes 11) ∷
    (211 becomes 13) ∷ (212 becomes 14) ∷ (213 becomes 15) ∷ (214 becomes 26) ∷ (218 becomes 27) ∷ (219 becomes 30) ∷ (221 becomes 128) ∷ (222 becomes 131) ∷
    (223 becomes 140) ∷ (225 becomes 141) ∷ (227 becomes 142) ∷ (228 becomes 143) ∷ (229 becomes 144) ∷ (236 becomes 154) ∷ (237 becomes 154) ∷
    []

abbrev pub medial : List Rule
medial =
    (165 becomes 170) ∷ (178 becomes 179) ∷ (180 becomes 185) ∷ (198 becomes 162) ∷ (200 becomes 4) ∷ (201 becomes 5) ∷ (202 becomes 5) ∷ (203 becomes 6) ∷
    (204 becomes 7) ∷ (205 becomes 9) ∷ (206 becomes 11) ∷ (211 becomes 13) ∷ (212 becomes 14) ∷ (213 becomes 15) ∷ (214 becomes 26) ∷ (218 becomes 28) ∷
    (219 becomes 31) ∷ (221 becomes 129) ∷ (222 becomes 138) ∷ (223 becomes 140) ∷ (225 becomes 141) ∷ (227 becomes 142) ∷ (228 becomes 143) ∷ (229 becomes 149) ∷
    (236 becomes 154) ∷ (237 becomes 154) ∷ (252 becomes 255) ∷
    []

abbrev pub final : List Rule
final =
    (165 becomes 170) ∷ (178 becomes 179) ∷ (180 becomes 185) ∷ (194 becomes 2) ∷ (195 becomes 1) ∷ (197 becomes 3) ∷ (198 becomes 181) ∷ (199 becomes 0) ∷
    (201 becomes 159) ∷ (204 becomes 8) ∷ (205 becomes 10) ∷ (206 becomes 12) ∷ (218 becomes 29) ∷ (219 becomes 127) ∷ (229 becomes 152) ∷ (236 becomes 160) ∷
    (237 becomes 156) ∷ (252 becomes 255) ∷
    []

abbrev pub lam_alef : List Rule
lam_alef =
    (225 beside 199 becomes 165) ∷ (225 beside 195 becomes 178) ∷ (225 beside 194 becomes 180) ∷ (225 beside 197 becomes 252) ∷
    []

abbrev pub shadda : List Rule
shadda =
    (248 beside 243 becomes 172) ∷ (248 beside 245 becomes 173) ∷ (248 beside 246 becomes 175) ∷
    []
