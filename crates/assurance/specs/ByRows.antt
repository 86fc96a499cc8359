-- What the lookups of an accepted plan are, said over the lent rows and the font alone, by places: `Lent`, `code_at`, `form_at` rows as columns have them; `shaping_rows`, `ligature_rows`, `seven_lists` those of a plan; `Shows` that a font has a glyph for a code, `Gives` that a row gives a rule, `Used` that rows give a lookup; `rule_at` the rule at a place of a lookup, `OfRows` that a lookup has the rules of rows, `OfLists` that entries are those of lists of rows. By the statement of the call: `AsTheRows` which lookups are planned, and of which rules; `EveryPlaceHasRows` the same, said of the answer alone; `WindowsWithoutRows` what is planned where no row gives a rule.
-- Assumes nothing.
use Rattle.std.specs.Prelude.{◌≡◌, ◌⊎◌, ℕ, ◌+◌, ◌*◌, ◌<◌, ◌≤◌, length, get_or, take, drop}
use mathlib.Core.List.{List, [], ◌∷◌, Memᴰ}
use Rattle.refusals.specs.Numbers.{said}
use Rattle.layouts.specs.declared.Kind.{Kind}
use Rattle.layouts.specs.declared.Kind.TheVariants.{Single, Ligature}
use Rattle.layouts.specs.Tables.{Rule, first}
use Rattle.layouts.specs.Lookups.{Lookup, width}
use Rattle.fonts.specs.Font.{Font}
use Rattle.drafts.specs.Entries.{Entry, rule_limit}
use Rattle.windows.specs.Windows.{direct}
use Rattle.fallback.specs.Plan.{Ligatures, Inputs}
use Rattle.fallback.specs.Planned.{PlanAnswer, plan_said, Planning}
use Rattle.reading.specs.Read.{Columns, Answer, Reading}
use Rattle.fidelity.specs.Reading.{lookup_said}
use Rattle.assurance.specs.Planning.{Says}
use Rattle.assurance.specs.Lookups.{cut_out, most_glyphs}

-- ---- rows
-- so many rows for a lookup of a mask, flags and a kind: a column of codes, as many a row as the kind replaces, and one of what is to stand for them, `each` numbers a row, of which the one at `place` is meant
pub record Lent : Type 0 where
  pub mask : ℕ
  pub flags : ℕ
  pub kind : Kind
  pub count : ℕ
  pub codes : List ℕ
  pub forms : List ℕ
  pub each : ℕ
  pub place : ℕ

-- code j of row m, and the code that is to stand for its codes
abbrev pub code_at : Lent → ℕ → ℕ → ℕ
code_at l m j = get_or l.codes (width l.kind * m + j) 0

abbrev pub form_at : Lent → ℕ → ℕ
form_at l m = get_or l.forms (l.each * m + l.place) 0

-- "A shaping row has the forms init, medi, fina, isol": the code of row m is at m, its form k at 4 * m + k. The flag 8 is OpenType's IGNORE_MARKS
abbrev pub shaping_rows : Inputs → ℕ → Lent
shaping_rows i k =
    record { mask = get_or i.masks k 0; flags = 8; kind = Single; count = length i.shaping; codes = i.shaping; forms = i.forms; each = 4; place = k }

-- the components of row m are from n * m on, its ligature is at m; the mask is that of rlig
abbrev pub ligature_rows : Inputs → ℕ → ℕ → Ligatures → Lent
ligature_rows i flags n list =
    record { mask = get_or i.masks 4 0; flags = flags; kind = Ligature n; count = length list.ligatures; codes = list.components; forms = list.ligatures; each = 1; place = 0 }

-- init, medi, fina, isol; "The ligature lists have N 3, 2, 2", and that of marks does not ignore marks
abbrev pub seven_lists : Inputs → List Lent
seven_lists i =
    shaping_rows i 0 ∷ shaping_rows i 1 ∷ shaping_rows i 2 ∷ shaping_rows i 3 ∷
    ligature_rows i 8 3 i.threes ∷ ligature_rows i 8 2 i.twos ∷ ligature_rows i 0 2 i.marks ∷
    []

-- ---- the rule of a row
-- a glyph that a rule may use: c and g stand at one place of the font's columns, and "Glyphs above 65,535 count as absent in rules"
abbrev pub Shows : Font → ℕ → ℕ → Type 0
Shows f c g = (j : ℕ) × (j < length f.codes) × (get_or f.codes j 0 ≡ c) × (get_or f.glyphs j 0 ≡ g) × (g < 65536)

-- row m gives the rule r: its glyphs are the font's for the row's codes, one for one, and what stands for them is the font's glyph for the row's form. Of shaping rows alone: "only 0 means none", and "equal glyph and form are dropped"
pub record Gives (f : Font) (l : Lent) (m : ℕ) (r : Rule) : Type 0 where
  pub row : m < l.count
  pub wide : length r.components ≡ width l.kind
  pub from : (j : ℕ) → j < width l.kind → Shows f (code_at l m j) (get_or r.components j 0)
  pub to : Shows f (form_at l m) r.ligature
  pub formed : l.kind ≡ Single → form_at l m ≡ 0 → ⊥
  pub altered : l.kind ≡ Single → first r ≡ r.ligature → ⊥

-- there is a mask, and a row that gives a rule
abbrev pub Used : Font → Lent → Type 0
Used f l = (l.mask ≡ 0 → ⊥) × ((m : ℕ) × (r : Rule) × Gives f l m r)

-- ---- the rules of a lookup
-- that at place p of its list
abbrev pub rule_at : Lookup → ℕ → Rule
rule_at k p = record { components = take (width k.kind) (drop (width k.kind * p) k.glyphs); ligature = get_or k.substitutes p 0 }

-- the entry of rows: each place of its list has a row that gives the rule there, two places have two rows, and each row that gives a rule has a place. Rules of a smaller first glyph come first, those of equal first glyphs in the order of their rows
pub record OfRows (f : Font) (l : Lent) (e : Entry) : Type 0 where
  pub masked : e.mask ≡ l.mask
  pub flagged : e.lookup.flags ≡ l.flags
  pub named : e.lookup.kind ≡ l.kind
  pub whole : length e.lookup.glyphs ≡ length e.lookup.substitutes * width l.kind
  pub row_of : ℕ → ℕ
  pub given : (p : ℕ) → p < length e.lookup.substitutes → Gives f l (row_of p) (rule_at e.lookup p)
  pub once : (p q : ℕ) → p < q → q < length e.lookup.substitutes → row_of p ≡ row_of q → ⊥
  pub every : (m : ℕ) (r : Rule) → Gives f l m r → (p : ℕ) × (p < length e.lookup.substitutes) × (row_of p ≡ m) × (rule_at e.lookup p ≡ r)
  pub ordered :
      (p q : ℕ) → p < q → q < length e.lookup.substitutes
      → (first (rule_at e.lookup p) < first (rule_at e.lookup q)) ⊎ ((first (rule_at e.lookup p) ≡ first (rule_at e.lookup q)) × (row_of p < row_of q))

-- entries of lists of rows, in their order: one of each that is used, and none of any other
pub data OfLists (f : Font) : List Lent → List Entry → Type 0 where
  end : OfLists f [] []
  used : {l : Lent} {e : Entry} {ls : List Lent} {es : List Entry} → Used f l → OfRows f l e → OfLists f ls es → OfLists f (l ∷ ls) (e ∷ es)
  unused : {l : Lent} {ls : List Lent} {es : List Entry} → (Used f l → ⊥) → OfLists f ls es → OfLists f (l ∷ ls) es

-- ---- by the statement of the call
-- Where one of the seven lists is used, an accepted call answers entries of the seven lists: a lookup of each that is used, and no other; in it each row that gives a rule once, and no other rule.
abbrev pub AsTheRows : Type 0
AsTheRows =
    (i : Inputs) (area : List ℕ) (r : PlanAnswer) (left : List ℕ) → Planning i area r left → said r ≡ 0
    → (l : Lent) → Memᴰ l (seven_lists i) → Used i.font l
    → (es : List Entry) × Says es r left × OfLists i.font (seven_lists i) es

-- So whoever has only the answer and the area, and columns for any list, reads at each place below the count the rules of one of the lists that are used, under the mask answered there.
abbrev pub EveryPlaceHasRows : Type 0
EveryPlaceHasRows =
    (i : Inputs) (area : List ℕ) (r : PlanAnswer) (left : List ℕ) → Planning i area r left → said r ≡ 0
    → (l : Lent) → Memᴰ l (seven_lists i) → Used i.font l
    → (k : ℕ) → k < (plan_said r).count → (c : Columns) → most_glyphs ≤ length c.glyphs → rule_limit ≤ length c.substitutes
    → (a : Answer) (list : Columns) → Reading (cut_out k r left) c a list
    → (said a ≡ 0)
    × ((m : Lent) × Memᴰ m (seven_lists i) × Used i.font m × OfRows i.font m (record { mask = get_or (plan_said r).masks k 0; lookup = lookup_said a list }))

-- Where none of the seven is used, it answers what is planned for a Windows-1256 font if it is one, and else nothing.
abbrev pub WindowsWithoutRows : Type 0
WindowsWithoutRows =
    (i : Inputs) (area : List ℕ) (r : PlanAnswer) (left : List ℕ) → Planning i area r left → said r ≡ 0
    → ((l : Lent) → Memᴰ l (seven_lists i) → Used i.font l → ⊥) → Says (direct i.masks i.font) r left
