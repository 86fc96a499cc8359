-- What the lookups of a plan are made of: `Origin`, `origin_of` a mask, the flags and the kind of a lookup, and its rules, not yet in order; `formed` those of a form, `joined` those of a list of ligatures; `lent` the seven by Unicode's presentation forms, `tables` the five for Windows-1256, `origins` those of a plan; `rules_of` the rules of a lookup; `From` that an entry is made of an origin, `Made` that entries are made of origins.
-- Assumes nothing.
use Rattle.std.specs.Prelude.{◌≡◌, cond, ◌⊎◌, List, [], ◌∷◌, ℕ, eqb, length, get_or}
use Rattle.layouts.specs.declared.Kind.{Kind}
use Rattle.layouts.specs.declared.Kind.TheVariants.{Single, Ligature}
use Rattle.layouts.specs.Tables.{Rule, first}
use Rattle.layouts.specs.Lookups.{Lookup, width, rules}
use Rattle.ordering.specs.Order.{Stable}
use Rattle.synthesis.specs.Rules.{rows, ruled}
use Rattle.drafts.specs.Features.{init_of, medi_of, fina_of, rlig_of, ignore_marks}
use Rattle.drafts.specs.Entries.{Entry}
use Rattle.windows.specs.Tables.{initial, medial, final, lam_alef, shadda}
use Rattle.windows.specs.Windows.{signed}
use Rattle.fallback.specs.Plan.{Ligatures, Inputs, unicode}

pub record Origin : Type 0 where
  pub mask : ℕ
  pub flags : ℕ
  pub kind : Kind
  pub rules : List Rule

abbrev pub origin_of : ℕ → ℕ → Kind → List Rule → Origin
origin_of mask flags kind rules = record { mask = mask; flags = flags; kind = kind; rules = rules }

-- the rules that the shaping rows give for form k, under the mask at the same place
abbrev pub formed : Inputs → ℕ → Origin
formed i k = origin_of (get_or i.masks k 0) ignore_marks Single (ruled i.font Single (rows (length i.shaping) 1 4 k i.shaping i.forms))

-- the rules that a list of ligatures of n components gives
abbrev pub joined : Inputs → ℕ → ℕ → Ligatures → Origin
joined i flags n list =
    origin_of (rlig_of i.masks) flags (Ligature n) (ruled i.font (Ligature n) (rows (length list.ligatures) n 1 0 list.components list.ligatures))

-- init, medi, fina, isol; "The ligature lists have N 3, 2, 2"
abbrev pub lent : Inputs → List Origin
lent i =
    formed i 0 ∷ formed i 1 ∷ formed i 2 ∷ formed i 3 ∷
    joined i ignore_marks 3 i.threes ∷ joined i ignore_marks 2 i.twos ∷ joined i 0 2 i.marks ∷
    []

abbrev pub tables : List ℕ → List Origin
tables masks =
    origin_of (rlig_of masks) ignore_marks (Ligature 2) lam_alef ∷
    origin_of (init_of masks) ignore_marks Single initial ∷
    origin_of (medi_of masks) ignore_marks Single medial ∷
    origin_of (fina_of masks) ignore_marks Single final ∷
    origin_of (rlig_of masks) 0 (Ligature 2) shadda ∷
    []

-- where no Unicode lookup results, the tables of a font with the signature; else what is lent
abbrev pub origins : Inputs → List Origin
origins i = cond (eqb (length (unicode i)) 0) (cond (signed i.font) (tables i.masks) []) (lent i)

-- the rules that the two columns of a lookup hold; those of a single lookup have one component
abbrev pub rules_of : Lookup → List Rule
rules_of l = rules (width l.kind) l.glyphs l.substitutes

-- its mask, flags and kind, and its rules in stable order by first glyph: first glyphs do not fall, rules of equal first glyphs keep their order, none is lost and none invented
pub record From (o : Origin) (e : Entry) : Type 0 where
  pub masked : e.mask ≡ o.mask
  pub flagged : e.lookup.flags ≡ o.flags
  pub named : e.lookup.kind ≡ o.kind
  pub ordered : Stable first o.rules (rules_of e.lookup)

-- entries made of origins, in their order: one of each that has a mask and a rule, and none of any other
pub data Made : List Origin → List Entry → Type 0 where
  end : Made [] []
  used : {o : Origin} {e : Entry} {os : List Origin} {es : List Entry} → (o.mask ≡ 0 → ⊥) → (length o.rules ≡ 0 → ⊥) → From o e → Made os es → Made (o ∷ os) (e ∷ es)
  skipped : {o : Origin} {os : List Origin} {es : List Entry} → (o.mask ≡ 0) ⊎ (length o.rules ≡ 0) → Made os es → Made (o ∷ os) es
