-- What an answer of the reader says: it is known by it (`same_answer`); with which number, and what of a lookup that was read (`list-said`, `same_kind`, `said-found`).
-- Assumes nothing.
use mathlib.Core.Path.{◌≡◌, refl, sym, ap, ap₂, ◌∙◌}
use Prim.Native.Nat.{ℕ, ◌*◌}
use native.Mathlib.Omega.{arith}
use lib.ListN.{length, take, drop}
use lib.Seq.{take_at}
use Rattle.std.specs.Prelude.{Ok, Err}
use Rattle.refusals.specs.Numbers.{said as number_said}
use Rattle.refusals.proofs.VerdictLaws.{same-said, refused_number}
use Rattle.layouts.specs.declared.Kind.{Kind}
use Rattle.layouts.specs.declared.Kind.TheVariants.{Single, Ligature}
use Rattle.layouts.specs.Lookups.{Lookup, width}
use Rattle.reading.specs.declared.Lookup as said
use Rattle.reading.specs.Read.{Columns, ReadOutcome, type_of, components_of_lem, found, Answer, outcome_said}
use Rattle.fidelity.specs.Reading.{count_said, glyphs_said, lookup_said}

pub list-said : (r : Answer) (c : Columns) → (outcome_said r c).list ≡ c
list-said (Ok m) c = refl
list-said (Err k) c = refl

-- a kind is known by its type and its component number
pub same_kind : (j k : Kind) → type_of j ≡ type_of k → components_of_lem j ≡ components_of_lem k → j ≡ k
same_kind Single Single e f = refl
same_kind Single (Ligature n) e f = absurd (omega arith)
same_kind (Ligature n) Single e f = absurd (omega arith)
same_kind (Ligature n) (Ligature m) e f = ap Ligature f

same-lookup : (m k : said.Lookup) → m.flags ≡ k.flags → m.len ≡ k.len → m.kind ≡ k.kind → m ≡ k
same-lookup m k e f g =
    ap₂ (λ (a b : ℕ). record { flags = a; len = b; kind = m.kind }) e f ∙ ap (λ (c : Kind). record { flags = k.flags; len = k.len; kind = c }) g

pub same_answer : (r u : Answer) (c d : Columns) → number_said r ≡ number_said u → outcome_said r c ≡ outcome_said u d → r ≡ u
same_answer (Ok m) (Ok k) c d e f =
    let kinds : m.kind ≡ k.kind = same_kind m.kind k.kind (ap (λ (o : ReadOutcome). o.type) f) (ap (λ (o : ReadOutcome). o.components) f) in
    let flag : m.flags ≡ k.flags = ap (λ (o : ReadOutcome). o.flags) f in
    let long : m.len ≡ k.len = ap (λ (o : ReadOutcome). o.count) f in
    ap Ok (same-lookup m k flag long kinds)
same_answer (Ok m) (Err k) c d e f = absurd (refused_number k (sym e))
same_answer (Err k) (Ok m) c d e f = absurd (refused_number k e)
same_answer (Err k) (Err j) c d e f =
    let v = same-said (Err k) (Err j) e in
    let same : k ≡ j = cc in
    ap Err same

-- an answer that says what was found of l says l
module _ (l : Lookup) (even : length l.glyphs ≡ length l.substitutes * width l.kind) (c : Columns) where
  pub record Said (r : Answer) (left : Columns) : Type 0 where
    pub lookup : lookup_said r left ≡ l
    pub count : count_said r ≡ length l.substitutes
    pub glyphs : glyphs_said r ≡ length l.glyphs

  pub said-found : (r : Answer) (left : Columns) → number_said r ≡ 0 → outcome_said r left ≡ found l c → Said r left
  said-found (Err k) left z f = absurd (refused_number k z)
  said-found (Ok m) left z f =
      let kinds : m.kind ≡ l.kind = same_kind m.kind l.kind (ap (λ (o : ReadOutcome). o.type) f) (ap (λ (o : ReadOutcome). o.components) f) in
      let flag : m.flags ≡ l.flags = ap (λ (o : ReadOutcome). o.flags) f in
      let long : m.len ≡ length l.substitutes = ap (λ (o : ReadOutcome). o.count) f in
      let many : m.len * width m.kind ≡ length l.glyphs = ap₂ (λ (n : ℕ) (k : Kind). n * width k) long kinds ∙ sym even in
      let gs : take (m.len * width m.kind) left.glyphs ≡ l.glyphs =
      ap (take (m.len * width m.kind)) (ap (λ (o : ReadOutcome). o.list.glyphs) f) ∙ take_at l.glyphs (drop (length l.glyphs) c.glyphs) (m.len * width m.kind) (sym many)
      in
      let ss : take m.len left.substitutes ≡ l.substitutes =
      ap (take m.len) (ap (λ (o : ReadOutcome). o.list.substitutes) f) ∙ take_at l.substitutes (drop (length l.substitutes) c.substitutes) m.len (sym long)
      in
      record { lookup = rw (gs, ss, flag, kinds); count = long; glyphs = many }
