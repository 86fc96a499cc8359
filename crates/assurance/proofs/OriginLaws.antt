-- A plan is its origins' entries, in their order (`kept`, `unicode-kept`, `plan-kept`): at most seven (`plan-few`). What each origin of a plan that is not refused has (`Sound`, `Ready`, `origins_ready`): rules of its kind's width, their numbers of 16 bits, and at most 1,024 of them.
-- Assumes nothing.
use mathlib.Core.Path.{◌≡◌, refl}
use mathlib.Core.Bool.{Bool, true, false, cond, ◌&&◌, ◌||◌}
use mathlib.Core.List.{List, [], ◌∷◌, ◌++◌, append-nil}
use Prim.Native.Nat.{ℕ, ◌*◌, ◌<◌, ◌≤◌}
use native.Mathlib.Omega.{arith}
use borrow.Author.Tests.{eqb-true, leb-true}
use lib.Dec.{eqb}
use lib.ListN.{length, length-append}
use Rattle.laws.proofs.TestLaws.{both}
use Rattle.layouts.specs.declared.Kind.{Kind}
use Rattle.layouts.specs.declared.Kind.TheVariants.{Single, Ligature}
use Rattle.layouts.specs.Tables.{Rule, first}
use Rattle.layouts.specs.Lookups.{width, known, listed, fits}
use Rattle.layouts.proofs.SetLaws.{Wide}
use Rattle.ordering.proofs.KeyLaws.{Each}
use Rattle.ordering.proofs.OrderLaws.{sorted-same}
use Rattle.synthesis.specs.Rules.{rows, usable, ruled, in_order}
use Rattle.synthesis.proofs.RuledLaws.{length-rows, Passing, ruled-few, ruled-usable, ruled-wide}
use Rattle.drafts.specs.Features.{ignore_marks}
use Rattle.drafts.specs.Entries.{Entry, entry, rule_limit}
use Rattle.windows.specs.Tables.{initial, medial, final, lam_alef, shadda}
use Rattle.windows.specs.Windows.{signed, windows}
use Rattle.fallback.specs.Plan.{Ligatures, Inputs, unicode, plan}
use Rattle.fallback.specs.Planned.{flat_by, even, limited, short}
use Rattle.assurance.specs.Origins.{Origin, formed, joined, lent, tables, origins}

-- ---- the entries of origins
-- the entry of an origin, if there is one
abbrev pub made_of : Origin → Entry
made_of o = record { mask = o.mask; lookup = listed o.flags o.kind (in_order o.rules) }

abbrev pub entry_of : Origin → List Entry
entry_of o = entry o.mask o.flags o.kind (in_order o.rules)

abbrev pub kept : List Origin → List Entry
kept [] = []
kept (o ∷ os) = entry_of o ++ kept os

-- the tables are in order as they are
windows-kept : (masks : List ℕ) → windows masks ≡ kept (tables masks)
windows-kept masks =
    rw (
      sorted-same first lam_alef refl,
      sorted-same first initial refl,
      sorted-same first medial refl,
      sorted-same first final refl,
      sorted-same first shadda refl,
      append-nil,
    )

pub unicode-kept : (i : Inputs) → unicode i ≡ kept (lent i)
unicode-kept i = rw append-nil

pub plan-kept : (i : Inputs) → plan i ≡ kept (origins i)
unfolding plan
plan-kept i = go (eqb (length (unicode i)) 0) (signed i.font)
  where
    go : (t s : Bool) → cond t (cond s (windows i.masks) []) (unicode i) ≡ kept (cond t (cond s (tables i.masks) []) (lent i))
    go true true = windows-kept i.masks
    go true false = refl
    go false s = unicode-kept i

-- at most one entry each
entry-few : (o : Origin) → length (entry_of o) ≤ 1
entry-few o = go (eqb o.mask 0 || eqb (length (in_order o.rules)) 0) (made_of o)
  where
    go : (t : Bool) (e : Entry) → length (cond t [] (e ∷ [])) ≤ 1
    go true e = omega arith
    go false e = omega arith

kept-few : (os : List Origin) → length (kept os) ≤ length os
kept-few [] = omega arith
kept-few (o ∷ os) = omega (arith, length-append (entry_of o) (kept os), entry-few o, kept-few os)

pub plan-few : (i : Inputs) → length (plan i) ≤ 7
plan-few i = rw plan-kept (omega (arith, kept-few (origins i), go (eqb (length (unicode i)) 0) (signed i.font)))
  where
    go : (t s : Bool) → length (cond t (cond s (tables i.masks) []) (lent i)) ≤ 7
    go true true = omega arith
    go true false = omega arith
    go false s = omega arith

-- ---- the rules of origins
-- a rule of n components, all of its numbers of 16 bits
abbrev pub Sound : ℕ → Rule → Type 0
Sound n r = (length r.components ≡ n) × (usable r ≡ true)

pub record Ready (o : Origin) : Type 0 where
  pub flag : o.flags < 65536
  pub named : known o.kind ≡ true
  pub sound : Each (Sound (width o.kind)) o.rules
  pub few : length o.rules ≤ rule_limit

each-sound : (n : ℕ) (rs : List Rule) → Wide n rs → Passing usable rs → Each (Sound n) rs
unfolding Wide Passing
each-sound n [] w p = tt
each-sound n (r ∷ rs) w p = ((w.0, p.0), each-sound n rs w.1 p.1)

-- those of a table, by one computed test
abbrev tested : ℕ → List Rule → Bool
tested n [] = true
tested n (r ∷ rs) = (eqb (length r.components) n && usable r) && tested n rs

tested-sound : (n : ℕ) (rs : List Rule) → tested n rs ≡ true → Each (Sound n) rs
tested-sound n [] e = tt
tested-sound n (r ∷ rs) e =
    let p = both (eqb (length r.components) n && usable r) (tested n rs) e in
    let q = both (eqb (length r.components) n) (usable r) p.0 in
    ((eqb-true (length r.components) n q.0, q.1), tested-sound n rs p.1)

-- ---- what is lent
module _ (i : Inputs) where
  given_ready :
      (mask flags : ℕ) (kind : Kind) (count each k : ℕ) (cs ls : List ℕ) → flags < 65536 → known kind ≡ true → count * width kind ≤ length cs → count ≤ rule_limit
      → Ready (record { mask = mask; flags = flags; kind = kind; rules = ruled i.font kind (rows count (width kind) each k cs ls) })
  given_ready mask flags kind count each k cs ls f n w h =
      let all : List Rule = rows count (width kind) each k cs ls in
      record {
        flag = f;
        named = n;
        sound = each-sound (width kind) (ruled i.font kind all) (ruled-wide i.font kind count (width kind) each k cs ls w) (ruled-usable i.font kind all);
        few = omega (arith, ruled-few i.font kind all, length-rows count (width kind) each k cs ls);
      }

  formed_ready : (k : ℕ) → limited i.shaping ≡ true → Ready (formed i k)
  formed_ready k s =
      given_ready _ ignore_marks Single (length i.shaping) 4 k i.shaping i.forms (omega arith) refl (omega arith) (leb-true (length i.shaping) rule_limit s)

  joined_ready :
      (flags n : ℕ) (list : Ligatures) → flags < 65536 → known (Ligature n) ≡ true → flat_by n list.components list.ligatures ≡ true → limited list.ligatures ≡ true → Ready (joined i flags n list)
  joined_ready flags n list f k e s =
      given_ready _ flags (Ligature n) (length list.ligatures) 1 0 list.components list.ligatures f k
      (omega (arith, eqb-true (length list.components) (length list.ligatures * n) e))
      (leb-true (length list.ligatures) rule_limit s)

  lent_ready : even i ≡ true → short i ≡ true → Each Ready (lent i)
  lent_ready e s =
      let a = (both (eqb (length i.font.codes) (length i.font.glyphs)) _ e).1 in
      let b = (both (flat_by 4 i.forms i.shaping) _ a).1 in
      let c = both (flat_by 3 i.threes.components i.threes.ligatures) _ b in
      let d = both (flat_by 2 i.twos.components i.twos.ligatures) (flat_by 2 i.marks.components i.marks.ligatures) c.1 in
      let p = both (limited i.shaping) _ s in
      let q = both (limited i.threes.ligatures) _ p.1 in
      let u = both (limited i.twos.ligatures) (limited i.marks.ligatures) q.1 in (
        formed_ready 0 p.0,
        (
          formed_ready 1 p.0,
          (
            formed_ready 2 p.0,
            (
              formed_ready 3 p.0,
              (
                joined_ready ignore_marks 3 i.threes (omega arith) refl c.0 q.0,
                (
                  joined_ready ignore_marks 2 i.twos (omega arith) refl d.0 u.0,
                  (joined_ready 0 2 i.marks (omega arith) refl d.1 u.1, tt),
                ),
              ),
            ),
          ),
        ),
      )

-- ---- the tables
table_ready :
    (mask flags : ℕ) (kind : Kind) (rules : List Rule) → flags < 65536 → known kind ≡ true → tested (width kind) rules ≡ true → length rules ≤ rule_limit
    → Ready (record { mask = mask; flags = flags; kind = kind; rules = rules })
table_ready mask flags kind rules f n t h = record { flag = f; named = n; sound = tested-sound (width kind) rules t; few = h }

tables_ready : (masks : List ℕ) → Each Ready (tables masks)
unfolding fits
tables_ready masks = (
  table_ready _ ignore_marks (Ligature 2) lam_alef (omega arith) refl refl (omega arith),
  (
    table_ready _ ignore_marks Single initial (omega arith) refl refl (omega arith),
    (
      table_ready _ ignore_marks Single medial (omega arith) refl refl (omega arith),
      (
        table_ready _ ignore_marks Single final (omega arith) refl refl (omega arith),
        (table_ready _ 0 (Ligature 2) shadda (omega arith) refl refl (omega arith), tt),
      ),
    ),
  ),
)

pub origins_ready : (i : Inputs) → even i ≡ true → short i ≡ true → Each Ready (origins i)
origins_ready i e s = go (eqb (length (unicode i)) 0) (signed i.font)
  where
    go : (t u : Bool) → Each Ready (cond t (cond u (tables i.masks) []) (lent i))
    go true true = tables_ready i.masks
    go true false = tt
    go false u = lent_ready i e s
