-- `ligatures::serialize_ligature_lookup` meets its contract: columns that do not belong together are refusal 1, other numbers of components 3, and rules that are too many 5; the others are written or refused by `write`.
-- Assumes nothing.
use mathlib.Core.Path.{◌≡◌, sym, ◌∙◌}
use Prim.Native.Nat.{◌*◌}
use native.Mathlib.Omega.{arith}
use borrow.Author.Tests.{eqb-true, eqb-false}
use lib.ListN.{length}
use Rattle.refusals.specs.declared.Refusal.TheVariants.{Uneven, OutOfRange}
use Rattle.layouts.specs.declared.Kind.TheVariants.{Ligature}
use Rattle.layouts.specs.Lookups.{lookup_of}
use Rattle.layouts.proofs.FitLaws.{fits-lent}
use Rattle.layouts.proofs.WrittenLaws.{uneven-given, range_given, written_refused}
use Rattle.ligatures.proofs.CallLaws.{Lent, low-and-high, other_number, many_refused}
use Rattle.ligatures.proofs.serialize_ligature_lookup.Goals as goal
use Rattle.ligatures.proofs.serialize_ligature_lookup.Goals.{Else-not-flat, Else-n}

-- columns that do not belong together
pub returns-then-not-flat : goal.returns-then-not-flat
returns-then-not-flat c =
    let l = lookup_of c.args.flags (Ligature c.args.n) c.args.components.now c.args.ligatures.now in
    written_refused l c.args.area.now Uneven (uneven-given l (length c.args.area.now) (eqb-false _ _ (rw (← c.from-n.ensures) (sym c.flat.ensures ∙ c.if-not-flat.true))))

-- n components for each ligature
even : (c : Else-not-flat) → length c.args.components.now ≡ length c.args.ligatures.now * c.args.n
even c = eqb-true _ _ (rw (← c.from-n.ensures) (sym c.flat.ensures ∙ c.if-not-flat.false))

-- another number of components
pub returns-then-n : goal.returns-then-n
returns-then-n c =
    let l = lookup_of c.args.flags (Ligature c.args.n) c.args.components.now c.args.ligatures.now in
    written_refused l c.args.area.now OutOfRange (range_given l (length c.args.area.now) (even (goal.at.returns-then-n c).Else-not-flat) (other_number c.args.n (rw (← c.from-n.ensures) c.if-n.true)))

lent : (c : Else-n) → length c.args.components.now ≡ length c.args.ligatures.now * c.args.n → Lent c.args.flags c.args.n c.args.components.now c.args.ligatures.now
lent c flat =
    let r = low-and-high c.args.n (rw (← c.from-n.ensures) c.if-n.false) in
    record {
      shape = record { low = r.0; high = r.1; flat = flat };
      flags-fit = omega (arith, c.ranges.flags);
      components-fit = fits-lent c.args.components.now (λ i. omega (arith, c.type_inv.components i));
      ligatures-fit = fits-lent c.args.ligatures.now (λ i. omega (arith, c.type_inv.ligatures i));
    }

-- too many rules
pub returns-then-ligatures-gt-MOST_RULES : goal.returns-then-ligatures-gt-MOST_RULES
returns-then-ligatures-gt-MOST_RULES c =
    let at = goal.at.returns-then-ligatures-gt-MOST_RULES c in
    many_refused (lent at.Else-n (even at.Else-not-flat)) c.args.area.now (omega (arith, c.if-ligatures-gt-MOST_RULES.true))

pub invariant_of-rules : goal.invariant_of-rules
invariant_of-rules c =
    let at = goal.at.invariant_of-rules c in
    let l = lent at.Else-n (even at.Else-not-flat) in
    record { shape = rw c.from-n.ensures l.shape; components_fit = l.components-fit; ligatures_fit = l.ligatures-fit }
