-- `ligatures::Rules::write` meets its contract: two tests are refusal 5, the third is 8, and what passes is written.
-- Assumes nothing.
use Prim.Native.Nat.{◌+◌, ◌*◌, ◌≤◌}
use native.Mathlib.Omega.{arith}
use lib.ListN.{length}
use Rattle.layouts.specs.Lookups.{lookup_of}
use Rattle.layouts.specs.declared.Kind.TheVariants.{Ligature}
use Rattle.layouts.proofs.WrittenLaws.{Allowed, written_all}
use Rattle.ligatures.proofs.CallLaws.{Lent, product_small, extent_small, offset_refused, set_refused, room_refused, not_refused}
use Rattle.ligatures.proofs.Rules.write.Goals as goal
use Rattle.ligatures.proofs.Rules.write.Goals.{After-survey-extent, Else-area-extent}

lent : (c : After-survey-extent) → Lent c.args.flags c.args.self.n c.args.self.components.now c.args.self.ligatures.now
lent c =
    record {
      shape = c.args.self.shape;
      flags-fit = omega (arith, c.ranges.flags);
      components-fit = c.args.self.components_fit;
      ligatures-fit = c.args.self.ligatures_fit;
    }

-- no sum overflows: of n components, rules, sets, those of the longest, those before the last
size_small : (c : After-survey-extent) → 4 + 2 * c.args.self.n ≤ 10
size_small c = omega (arith, c.args.self.shape.high)

sets-small : (c : After-survey-extent) → c.survey-extent.result.sets ≤ 16383
sets-small c = let f = c.survey-extent.ensures in omega (arith, c.requires, (extent_small (lent c) f.sets f.longest f.last).0)

last-small : (c : After-survey-extent) → c.survey-extent.result.last * (4 + 2 * c.args.self.n) ≤ 163830
last-small c = let f = c.survey-extent.ensures in product_small (lent c) c.requires _ (extent_small (lent c) f.sets f.longest f.last).2

longest-small : (c : After-survey-extent) → c.survey-extent.result.longest * (4 + 2 * c.args.self.n) ≤ 163830
longest-small c = let f = c.survey-extent.ensures in product_small (lent c) c.requires _ (extent_small (lent c) f.sets f.longest f.last).1

rules-small : (c : After-survey-extent) → length c.args.self.ligatures.now * (4 + 2 * c.args.self.n) ≤ 163830
rules-small c = product_small (lent c) c.requires _ (omega arith)

-- what passed all tests
allowed : (c : Else-area-extent) → Allowed (lookup_of c.args.flags (Ligature c.args.self.n) c.args.self.components.now c.args.self.ligatures.now) (length c.args.area.now)
allowed c =
    let f = c.survey-extent.ensures in
    not_refused
    (record {
      shape = c.args.self.shape;
      flags-fit = omega (arith, c.ranges.flags);
      components-fit = c.args.self.components_fit;
      ligatures-fit = c.args.self.ligatures_fit;
    })
    c.args.area.now f.sets f.longest f.last (omega (arith, c.if-extent-size-gt65535.false)) (omega (arith, c.if-self-extent.false)) (omega (arith, c.if-area-extent.false))

pub overflow_mul-extent : goal.overflow_mul-extent
overflow_mul-extent c = omega (arith, sets-small (goal.at.overflow_mul-extent c).After-survey-extent)

pub overflow_add-extent : goal.overflow_add-extent
overflow_add-extent c = omega (arith, sets-small (goal.at.overflow_add-extent c).After-survey-extent)

pub overflow_mul-extent-2 : goal.overflow_mul-extent-2
overflow_mul-extent-2 c = omega (arith, last-small (goal.at.overflow_mul-extent-2 c).After-survey-extent)

pub overflow_add-extent-2 : goal.overflow_add-extent-2
overflow_add-extent-2 c = omega (arith, sets-small (goal.at.overflow_add-extent-2 c).After-survey-extent, last-small (goal.at.overflow_add-extent-2 c).After-survey-extent)

-- the last set's offset
pub returns-then-extent-size-gt65535 : goal.returns-then-extent-size-gt65535
returns-then-extent-size-gt65535 c =
    let f = c.survey-extent.ensures in
    offset_refused (lent (goal.at.returns-then-extent-size-gt65535 c).After-survey-extent) c.args.area.now f.sets f.last (omega (arith, c.if-extent-size-gt65535.true))

pub overflow_mul-extent-3 : goal.overflow_mul-extent-3
overflow_mul-extent-3 c =
    omega (arith, longest-small (goal.at.overflow_mul-extent-3 c).After-survey-extent)

-- the last rule's offset, in the longest set
pub returns-then-self-extent : goal.returns-then-self-extent
returns-then-self-extent c =
    set_refused (lent (goal.at.returns-then-self-extent c).After-survey-extent) c.args.area.now c.survey-extent.ensures.longest (omega (arith, c.if-self-extent.true))

-- the area is shorter than the lookup
pub returns-then-area-extent : goal.returns-then-area-extent
returns-then-area-extent c =
    let f = c.survey-extent.ensures in
    room_refused (lent (goal.at.returns-then-area-extent c).After-survey-extent) c.args.area.now f.sets f.longest f.last (omega (arith, c.if-extent-size-gt65535.false)) (omega (arith, c.if-self-extent.false)) (omega (arith, c.if-area-extent.true))

pub put_lookup-requires : goal.put_lookup-requires
put_lookup-requires c =
    let a = allowed (goal.at.put_lookup-requires c).Else-area-extent in
    (c.survey-extent.ensures.sets, a.small, a.enough)

pub returns : goal.returns
returns c =
    written_all _ _ (allowed (goal.at.returns c).Else-area-extent) c.put_lookup.ensures
