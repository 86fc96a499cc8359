-- `ligatures::Rules::put_lookup` meets its contract: head and coverage, with offsets, leaders and sets around it, are the lookup.
-- Assumes nothing.
use Prim.Native.Nat.{◌+◌, ◌*◌, ◌<◌, ◌≤◌}
use native.Mathlib.Omega.{arith}
use lib.ListN.{length}
use Rattle.ligatures.proofs.LookupLaws.{lookup-long, head-fits, sets-room, lookup-written}
use Rattle.ligatures.proofs.Rules.put_lookup.Goals as goal
use Rattle.ligatures.proofs.Rules.put_lookup.Goals.{Start}

small : (s : Start) → 6 + 2 * s.args.sets < 65536
small s = head-fits s.args.flags s.args.self.n s.args.self.components.now s.args.self.ligatures.now s.args.sets s.requires.0 s.requires.1

long : (s : Start) → 18 + 4 * s.args.sets ≤ length s.args.area.now
long s = omega (arith, s.requires.2, lookup-long s.args.flags s.args.self.n s.args.self.components.now s.args.self.ligatures.now s.args.sets s.requires.0)

pub overflow_cast-count : goal.overflow_cast-count
overflow_cast-count c = omega (arith, small (search))

pub overflow_mul-head : goal.overflow_mul-head
overflow_mul-head c = omega (arith, small (search))

pub overflow_add-head : goal.overflow_add-head
overflow_add-head c = omega (arith, small (search))

pub put_words-offsets-requires : goal.put_words-offsets-requires
put_words-offsets-requires c =
    omega (arith, long (search))

pub overflow_mul-sets : goal.overflow_mul-sets
overflow_mul-sets c =
    omega (arith, small (search))

pub overflow_add-offsets : goal.overflow_add-offsets
overflow_add-offsets c =
    omega (arith, small (search), c.put_words-offsets.ensures.place)

pub put_words-leaders-requires : goal.put_words-leaders-requires
put_words-leaders-requires c =
    omega (arith, long (search), c.put_words-offsets.ensures.place, c.put_words-offsets.ensures.same)

pub put_sets-requires : goal.put_sets-requires
put_sets-requires c =
    (sets-room c.args.flags c.args.self.n c.args.self.components.now c.args.self.ligatures.now c.args.sets c.requires.0 c.requires.1 c.requires.2 c.put_words-offsets.ensures (omega arith) c.put_words-leaders.ensures)

pub returns : goal.returns
returns c =
    lookup-written c.args.flags c.args.self.n c.args.self.components.now c.args.self.ligatures.now c.args.sets c.requires.0 c.requires.1 c.requires.2 c.put_words-offsets.ensures (omega arith) c.put_words-leaders.ensures c.put_sets.ensures.end c.put_sets.ensures.made
