-- `grouping::Ligatures::later` meets its contract: what the offsets still to come are answered is the answer for all.
-- Assumes nothing.
use native.Mathlib.Omega.{arith}
use mathlib.Core.Path.{◌≡◌, ◌∙◌}
use mathlib.Core.Bool.{true, false}
use Prim.Native.Nat.{ℕ, ◌+◌, ◌-◌, ◌*◌, ◌≤◌}
use lib.ListN.{length}
use Rattle.std.specs.Prelude.{Ok, Err}
use Rattle.words.specs.Words.{word_at}
use Rattle.accepting.specs.declared.Fault.TheVariants.{Wrong, Short}
use Rattle.grouping.proofs.StartLaws.{stands, later-short, later-low, later-wrong, later_more, later-none}
use Rattle.grouping.proofs.Ligatures.later.Goals as goal
use Rattle.grouping.proofs.Ligatures.later.Goals.{In-loop-i}

-- how many offsets are left behind this one, and with it
behind : (s : In-loop-i) → s.args.count - 1 - s.loop-i.i + 1 ≡ s.args.count - s.loop-i.i
behind s = omega (arith, s.loop-i-test.true)

pub returns-then-self-p-lt2 : goal.returns-then-self-p-lt2
returns-then-self-p-lt2 c =
    let a = c.args in
    let l = c.loop-i in
    l.invariant.1 (Err Short) (later-short a.self.n l.o a.self.bytes.now (a.at + 2 * l.i) (a.count - l.i) (omega (arith, c.loop-i-test.true)) (omega (arith, l.invariant.0, c.if-self-p-lt2.true)))

pub returns-then-w-o : goal.returns-then-w-o
returns-then-w-o c =
    let a = c.args in
    let l = c.loop-i in
    l.invariant.1 (Err (Wrong (a.at + 2 * l.i))) (rw (← behind (goal.at.returns-then-w-o c).In-loop-i) (later-low a.self.n l.o a.self.bytes.now (a.at + 2 * l.i) (a.count - 1 - l.i) (omega (arith, l.invariant.0, c.if-self-p-lt2.false)) (omega (arith, c.from-w.ensures, c.u16_at.ensures, c.if-w-o.true))))

pub loop-i-preserved : goal.loop-i-preserved
loop-i-preserved c =
    let a = c.args in
    let l = c.loop-i in
    let left : ℕ = a.count - 1 - l.i in
    let w : c.from-w.result ≡ word_at a.self.bytes.now (a.at + 2 * l.i) = c.from-w.ensures ∙ c.u16_at.ensures in
    let fits : a.at + 2 * l.i + 2 ≤ length a.self.bytes.now = omega (arith, l.invariant.0, c.if-self-p-lt2.false) in
    let on : a.at + 2 * l.i + 2 ≡ a.at + 2 * (l.i + 1) = omega arith in
    let less : a.count - 1 - l.i ≡ a.count - (l.i + 1) = omega arith in
    let test : stands a.self.n l.o left (word_at a.self.bytes.now (a.at + 2 * l.i)) ≡ true = rw (← w, ← c.is_size.ensures) c.if-is_size-w.true in (
      omega (arith, fits),
      λ r k. l.invariant.1 r (rw (← behind (goal.at.loop-i-preserved c).In-loop-i) (later_more a.self.n l.o a.self.bytes.now (a.at + 2 * l.i) left fits test r (rw (← w, on, less) k))),
    )

pub returns-else-is_size-w : goal.returns-else-is_size-w
returns-else-is_size-w c =
    let a = c.args in
    let l = c.loop-i in
    let left : ℕ = a.count - 1 - l.i in
    let w : c.from-w.result ≡ word_at a.self.bytes.now (a.at + 2 * l.i) = c.from-w.ensures ∙ c.u16_at.ensures in
    let fits : a.at + 2 * l.i + 2 ≤ length a.self.bytes.now = omega (arith, l.invariant.0, c.if-self-p-lt2.false) in
    let test : stands a.self.n l.o left (word_at a.self.bytes.now (a.at + 2 * l.i)) ≡ false = rw (← w, ← c.is_size.ensures) c.if-is_size-w.false in
    l.invariant.1 (Err (Wrong (a.at + 2 * l.i))) (rw (← behind (goal.at.returns-else-is_size-w c).In-loop-i) (later-wrong a.self.n l.o a.self.bytes.now (a.at + 2 * l.i) left fits test))

pub returns : goal.returns
returns c =
    let a = c.args in
    let l = c.loop-i in
    let all : l.i ≡ a.count = omega (arith, c.loop-i-test.false, l.auto.i-end) in
    let none : a.count - l.i ≡ 0 = omega (arith, all) in
    let end : a.at + 2 * l.i ≡ a.at + 2 * a.count = omega (arith, all) in
    l.invariant.1 (Ok (a.at + 2 * a.count)) (rw (none, end) (later-none a.self.n l.o a.self.bytes.now (a.at + 2 * a.count) (omega arith) (omega (arith, end, l.invariant.0))))
