-- `accepting::rise` meets its contract: what the glyphs still to come are answered is the answer for all.
-- Assumes nothing.
use native.Mathlib.Omega.{arith}
use mathlib.Core.Path.{◌≡◌, ◌∙◌}
use Prim.Native.Nat.{ℕ, ◌+◌, ◌-◌, ◌*◌, ◌≤◌, ◌<◌}
use borrow.Author.Tests.{ltb-false}
use lib.Dec.{ltb}
use lib.ListN.{length}
use Rattle.std.specs.Prelude.{Ok, Err}
use Rattle.laws.proofs.TestLaws.{neither}
use Rattle.words.specs.Words.{word_at}
use Rattle.accepting.specs.declared.Fault.TheVariants.{Wrong, Short}
use Rattle.accepting.proofs.PieceLaws.{scaled, next-sum, rise-test, rise-short, rise-wrong, rise-more, rise-none}
use Rattle.accepting.proofs.rise.Goals as goal
use Rattle.accepting.proofs.rise.Goals.{In-loop-i}

-- how many glyphs are left behind this one, and with it
behind : (s : In-loop-i) → s.args.n - (s.loop-i.i + 1) + 1 ≡ s.args.n - s.loop-i.i
behind s = omega (arith, s.loop-i-test.true)

-- what the highest glyph may be, for this one
sum : (s : In-loop-i) → s.loop-i.high + s.args.apart + s.args.apart * (s.args.n - (s.loop-i.i + 1)) ≡ 65535
sum s =
    let less : s.args.n - s.loop-i.i - 1 ≡ s.args.n - (s.loop-i.i + 1) = omega arith in
    let next = next-sum s.args.apart (s.args.n - s.loop-i.i) s.loop-i.high (omega (arith, s.loop-i-test.true)) s.loop-i.invariant.1 in
    rw less at next

pub overflow_mul-high : goal.overflow_mul-high
overflow_mul-high c = omega (arith, scaled c.args.apart c.args.n c.requires.1, c.requires.2)

pub overflow_sub-high : goal.overflow_sub-high
overflow_sub-high c = omega (arith, scaled c.args.apart c.args.n c.requires.1, c.requires.2)

pub loop-i-init : goal.loop-i-init
loop-i-init c =
    let a = c.args in
    let all : a.n - 0 ≡ a.n = omega arith in
    let start : a.at + 0 ≡ a.at = omega arith in
    (omega (arith, c.requires.0), rw all (omega (arith, scaled a.apart a.n c.requires.1, c.requires.2)), λ r t. rw (all, start) at t)

pub returns-then-bytes-p-lt2 : goal.returns-then-bytes-p-lt2
returns-then-bytes-p-lt2 c =
    let a = c.args in
    let l = c.loop-i in
    l.invariant.2 (Err Short) (rise-short a.apart a.bytes.now (a.at + 2 * l.i) (a.n - l.i) l.low (omega (arith, c.loop-i-test.true)) (omega (arith, l.invariant.0, c.if-bytes-p-lt2.true)))

pub overflow_add-high : goal.overflow_add-high
overflow_add-high c =
    omega (arith, c.loop-i.invariant.1, c.requires.1)

pub returns-then-glyph-low : goal.returns-then-glyph-low
returns-then-glyph-low c =
    let a = c.args in
    let l = c.loop-i in
    let s = (goal.at.returns-then-glyph-low c).In-loop-i in
    let left : ℕ = a.n - (l.i + 1) in
    let w : c.from-glyph.result ≡ word_at a.bytes.now (a.at + 2 * l.i) = c.from-glyph.ensures ∙ c.u16_at.ensures in
    l.invariant.2 (Err (Wrong (a.at + 2 * l.i))) (rw (← behind s) (rise-wrong a.apart a.bytes.now (a.at + 2 * l.i) left l.low (omega (arith, l.invariant.0, c.if-bytes-p-lt2.false)) (rw (← w) (rise-test l.low (l.high + a.apart) c.from-glyph.result (a.apart * left) (sum s) c.if-glyph-low.true))))

pub overflow_add-low : goal.overflow_add-low
overflow_add-low c =
    omega (arith, c.from-glyph.ensures, c.u16_at.type_inv, c.requires.1)

pub loop-i-preserved : goal.loop-i-preserved
loop-i-preserved c =
    let a = c.args in
    let l = c.loop-i in
    let s = (goal.at.loop-i-preserved c).In-loop-i in
    let left : ℕ = a.n - (l.i + 1) in
    let w : c.from-glyph.result ≡ word_at a.bytes.now (a.at + 2 * l.i) = c.from-glyph.ensures ∙ c.u16_at.ensures in
    let t = neither (ltb c.from-glyph.result l.low) (ltb (l.high + a.apart) c.from-glyph.result) c.if-glyph-low.false in
    let fits : a.at + 2 * l.i + 2 ≤ length a.bytes.now = omega (arith, l.invariant.0, c.if-bytes-p-lt2.false) in
    let on : a.at + 2 * l.i + 2 ≡ a.at + 2 * (l.i + 1) = omega arith in
    let low : l.low ≤ word_at a.bytes.now (a.at + 2 * l.i) = rw (← w) (ltb-false c.from-glyph.result l.low t.0) in
    let high : word_at a.bytes.now (a.at + 2 * l.i) + a.apart * left < 65536 = rw (← w) (omega (arith, ltb-false (l.high + a.apart) c.from-glyph.result t.1, sum s)) in (
      omega (arith, fits),
      sum s,
      λ r k. l.invariant.2 r (rw (← behind s) (rise-more a.apart a.bytes.now (a.at + 2 * l.i) left l.low fits low high r (rw (← w, on) k))),
    )

pub returns : goal.returns
returns c =
    let a = c.args in
    let l = c.loop-i in
    let all : l.i ≡ a.n = omega (arith, c.loop-i-test.false, l.auto.i-end) in
    let none : a.n - l.i ≡ 0 = omega (arith, all) in
    let end : a.at + 2 * l.i ≡ a.at + 2 * a.n = omega (arith, all) in
    l.invariant.2 (Ok (a.at + 2 * a.n)) (rw (none, end) (rise-none a.apart l.low a.bytes.now (a.at + 2 * a.n) (omega arith) (omega (arith, end, l.invariant.0))))
