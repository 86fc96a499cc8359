use Prim.Native.Nat.{◌-◌, ◌*◌}
use Rattle.fonts.specs.Lent.{font_lent}
use Rattle.synthesis.proofs.CollectLaws.{Collecting}
use Rattle.synthesis.proofs.Rows.collect.Given as goal

abbrev pub invariant-loop-i : goal.invariant-loop-i
invariant-loop-i l =
    let r = l.self in
    Collecting (font_lent l.font) r.count r.n r.each r.k r.components.now r.ligatures.now l.initial.rules (r.count - l.i) (l.i * r.n) (l.i * r.each) l.made l.rules
