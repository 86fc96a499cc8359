use Prim.Native.Nat.{◌*◌}
use Rattle.drafts.specs.Drafted.{Reached}
use Rattle.fonts.specs.Lent.{font_lent}
use Rattle.fallback.proofs.UnicodeLaws.{forming}
use Rattle.fallback.proofs.Inputs.add_forms.Given as goal

abbrev pub invariant-loop-k : goal.invariant-loop-k
invariant-loop-k l =
    let i = l.self in
    Reached (forming i.masks (font_lent i.font) i.shaping.now i.forms.now l.k) l.k (4114 * l.k) 61566 l.draft l.scratch
