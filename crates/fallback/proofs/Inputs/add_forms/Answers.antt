-- `fallback::Inputs::add_forms` meets its contract: before each turn the plan has the lookups of the forms below k.
-- Assumes nothing.
use native.Mathlib.Omega.{arith}
use Rattle.fonts.specs.Lent.{font_lent}
use Rattle.layouts.specs.declared.Kind.TheVariants.{Single}
use Rattle.drafts.proofs.DraftLaws.{reached-begin, reached-room}
use Rattle.fallback.proofs.UnicodeLaws.{form-more, forms-made}
use Rattle.fallback.proofs.Inputs.add_forms.Goals as goal

pub loop-k-init : goal.loop-k-init
loop-k-init c =
    rw c.requires at (reached-begin c.new-draft.result c.args.scratch.now c.new-draft.ensures)

pub synthesize_lookup-draft-requires : goal.synthesize_lookup-draft-requires
synthesize_lookup-draft-requires c =
    (c.args.self.few_shaping, reached-room c.loop-k.invariant (omega (arith, c.loop-k-test.true)) Single (omega (arith, c.loop-k-test.true)) (omega arith))

pub loop-k-preserved : goal.loop-k-preserved
loop-k-preserved c =
    let i = c.args.self in
    form-more i.masks (font_lent i.font) i.shaping.now i.forms.now c.loop-k.k 61566 c.loop-k.invariant c.synthesize_lookup-draft.ensures c.synthesize_lookup-draft.auto.scratch

pub returns : goal.returns
returns c =
    let i = c.args.self in
    forms-made i.masks (font_lent i.font) i.shaping.now i.forms.now c.loop-k.k 61566 c.loop-k.auto.k-end c.loop-k-test.false c.loop-k.invariant
