-- `windows::new_win1256` meets its contract: what the signature decides.
-- Assumes nothing.
use mathlib.Core.Path.{sym, ◌∙◌}
use Rattle.drafts.proofs.DraftLaws.{begun-drafted}
use Rattle.windows.proofs.new_win1256.Goals as goal

pub returns : goal.returns
returns c =
    let e = sym c.is_win1256_font.ensures ∙ c.if-is_win1256_font.false in
    rw (e, c.new.ensures) (begun-drafted c.args.scratch.now)
