-- `fallback::Inputs::new_unicode` meets its contract: after each call the plan has come a list further.
-- Assumes nothing.
use mathlib.Core.List.{append_assoc}
use Rattle.drafts.proofs.DraftLaws.{reached-more}
use Rattle.fallback.proofs.Inputs.new_unicode.Goals as goal

pub returns : goal.returns
returns c =
    let threes = reached-more c.add_forms-forms_in.ensures c.add_list-threes_in.ensures c.add_list-threes_in.auto.scratch in
    let twos = reached-more threes c.add_list-twos_in.ensures c.add_list-twos_in.auto.scratch in
    simp append_assoc at (reached-more twos c.add_list.ensures c.add_list.auto.scratch)
