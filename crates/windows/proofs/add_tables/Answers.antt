-- `windows::add_tables` meets its contract: after each of the five calls the plan has come a lookup further.
-- Assumes nothing.
use mathlib.Core.Path.{refl}
use mathlib.Core.List.{List, [], ◌++◌, append_assoc}
use Prim.Native.Nat.{ℕ}
use native.Mathlib.Omega.{arith}
use lib.ListN.{length}
use Rattle.layouts.specs.declared.Kind.TheVariants.{Single, Ligature}
use Rattle.layouts.specs.Lookups.{flat}
use Rattle.drafts.specs.Features.{init_of, medi_of, fina_of, rlig_of, ignore_marks}
use Rattle.drafts.specs.Entries.{Entry, entry}
use Rattle.drafts.specs.Drafted.{Reached}
use Rattle.drafts.proofs.DraftLaws.{reached-begin, reached-more, rules-added}
use Rattle.windows.specs.Tables.{initial, medial, final, lam_alef, shadda}
use Rattle.windows.proofs.add_tables.Goals as goal
use Rattle.windows.proofs.add_tables.Goals.{After-add_direct_lookup, After-add_direct_lookup-fina, After-add_direct_lookup-init, After-add_direct_lookup-lam_alef, After-add_direct_lookup-medi, After-new}

-- the entries so far, by the masks lent
abbrev to_lam_alef : List ℕ → List Entry
to_lam_alef masks = entry (rlig_of masks) ignore_marks (Ligature 2) lam_alef

abbrev to-init : List ℕ → List Entry
to-init masks = to_lam_alef masks ++ entry (init_of masks) ignore_marks Single initial

abbrev to-medi : List ℕ → List Entry
to-medi masks = to-init masks ++ entry (medi_of masks) ignore_marks Single medial

abbrev to-fina : List ℕ → List Entry
to-fina masks = to-medi masks ++ entry (fina_of masks) ignore_marks Single final

abbrev to-shadda : List ℕ → List Entry
to-shadda masks = to-fina masks ++ entry (rlig_of masks) 0 (Ligature 2) shadda

begins : (k : After-new) → Reached [] 0 0 (length k.args.scratch.now) k.new.result k.args.scratch.now
begins k = reached-begin k.new.result k.args.scratch.now k.new.ensures

after_lam_alef : (k : After-add_direct_lookup-lam_alef) → Reached [] 0 0 (length k.args.scratch.now) k.new.result k.args.scratch.now → Reached (to_lam_alef k.args.masks) 1 14354 (length k.args.scratch.now) k.add_direct_lookup-lam_alef.result k.add_direct_lookup-lam_alef.new.scratch
unfolding flat
after_lam_alef k p =
    reached-more p (rules-added (rlig_of k.args.masks) ignore_marks (Ligature 2) lam_alef (omega arith) _ _ refl refl k.add_direct_lookup-lam_alef.ensures) k.add_direct_lookup-lam_alef.auto.scratch

after-init : (k : After-add_direct_lookup-init) → Reached (to_lam_alef k.args.masks) 1 14354 (length k.args.scratch.now) k.add_direct_lookup-lam_alef.result k.add_direct_lookup-lam_alef.new.scratch → Reached (to-init k.args.masks) 2 18468 (length k.args.scratch.now) k.add_direct_lookup-init.result k.add_direct_lookup-init.new.scratch
unfolding flat
after-init k p =
    reached-more p (rules-added (init_of k.args.masks) ignore_marks Single initial (omega arith) _ _ refl refl k.add_direct_lookup-init.ensures) k.add_direct_lookup-init.auto.scratch

after-medi : (k : After-add_direct_lookup-medi) → Reached (to-init k.args.masks) 2 18468 (length k.args.scratch.now) k.add_direct_lookup-init.result k.add_direct_lookup-init.new.scratch → Reached (to-medi k.args.masks) 3 22582 (length k.args.scratch.now) k.add_direct_lookup-medi.result k.add_direct_lookup-medi.new.scratch
unfolding flat
after-medi k p = reached-more p (rules-added (medi_of k.args.masks) ignore_marks Single medial (omega arith) _ _ refl refl k.add_direct_lookup-medi.ensures) k.add_direct_lookup-medi.auto.scratch

after-fina : (k : After-add_direct_lookup-fina) → Reached (to-medi k.args.masks) 3 22582 (length k.args.scratch.now) k.add_direct_lookup-medi.result k.add_direct_lookup-medi.new.scratch → Reached (to-fina k.args.masks) 4 26696 (length k.args.scratch.now) k.add_direct_lookup-fina.result k.add_direct_lookup-fina.new.scratch
unfolding flat
after-fina k p = reached-more p (rules-added (fina_of k.args.masks) ignore_marks Single final (omega arith) _ _ refl refl k.add_direct_lookup-fina.ensures) k.add_direct_lookup-fina.auto.scratch

after-shadda : (k : After-add_direct_lookup) → Reached (to-fina k.args.masks) 4 26696 (length k.args.scratch.now) k.add_direct_lookup-fina.result k.add_direct_lookup-fina.new.scratch → Reached (to-shadda k.args.masks) 5 41050 (length k.args.scratch.now) k.add_direct_lookup.result k.add_direct_lookup.new.scratch
unfolding flat
after-shadda k p = reached-more p (rules-added (rlig_of k.args.masks) 0 (Ligature 2) shadda (omega arith) _ _ refl refl k.add_direct_lookup.ensures) k.add_direct_lookup.auto.scratch

pub returns : goal.returns
returns c =
    let w = goal.at.returns c in
    simp append_assoc at (after-shadda w.After-add_direct_lookup (after-fina w.After-add_direct_lookup-fina (after-medi w.After-add_direct_lookup-medi (after-init w.After-add_direct_lookup-init (after_lam_alef w.After-add_direct_lookup-lam_alef (begins w.After-new)))))).drafted
