-- The promises of the lookups of a plan by rows hold: the definition's entries by Unicode's presentation forms are those of the seven lists (`unicode-lists`).
-- Assumes nothing.
use mathlib.Core.Path.{◌≡◌, sym, subst}
use mathlib.Core.List.{List}
use Prim.Native.Nat.{ℕ, ◌*◌, ◌≤◌}
use native.Mathlib.Omega.{arith}
use borrow.Author.Tests.{eqb-true, eq-eqb}
use lib.Dec.{eqb}
use lib.ListN.{length}
use Rattle.laws.proofs.TestLaws.{both}
use Rattle.refusals.specs.Numbers.{said}
use Rattle.fonts.specs.Font.{Sound}
use Rattle.ordering.proofs.KeyLaws.{Each}
use Rattle.drafts.specs.Entries.{Entry}
use Rattle.windows.specs.Windows.{direct}
use Rattle.fallback.specs.Plan.{Inputs, unicode, plan}
use Rattle.fallback.specs.Planned.{PlanAnswer, flat_by, Planning}
use Rattle.assurance.specs.Planning.{Says}
use Rattle.assurance.specs.ByRows.{seven_lists, OfRows, OfLists, AsTheRows, EveryPlaceHasRows, WindowsWithoutRows}
use Rattle.assurance.proofs.OriginLaws.{unicode-kept}
use Rattle.assurance.proofs.PlanLaws.{Passed}
use Rattle.assurance.proofs.PlanningHolds.{plans, not_refused, plan-unicode, unicode-first}
use Rattle.assurance.proofs.LookupsHold.{none, place_inside, place_read}
use Rattle.assurance.proofs.ByRowsLaws.{Long, of-lists, used-some, none_used, list_at}

-- ---- what is lent to a call that is not refused
module _ (i : Inputs) (room : ℕ) (p : Passed i room) where
  sound : Sound i.font
  sound = record { even = eqb-true (length i.font.codes) (length i.font.glyphs) (both (eqb (length i.font.codes) (length i.font.glyphs)) _ p.belong).0; rises = p.rises }

  all-long : Each Long (seven_lists i)
  all-long =
      let a = (both (eqb (length i.font.codes) (length i.font.glyphs)) _ p.belong).1 in
      let b = (both (flat_by 4 i.forms i.shaping) _ a).1 in
      let c = both (flat_by 3 i.threes.components i.threes.ligatures) _ b in
      let d = both (flat_by 2 i.twos.components i.twos.ligatures) (flat_by 2 i.marks.components i.marks.ligatures) c.1 in
      let shaping : length i.shaping * 1 ≤ length i.shaping = omega arith in
      let threes : length i.threes.ligatures * 3 ≤ length i.threes.components = omega (arith, eqb-true (length i.threes.components) (length i.threes.ligatures * 3) c.0) in
      let twos : length i.twos.ligatures * 2 ≤ length i.twos.components = omega (arith, eqb-true (length i.twos.components) (length i.twos.ligatures * 2) d.0) in
      let marks : length i.marks.ligatures * 2 ≤ length i.marks.components = omega (arith, eqb-true (length i.marks.components) (length i.marks.ligatures * 2) d.1) in
      (shaping, (shaping, (shaping, (shaping, (threes, (twos, (marks, tt)))))))

  unicode-lists : OfLists i.font (seven_lists i) (unicode i)
  unicode-lists = subst (OfLists i.font (seven_lists i)) (sym (unicode-kept i)) (of-lists i.font sound (seven_lists i) all-long)

module _ (i : Inputs) (area : List ℕ) (r : PlanAnswer) (left : List ℕ) (x : Planning i area r left) (z : said r ≡ 0) where
  lists : OfLists i.font (seven_lists i) (unicode i)
  lists = unicode-lists i (length area) (not_refused i area r left x z)

pub as_the_rows : AsTheRows
as_the_rows i area r left x z l m u =
    let made = lists i area r left x z in
    (unicode i, unicode-first i area r left x z (used-some i.font (seven_lists i) (unicode i) made l m u), made)

pub every-place-has-rows : EveryPlaceHasRows
every-place-has-rows i area r left x z l m u k h c g t a list y =
    let made = lists i area r left x z in
    let same : plan i ≡ unicode i = plan-unicode i (used-some i.font (seven_lists i) (unicode i) made l m u) in
    let back = place_read i area r left x z k h c g t a list y in
    let at = list_at i.font none (seven_lists i) (plan i) (subst (OfLists i.font (seven_lists i)) (sym same) made) k (place_inside i area r left x z k h) in
    (back.0, (at.0, at.1, at.2, subst (OfRows i.font at.0) back.1 at.3))

plan-direct : (i : Inputs) → length (unicode i) ≡ 0 → plan i ≡ direct i.masks i.font
unfolding plan
plan-direct i e = rw (eq-eqb (length (unicode i)) 0 e)

pub windows-without-rows : WindowsWithoutRows
windows-without-rows i area r left x z n =
    subst (λ (es : List Entry). Says es r left) (plan-direct i (none_used i.font (seven_lists i) (unicode i) (lists i area r left x z) n)) (plans i area r left x z)
