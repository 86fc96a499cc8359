-- What a contract says by `line_lent`, `line_mut_lent`, `line_all_mut_lent`, `setting_lent`, `coded_line_lent`, `coded_line_mut_lent`, `coded_line_all_mut_lent`, `coded_setting_lent`, `marks_lent`, `columns_lent`, `columns_mut_lent` is what it says with each column written out, by computation: `joining`, `replacing`, `joining-codes`, `replacing-codes`, `reordering`, `stretching`, the statements of these calls.
-- Of a line that a call only looks at: `looking`, `looking_codes`. (`record_stch` names its columns itself.)
-- Assumes nothing.
use mathlib.Core.Path.{◌≡◌, refl}
use mathlib.Core.Bool.{Bool}
use mathlib.Core.List.{List, map}
use Prim.Native.Nat.{ℕ}
use lib.IntN.{ℤ}
use Rattle.refusals.specs.Numbers.{Verdict}
use Rattle.laws.specs.Lent.{Borrowed, BorrowedMut}
use Rattle.listed.specs.Rows.{type_in}
use Rattle.listed.specs.Listed.{listed}
use Rattle.lines.specs.declared.Manner.{Manner}
use Rattle.lines.specs.Held.{setting_of, line_of, setting_lent, line_lent, line_mut_lent, line_all_mut_lent}
use Rattle.lines.specs.Joined.{Joining}
use Rattle.replacing.specs.Replaced.{Request, request_of, Replacing}
use Rattle.coded.specs.Coded.{coded_line_of, coded_request_of, coded_setting_lent, coded_line_lent, coded_line_mut_lent, coded_line_all_mut_lent, JoiningCodes, ReplacingCodes}
use Rattle.marks.specs.Reordered as marked
use Rattle.marks.specs.Reordered.{ReorderRequest, columns_of, marks_lent, Reordering}
use Rattle.runs.specs.Records.{columns, columns_lent, columns_mut_lent}
use Rattle.stretching.specs.Stretching as stretched
use Rattle.stretching.specs.Stretching.{stretch_request, Stretching}

-- what only looks at a line writes nothing
module _ (codes types categories base actions masks : Borrowed ℕ) where
  pub looking :
      (let l = line_lent codes types categories base actions masks in
      (l.entry ≡ line_of codes.entry.now types.entry.now categories.entry.now base.entry.now actions.entry.now masks.entry.now)
      × (l.exit ≡ line_of codes.exit.now types.exit.now categories.exit.now base.exit.now actions.exit.now masks.exit.now))
  looking = (refl, refl)

  pub looking_codes :
      (let l = coded_line_lent codes categories base actions masks in
      (l.entry ≡ coded_line_of codes.entry.now categories.entry.now base.entry.now actions.entry.now masks.entry.now)
      × (l.exit ≡ coded_line_of codes.exit.now categories.exit.now base.exit.now actions.exit.now masks.exit.now))
  looking_codes = (refl, refl)

-- joining writes actions and masks
module _ (codes types categories base pt pg qt qg : Borrowed ℕ) (actions masks : BorrowedMut ℕ) (manner : Manner) (r : Verdict) where
  pub joining :
      (let l = line_mut_lent codes types categories base actions masks in Joining (setting_lent pt pg qt qg manner) l.entry r l.exit)
      ≡ Joining
      (setting_of pt.entry.now pg.entry.now qt.entry.now qg.entry.now manner.features manner.mongolian)
      (line_of codes.entry.now types.entry.now categories.entry.now base.entry.now actions.entry.now masks.entry.now)
      r
      (line_of codes.exit.now types.exit.now categories.exit.now base.exit.now actions.exit.now masks.exit.now)
  joining = refl

-- replacing writes all columns but the base masks
module _ (base pt pg qt qg : Borrowed ℕ) (codes types categories actions masks : BorrowedMut ℕ) (manner : Manner) (r : Verdict) where
  pub replacing :
      (q : Request)
      → (let l = line_all_mut_lent codes types categories base actions masks in Replacing (setting_lent pt pg qt qg manner) q l.entry r l.exit)
      ≡ Replacing
      (setting_of pt.entry.now pg.entry.now qt.entry.now qg.entry.now manner.features manner.mongolian)
      q
      (line_of codes.entry.now types.entry.now categories.entry.now base.entry.now actions.entry.now masks.entry.now)
      r
      (line_of codes.exit.now types.exit.now categories.exit.now base.exit.now actions.exit.now masks.exit.now)
  replacing q = refl

abbrev listed_types : List ℕ → List ℕ
listed_types = map (type_in listed)

module _ (codes categories base pc pg qc qg : Borrowed ℕ) (actions masks : BorrowedMut ℕ) (manner : Manner) (r : Verdict) where
  pub joining-codes :
      (let l = coded_line_mut_lent codes categories base actions masks in JoiningCodes (coded_setting_lent pc pg qc qg manner) l.entry r l.exit)
      ≡ Joining
      (setting_of (listed_types pc.entry.now) pg.entry.now (listed_types qc.entry.now) qg.entry.now manner.features manner.mongolian)
      (line_of codes.entry.now (listed_types codes.entry.now) categories.entry.now base.entry.now actions.entry.now masks.entry.now)
      r
      (line_of codes.exit.now (listed_types codes.exit.now) categories.exit.now base.exit.now actions.exit.now masks.exit.now)
  joining-codes = refl

module _ (base pc pg qc qg : Borrowed ℕ) (codes categories actions masks : BorrowedMut ℕ) (manner : Manner) (r : Verdict) where
  pub replacing-codes :
      (place code category : ℕ)
      → (let l = coded_line_all_mut_lent codes categories base actions masks in ReplacingCodes (coded_setting_lent pc pg qc qg manner) (coded_request_of place code category) l.entry r l.exit)
      ≡ Replacing
      (setting_of (listed_types pc.entry.now) pg.entry.now (listed_types qc.entry.now) qg.entry.now manner.features manner.mongolian)
      (request_of place code (type_in listed code) category)
      (line_of codes.entry.now (listed_types codes.entry.now) categories.entry.now base.entry.now actions.entry.now masks.entry.now)
      r
      (line_of codes.exit.now (listed_types codes.exit.now) categories.exit.now base.exit.now actions.exit.now masks.exit.now)
  replacing-codes place code category = refl

pub reordering :
    (codes classes : BorrowedMut ℕ) (q : ReorderRequest) (r : marked.Answer)
    → (let c = marks_lent codes classes in Reordering q c.entry r c.exit)
    ≡ Reordering q (columns_of codes.entry.now classes.entry.now) r (columns_of codes.exit.now classes.exit.now)
reordering codes classes q r = refl

-- stretching reads one line and writes another
module _ (g c i a : Borrowed ℕ) (w v o : Borrowed ℤ) (g' c' i' a' : BorrowedMut ℕ) (w' v' o' : BorrowedMut ℤ) (recorded rtl : Bool) (r : stretched.Answer) where
  pub stretching :
      (let l = columns_lent g w c i a v o in let out = columns_mut_lent g' w' c' i' a' v' o' in Stretching (stretch_request recorded rtl l.entry) out.entry r out.exit)
      ≡ Stretching
      (stretch_request recorded rtl (columns g.entry.now w.entry.now c.entry.now i.entry.now a.entry.now v.entry.now o.entry.now))
      (columns g'.entry.now w'.entry.now c'.entry.now i'.entry.now a'.entry.now v'.entry.now o'.entry.now)
      r
      (columns g'.exit.now w'.exit.now c'.exit.now i'.exit.now a'.exit.now v'.exit.now o'.exit.now)
  stretching = refl
