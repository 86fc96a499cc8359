-- What a caller of the interface hands over where it is more than a call's own numbers: `setting_asked` contexts, feature masks and a byte for yes or no.
-- Assumes nothing.
use Rattle.std.specs.Prelude.{ℕ}
use Rattle.laws.specs.Lent.{Borrowed}
use Rattle.refusals.specs.Columns.{yes}
use Rattle.lines.specs.Held.{manner_of}
use Rattle.coded.specs.Coded.{CodedSetting, coded_setting_lent}

-- contexts by codes and categories, seven masks and a byte; other than 0 it is a yes
abbrev pub setting_asked : Borrowed ℕ → Borrowed ℕ → Borrowed ℕ → Borrowed ℕ → Borrowed ℕ → ℕ → CodedSetting
setting_asked pre_codes pre_categories post_codes post_categories features mongolian =
    coded_setting_lent pre_codes pre_categories post_codes post_categories (manner_of features.entry.now (yes mongolian))
