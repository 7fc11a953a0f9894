-- Edits of the settings of a workbook: its theme, its name, its locale and its time zone.
use Rattle.std.specs.Prelude.{Bool, false, List, [], ◌∷◌, if◌then◌else◌}
use Rattle.base_tables.specs.Tables.{same_text}
use Rattle.base_tables.specs.contracts.locale.LocalePartialEq.TheImpl as locale
use Rattle.base_tables.specs.contracts.zone.ZonePartialEq.TheImpl as zone
use Rattle.base_styles.specs.contracts.theme.ThemePartialEq.TheImpl as theme
use Rattle.sheet_grid.specs.Book.{Book}
use Rattle.sheet_history.specs.declared.Diff.{Diff}
use Rattle.sheet_history.specs.declared.Diff.TheVariants.{Setting as SettingDiff}
use Rattle.sheet_history.specs.declared.Setting.{Setting}
use Rattle.sheet_history.specs.declared.Setting.TheVariants as value
use Rattle.sheet_history.specs.Settings.{change_to}

-- whether a workbook has a setting already
abbrev pub has_setting : Setting → Book → Bool
has_setting (value.Theme one) book = theme.ghosts.eq book.theme one
has_setting (value.Name name) book = same_text book.name name
has_setting (value.Locale one) book = locale.ghosts.eq book.locale one
has_setting (value.Zone one) book = zone.ghosts.eq book.zone one

-- whether a setting is exactly the name that the workbook has: nothing is done then
abbrev pub is_own_name : Setting → Book → Bool
is_own_name (value.Name name) book = same_text book.name name
is_own_name setting book = false

-- the record of a setting that a workbook gets: its change, or nothing where it stays, as of any other entry
abbrev pub setting_record : Setting → Book → List Diff
setting_record setting book = if has_setting setting book then [] else SettingDiff (change_to setting book) ∷ []
