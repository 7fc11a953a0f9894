-- The bytes of changes of the settings of a workbook.
use Rattle.std.specs.Prelude.{List, ℕ, ◌++◌}
use Rattle.base_wire.specs.Encoding.{FitsText}
use Rattle.grid_wire.specs.ThemeBytes.{FitsTheme}
use Rattle.sheet_history.specs.declared.SettingChange.{SettingChange}
use Rattle.sheet_history.specs.declared.SettingChange.TheVariants as setting

-- what it was, and what it is
abbrev pub encode_twice : {A : Type 0} → (A → List ℕ) → A → A → List ℕ
encode_twice encode old new = encode old ++ encode new

-- the parts of a change of a setting, which bytes can carry
abbrev pub FitsSetting : SettingChange → Type 0
FitsSetting (setting.Theme old new) = FitsTheme old × FitsTheme new
FitsSetting (setting.Name old new) = FitsText old × FitsText new
FitsSetting (setting.Locale old new) = Unit {0}
FitsSetting (setting.Zone old new) = Unit {0}
