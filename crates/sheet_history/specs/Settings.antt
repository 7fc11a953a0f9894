-- The settings of a workbook that are its entries: its theme, its name, its locale and its time zone.
use Rattle.std.specs.Prelude.{ℕ, Bool, true, false, List, [], ◌∷◌}
use Rattle.base_tables.specs.declared.Locale.TheVariants.{En}
use Rattle.base_tables.specs.declared.Zone.TheVariants.{Utc}
use Rattle.base_styles.specs.Themes.{default_theme}
use Rattle.sheet_grid.specs.Book.{Book}
use Rattle.sheet_history.specs.declared.setting.Setting.{Setting}
use Rattle.sheet_history.specs.declared.setting.Setting.TheVariants as value
use Rattle.sheet_history.specs.declared.setting.SettingChange.{SettingChange}
use Rattle.sheet_history.specs.declared.setting.SettingChange.TheVariants as change

-- which setting
pub data SettingKind : Type 0 where
  -- the colours that styles name
  ThemeSetting : SettingKind
  -- the name of the workbook
  NameSetting : SettingKind
  -- the locale in which numbers and lists are written
  LocaleSetting : SettingKind
  -- the time zone
  ZoneSetting : SettingKind

abbrev pub all_settings : List SettingKind
all_settings = ThemeSetting ∷ NameSetting ∷ LocaleSetting ∷ ZoneSetting ∷ []

-- the tag of its diffs
abbrev pub setting_tag : SettingKind → ℕ
setting_tag ThemeSetting = 18
setting_tag NameSetting = 19
setting_tag LocaleSetting = 20
setting_tag ZoneSetting = 21

-- the setting that a value is of
abbrev pub kind_of : Setting → SettingKind
kind_of (value.Theme theme) = ThemeSetting
kind_of (value.Name name) = NameSetting
kind_of (value.Locale locale) = LocaleSetting
kind_of (value.Zone zone) = ZoneSetting

abbrev pub is_of_kind : SettingKind → Setting → Bool
is_of_kind ThemeSetting (value.Theme theme) = true
is_of_kind NameSetting (value.Name name) = true
is_of_kind LocaleSetting (value.Locale locale) = true
is_of_kind ZoneSetting (value.Zone zone) = true
is_of_kind _ _ = false

-- what a setting is
abbrev pub setting_in : SettingKind → Book → Setting
setting_in ThemeSetting book = value.Theme book.theme
setting_in NameSetting book = value.Name book.name
setting_in LocaleSetting book = value.Locale book.locale
setting_in ZoneSetting book = value.Zone book.zone

-- the workbook with a value of a setting. A value of another setting changes nothing
abbrev pub with_kind : SettingKind → Setting → Book → Book
with_kind ThemeSetting (value.Theme theme) book = record book { theme = theme }
with_kind NameSetting (value.Name name) book = record book { name = name }
with_kind LocaleSetting (value.Locale locale) book = record book { locale = locale }
with_kind ZoneSetting (value.Zone zone) book = record book { zone = zone }
with_kind _ _ book = book

-- what a setting is where nothing is set: the theme of a new workbook, no name, English, UTC
abbrev pub plain_setting : SettingKind → Setting
plain_setting ThemeSetting = value.Theme default_theme
plain_setting NameSetting = value.Name []
plain_setting LocaleSetting = value.Locale En
plain_setting ZoneSetting = value.Zone Utc

-- the workbook where nothing is set
abbrev pub without_settings : Book → Book
without_settings book = record book { theme = default_theme; name = []; locale = En; zone = Utc }

-- the workbook with a setting
abbrev pub with_setting : Setting → Book → Book
with_setting (value.Theme theme) book = record book { theme = theme }
with_setting (value.Name name) book = record book { name = name }
with_setting (value.Locale locale) book = record book { locale = locale }
with_setting (value.Zone zone) book = record book { zone = zone }

-- ---- changes

abbrev pub old_setting : SettingChange → Setting
old_setting (change.Theme old new) = value.Theme old
old_setting (change.Name old new) = value.Name old
old_setting (change.Locale old new) = value.Locale old
old_setting (change.Zone old new) = value.Zone old

abbrev pub new_setting : SettingChange → Setting
new_setting (change.Theme old new) = value.Theme new
new_setting (change.Name old new) = value.Name new
new_setting (change.Locale old new) = value.Locale new
new_setting (change.Zone old new) = value.Zone new

abbrev pub changed_setting : SettingChange → SettingKind
changed_setting one = kind_of (new_setting one)

-- the change of a workbook that gets a setting
abbrev pub change_to : Setting → Book → SettingChange
change_to (value.Theme new) book = change.Theme book.theme new
change_to (value.Name new) book = change.Name book.name new
change_to (value.Locale new) book = change.Locale book.locale new
change_to (value.Zone new) book = change.Zone book.zone new
