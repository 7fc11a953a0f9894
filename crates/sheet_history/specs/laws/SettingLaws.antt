-- The laws of the settings of a workbook: what was put is got, a change of one goes both ways, and no rule of a workbook speaks of them.
use Rattle.std.proofs.Common.{◌≡◌, ◌≢◌, true, false, List, refl}
use Rattle.sheet_grid.specs.Sheet.{Sheet}
use Rattle.sheet_grid.specs.Book.{Book}
use Rattle.sheet_rules.specs.WellFormed.{IsWellFormed}
use Rattle.sheet_history.specs.declared.setting.Setting.{Setting}
use Rattle.sheet_history.specs.declared.setting.Setting.TheVariants as value
use Rattle.sheet_history.specs.Settings.{SettingKind, kind_of, is_of_kind, setting_in, with_kind, plain_setting, without_settings, with_setting, old_setting, new_setting, change_to}
use Rattle.sheet_history.specs.Settings.SettingKind.{ThemeSetting, NameSetting, LocaleSetting, ZoneSetting}

-- a value is of its setting
pub own_kind : (v : Setting) → is_of_kind (kind_of v) v ≡ true
own_kind (value.Theme theme) = refl
own_kind (value.Name name) = refl
own_kind (value.Locale locale) = refl
own_kind (value.Zone zone) = refl

-- what a setting is is of it
pub setting_is_of : (kind : SettingKind) (book : Book) → is_of_kind kind (setting_in kind book) ≡ true
setting_is_of ThemeSetting book = refl
setting_is_of NameSetting book = refl
setting_is_of LocaleSetting book = refl
setting_is_of ZoneSetting book = refl

-- so is what it is where nothing is set
pub plain_is_of_kind : (kind : SettingKind) → is_of_kind kind (plain_setting kind) ≡ true
plain_is_of_kind ThemeSetting = refl
plain_is_of_kind NameSetting = refl
plain_is_of_kind LocaleSetting = refl
plain_is_of_kind ZoneSetting = refl

-- what was put is got
pub setting_in-with_kind : (kind : SettingKind) (v : Setting) (book : Book) → is_of_kind kind v ≡ true → setting_in kind (with_kind kind v book) ≡ v
setting_in-with_kind ThemeSetting (value.Theme theme) book h = refl
setting_in-with_kind NameSetting (value.Name name) book h = refl
setting_in-with_kind LocaleSetting (value.Locale locale) book h = refl
setting_in-with_kind ZoneSetting (value.Zone zone) book h = refl
setting_in-with_kind _ _ book h = absurd (let never : false ≡ true = h in cc)

-- every other setting stays
pub setting_in-with_kind_other : (kind : SettingKind) (v : Setting) (book : Book) (other : SettingKind) → (other ≢ kind)
    → setting_in other (with_kind kind v book) ≡ setting_in other book
setting_in-with_kind_other ThemeSetting (value.Theme theme) book ThemeSetting apart = absurd (apart refl)
setting_in-with_kind_other ThemeSetting (value.Theme theme) book _ apart = refl
setting_in-with_kind_other NameSetting (value.Name name) book NameSetting apart = absurd (apart refl)
setting_in-with_kind_other NameSetting (value.Name name) book _ apart = refl
setting_in-with_kind_other LocaleSetting (value.Locale locale) book LocaleSetting apart = absurd (apart refl)
setting_in-with_kind_other LocaleSetting (value.Locale locale) book _ apart = refl
setting_in-with_kind_other ZoneSetting (value.Zone zone) book ZoneSetting apart = absurd (apart refl)
setting_in-with_kind_other ZoneSetting (value.Zone zone) book _ apart = refl
setting_in-with_kind_other _ _ book _ apart = refl

-- other sheets leave the settings
pub setting_in-with_sheets : (kind : SettingKind) (book : Book) (sheets : List Sheet) → setting_in kind (record book { worksheets = sheets }) ≡ setting_in kind book
setting_in-with_sheets ThemeSetting book sheets = refl
setting_in-with_sheets NameSetting book sheets = refl
setting_in-with_sheets LocaleSetting book sheets = refl
setting_in-with_sheets ZoneSetting book sheets = refl

-- and a setting leaves the sheets
pub sheets-with_kind : (kind : SettingKind) (v : Setting) (book : Book) → (with_kind kind v book).worksheets ≡ book.worksheets
sheets-with_kind ThemeSetting (value.Theme theme) book = refl
sheets-with_kind NameSetting (value.Name name) book = refl
sheets-with_kind LocaleSetting (value.Locale locale) book = refl
sheets-with_kind ZoneSetting (value.Zone zone) book = refl
sheets-with_kind _ _ book = refl

-- what is no setting stays
pub rest-with_kind : (kind : SettingKind) (v : Setting) (book : Book) → without_settings (with_kind kind v book) ≡ without_settings book
rest-with_kind ThemeSetting (value.Theme theme) book = refl
rest-with_kind NameSetting (value.Name name) book = refl
rest-with_kind LocaleSetting (value.Locale locale) book = refl
rest-with_kind ZoneSetting (value.Zone zone) book = refl
rest-with_kind _ _ book = refl

-- a value goes into its setting
pub with_kind-own : (v : Setting) (book : Book) → with_kind (kind_of v) v book ≡ with_setting v book
with_kind-own (value.Theme theme) book = refl
with_kind-own (value.Name name) book = refl
with_kind-own (value.Locale locale) book = refl
with_kind-own (value.Zone zone) book = refl

-- ---- changes

-- a change leads to the setting that a workbook gets
pub change_goes : (setting : Setting) (book : Book) → with_setting (new_setting (change_to setting book)) book ≡ with_setting setting book
change_goes (value.Theme theme) book = refl
change_goes (value.Name name) book = refl
change_goes (value.Locale locale) book = refl
change_goes (value.Zone zone) book = refl

-- taken back it leaves the workbook as it was
pub change_returns : (setting : Setting) (book : Book) → with_setting (old_setting (change_to setting book)) (with_setting setting book) ≡ book
change_returns (value.Theme theme) book = refl
change_returns (value.Name name) book = refl
change_returns (value.Locale locale) book = refl
change_returns (value.Zone zone) book = refl

-- a workbook with another setting keeps its rules
pub setting_well_formed : (setting : Setting) (book : Book) → IsWellFormed book → IsWellFormed (with_setting setting book)
setting_well_formed (value.Theme theme) book rules = rules
setting_well_formed (value.Name name) book rules = rules
setting_well_formed (value.Locale locale) book rules = rules
setting_well_formed (value.Zone zone) book rules = rules
