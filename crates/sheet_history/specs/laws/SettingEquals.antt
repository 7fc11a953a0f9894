-- `==` of settings of a workbook, and of their changes, is equality of their values.
use Rattle.std.proofs.Common.{◌≡◌, ap}
use Rattle.std.specs.Bool.{Decides}
use Rattle.std.specs.Cmp.Lexicographic.{bytes_decides}
use Rattle.std.proofs.lemmas.Bool.Decides.{Decides-like, Decides-and}
use Rattle.base_tables.specs.laws.LocaleEquals.{locale_equals}
use Rattle.base_tables.specs.laws.ZoneEquals.{zone_equals}
use Rattle.base_styles.specs.laws.ThemeEquals.{theme_equals}
use Rattle.sheet_history.specs.declared.setting.Setting.{Setting}
use Rattle.sheet_history.specs.declared.setting.Setting.TheVariants as value
use Rattle.sheet_history.specs.declared.setting.SettingChange.{SettingChange}
use Rattle.sheet_history.specs.declared.setting.SettingChange.TheVariants as change
use Rattle.sheet_history.specs.contracts.setting.SettingPartialEq.TheImpl as setting
use Rattle.sheet_history.specs.contracts.setting.SettingChangePartialEq.TheImpl as changes

pub setting_equals : (a b : Setting) → Decides (setting.ghosts.eq a b) (a ≡ b)
setting_equals (value.Theme x) (value.Theme y) = Decides-like _ (ap value.Theme) (λ e. cc) (theme_equals x y)
setting_equals (value.Name x) (value.Name y) = Decides-like _ (ap value.Name) (λ e. cc) (bytes_decides x y)
setting_equals (value.Locale x) (value.Locale y) = Decides-like _ (ap value.Locale) (λ e. cc) (locale_equals x y)
setting_equals (value.Zone x) (value.Zone y) = Decides-like _ (ap value.Zone) (λ e. cc) (zone_equals x y)
setting_equals _ _ = (λ e. cc, λ e. cc)

pub setting_change_equals : (a b : SettingChange) → Decides (changes.ghosts.eq a b) (a ≡ b)
setting_change_equals (change.Theme o n) (change.Theme p m) =
    Decides-like _ (λ h i. change.Theme (h.0 i) (h.1 i)) (λ e. (cc, cc)) (Decides-and _ _ (theme_equals o p) (theme_equals n m))
setting_change_equals (change.Name o n) (change.Name p m) =
    Decides-like _ (λ h i. change.Name (h.0 i) (h.1 i)) (λ e. (cc, cc)) (Decides-and _ _ (bytes_decides o p) (bytes_decides n m))
setting_change_equals (change.Locale o n) (change.Locale p m) =
    Decides-like _ (λ h i. change.Locale (h.0 i) (h.1 i)) (λ e. (cc, cc)) (Decides-and _ _ (locale_equals o p) (locale_equals n m))
setting_change_equals (change.Zone o n) (change.Zone p m) =
    Decides-like _ (λ h i. change.Zone (h.0 i) (h.1 i)) (λ e. (cc, cc)) (Decides-and _ _ (zone_equals o p) (zone_equals n m))
setting_change_equals _ _ = (λ e. cc, λ e. cc)
