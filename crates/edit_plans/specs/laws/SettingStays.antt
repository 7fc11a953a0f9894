-- A setting that a workbook has already leaves it as it is, and one that it gets is the entry that changes.
use Rattle.std.proofs.Common.{◌≡◌, true, ap, sym}
use Rattle.std.specs.Cmp.Lexicographic.{bytes_decides}
use Rattle.base_tables.specs.laws.LocaleEquals.{locale_equals}
use Rattle.base_tables.specs.laws.ZoneEquals.{zone_equals}
use Rattle.base_styles.specs.laws.ThemeEquals.{theme_equals}
use Rattle.sheet_grid.specs.Book.{Book}
use Rattle.sheet_history.specs.declared.Setting.{Setting}
use Rattle.sheet_history.specs.declared.Setting.TheVariants as value
use Rattle.sheet_history.specs.Settings.{with_setting}
use Rattle.sheet_history.specs.Records.{IsRecord}
use Rattle.sheet_history.specs.laws.OneEntry.{setting_put_record}
use Rattle.edit_plans.specs.SettingEdits.{has_setting, setting_record}

pub setting_stays : (setting : Setting) (book : Book) → has_setting setting book ≡ true → with_setting setting book ≡ book
setting_stays (value.Theme theme) book has = ap (λ x. record book { theme = x }) (sym ((theme_equals book.theme theme).0 has))
setting_stays (value.Name name) book has = ap (λ x. record book { name = x }) (sym ((bytes_decides book.name name).0 has))
setting_stays (value.Locale locale) book has = ap (λ x. record book { locale = x }) (sym ((locale_equals book.locale locale).0 has))
setting_stays (value.Zone zone) book has = ap (λ x. record book { zone = x }) (sym ((zone_equals book.zone zone).0 has))

-- its change, or nothing where it stays, is the record
pub setting_exact : (setting : Setting) (book : Book) → IsRecord book (with_setting setting book) (setting_record setting book)
setting_exact (value.Theme theme) book = setting_put_record book (value.Theme theme)
setting_exact (value.Name name) book = setting_put_record book (value.Name name)
setting_exact (value.Locale locale) book = setting_put_record book (value.Locale locale)
setting_exact (value.Zone zone) book = setting_put_record book (value.Zone zone)
