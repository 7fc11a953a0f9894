-- Whether two entries are equal is told by their kind's `==`.
use Rattle.std.proofs.Common.{◌≡◌, ap}
use Rattle.std.specs.Bool.{Decides}
use Rattle.std.specs.Cmp.Lexicographic.{pointwise_decides}
use Rattle.std.proofs.lemmas.Bool.Decides.{Decides-like}
use Rattle.base_axis.specs.laws.MergedEquals.{merged_equals}
use Rattle.base_values.specs.laws.Decided.{option_equals}
use Rattle.sheet_grid.specs.laws.CellEquals.{same_entry_decides}
use Rattle.sheet_grid.specs.laws.LineEquals.{line_attr_equals, link_equals}
use Rattle.sheet_history.specs.Entries.{EntryValue}
use Rattle.sheet_history.specs.Entries.EntryValue.{CellValue, LinkValue, MergesValue, FieldValue, AttrValue, SettingValue}
use Rattle.sheet_history.specs.Records.{same_entry_value}
use Rattle.sheet_history.specs.laws.FieldEquals.{sheet_field_equals}
use Rattle.sheet_history.specs.laws.SettingEquals.{setting_equals}

pub same_value_decides : (a b : EntryValue) → Decides (same_entry_value a b) (a ≡ b)
same_value_decides (CellValue a) (CellValue b) = Decides-like _ (ap CellValue) (λ e. cc) (same_entry_decides a b)
same_value_decides (LinkValue a) (LinkValue b) = Decides-like _ (ap LinkValue) (λ e. cc) (option_equals link_equals a b)
same_value_decides (MergesValue a) (MergesValue b) = Decides-like _ (ap MergesValue) (λ e. cc) (pointwise_decides merged_equals a b)
same_value_decides (FieldValue a) (FieldValue b) = Decides-like _ (ap FieldValue) (λ e. cc) (sheet_field_equals a b)
same_value_decides (AttrValue a) (AttrValue b) = Decides-like _ (ap AttrValue) (λ e. cc) (option_equals line_attr_equals a b)
same_value_decides (SettingValue a) (SettingValue b) = Decides-like _ (ap SettingValue) (λ e. cc) (setting_equals a b)
same_value_decides _ _ = (λ e. cc, λ e. cc)
