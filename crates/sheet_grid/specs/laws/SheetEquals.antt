-- `==` of sheets and workbooks is equality of their values.
use Rattle.std.proofs.Common.{◌≡◌, ap}
use Rattle.std.specs.Bool.{Decides}
use Rattle.std.specs.Cmp.{signed_Decides, unsigned_Decides, booleans_Decides}
use Rattle.std.specs.Cmp.Lexicographic.{bytes_decides, pointwise_decides}
use Rattle.std.proofs.lemmas.Bool.Decides.{Decides-like, Decides-and}
use Rattle.base_values.specs.laws.PositionEquals.{position_equals}
use Rattle.base_values.specs.laws.KeyMap.{same_entries_decides}
use Rattle.base_axis.specs.laws.MergedEquals.{merged_equals}
use Rattle.base_styles.specs.laws.ColorEquals.{color_equals}
use Rattle.base_styles.specs.laws.ThemeEquals.{theme_equals}
use Rattle.base_tables.specs.laws.LocaleEquals.{locale_equals}
use Rattle.base_tables.specs.laws.ZoneEquals.{zone_equals}
use Rattle.defined_names.specs.laws.NameEquals.{defined_name_equals}
use Rattle.format_rules.specs.laws.RuleEquals.{formatting_equals}
use Rattle.sheet_grid.specs.laws.StateEquals.{state_equals}
use Rattle.sheet_grid.specs.laws.CellEquals.{cell_equals}
use Rattle.sheet_grid.specs.laws.LineEquals.{link_equals, line_attr_equals}
use Rattle.sheet_grid.specs.Sheet.{Sheet}
use Rattle.sheet_grid.specs.Book.{Book}
use Rattle.sheet_grid.specs.contracts.worksheet.WorksheetPartialEq.TheImpl as worksheet
use Rattle.sheet_grid.specs.contracts.workbook.WorkbookPartialEq.TheImpl as workbook

pub worksheet_equals : (a b : Sheet) → Decides (worksheet.ghosts.eq a b) (a ≡ b)
worksheet_equals a b =
    Decides-like _
    (λ p i. record { id = p.0 i; name = p.1.0 i; state = p.1.1.0 i; color = p.1.1.1.0 i; show_grid_lines = p.1.1.1.1.0 i; frozen_rows = p.1.1.1.1.1.0 i; frozen_columns = p.1.1.1.1.1.1.0 i; cells = p.1.1.1.1.1.1.1.0 i; links = p.1.1.1.1.1.1.1.1.0 i; rows = p.1.1.1.1.1.1.1.1.1.0 i; columns = p.1.1.1.1.1.1.1.1.1.1.0 i; merges = p.1.1.1.1.1.1.1.1.1.1.1.0 i; formattings = p.1.1.1.1.1.1.1.1.1.1.1.1 i })
    (λ e. (ap (λ x. x.id) e, (ap (λ x. x.name) e, (ap (λ x. x.state) e, (ap (λ x. x.color) e, (ap (λ x. x.show_grid_lines) e, (ap (λ x. x.frozen_rows) e, (ap (λ x. x.frozen_columns) e, (ap (λ x. x.cells) e, (ap (λ x. x.links) e, (ap (λ x. x.rows) e, (ap (λ x. x.columns) e, (ap (λ x. x.merges) e, ap (λ x. x.formattings) e)))))))))))))
    (Decides-and _ _ (unsigned_Decides _ _)
    (Decides-and _ _ (bytes_decides _ _)
    (Decides-and _ _ (state_equals _ _)
    (Decides-and _ _ (color_equals _ _)
    (Decides-and _ _ (booleans_Decides _ _)
    (Decides-and _ _ (signed_Decides _ _)
    (Decides-and _ _ (signed_Decides _ _)
    (Decides-and _ _ (same_entries_decides position_equals cell_equals _ _)
    (Decides-and _ _ (same_entries_decides position_equals link_equals _ _)
    (Decides-and _ _ (same_entries_decides signed_Decides line_attr_equals _ _)
    (Decides-and _ _ (same_entries_decides signed_Decides line_attr_equals _ _)
    (Decides-and _ _ (pointwise_decides merged_equals _ _)
    (pointwise_decides formatting_equals _ _)))))))))))))

pub workbook_equals : (a b : Book) → Decides (workbook.ghosts.eq a b) (a ≡ b)
workbook_equals a b =
    Decides-like _
    (λ p i. record { name = p.0 i; locale = p.1.0 i; zone = p.1.1.0 i; theme = p.1.1.1.0 i; names = p.1.1.1.1.0 i; worksheets = p.1.1.1.1.1 i })
    (λ e. (ap (λ x. x.name) e, (ap (λ x. x.locale) e, (ap (λ x. x.zone) e, (ap (λ x. x.theme) e, (ap (λ x. x.names) e, ap (λ x. x.worksheets) e))))))
    (Decides-and _ _ (bytes_decides _ _)
    (Decides-and _ _ (locale_equals _ _)
    (Decides-and _ _ (zone_equals _ _)
    (Decides-and _ _ (theme_equals _ _)
    (Decides-and _ _ (pointwise_decides defined_name_equals _ _)
    (pointwise_decides worksheet_equals _ _))))))
