-- `==` of what is kept of a deleted sheet is equality of its values.
use Rattle.std.proofs.Common.{◌≡◌, ap}
use Rattle.std.specs.Bool.{Decides}
use Rattle.std.specs.Cmp.{unsigned_Decides}
use Rattle.std.proofs.lemmas.Bool.Decides.{Decides-like, Decides-and}
use Rattle.base_values.specs.laws.KeyMap.{same_entries_decides}
use Rattle.defined_names.specs.laws.NameEquals.{defined_name_equals}
use Rattle.sheet_grid.specs.laws.SheetEquals.{worksheet_equals}
use Rattle.book_sheets.specs.declared.kept_sheet.KeptSheet.{KeptSheet}
use Rattle.book_sheets.specs.contracts.kept_sheet.KeptSheetPartialEq.TheImpl as kept

pub kept_sheet_equals : (a b : KeptSheet) → Decides (kept.ghosts.eq a b) (a ≡ b)
kept_sheet_equals a b =
    Decides-like _ (λ p i. record { sheet = p.0 i; names = p.1 i }) (λ e. (ap (λ x. x.sheet) e, ap (λ x. x.names) e))
    (Decides-and _ _ (worksheet_equals _ _) (same_entries_decides unsigned_Decides defined_name_equals _ _))
