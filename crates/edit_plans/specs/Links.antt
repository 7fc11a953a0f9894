-- Links that are put and taken away.
use Rattle.std.proofs.Common.{ℕ, ℤ, Option, Result}
use Rattle.base_values.specs.declared.EditError.{EditError}
use Rattle.sheet_grid.specs.declared.Link.{Link}
use Rattle.sheet_grid.specs.Sheet.{link_put}
use Rattle.sheet_grid.specs.Book.{Book, sheet_edit}

-- the workbook with a link, or none, at a place, or the first refusal: no such sheet, the row outside, the column outside
unfoldable pub link_set : ℕ → ℤ → ℤ → Option Link → Book → Result Book EditError
link_set index row column entry book = sheet_edit book index (λ sheet. link_put sheet row column entry)
