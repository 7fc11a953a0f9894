-- On which sheet the corners of a reference or range stand.
use Rattle.std.specs.Prelude.{ℕ, Bool, List, Option, Some, None}
use Rattle.base_tables.specs.Folding.{same_folded}

-- a node of a formula of the sheet `own` that names this sheet, or none, stands on the sheet `sheet`: names are equal by folding
unfoldable pub is_on_sheet : List ℕ → List ℕ → Option (List ℕ) → Bool
is_on_sheet own sheet (Some name) = same_folded name sheet
is_on_sheet own sheet None = same_folded own sheet
