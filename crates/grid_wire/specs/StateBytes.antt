-- The bytes of the states of sheets.
use Rattle.std.specs.Prelude.{ℕ}
use Rattle.sheet_grid.specs.declared.SheetState.{SheetState}
use Rattle.sheet_grid.specs.declared.SheetState.TheVariants.{Visible, Hidden, VeryHidden}

-- whether the sheet is shown
abbrev pub state_code : SheetState → ℕ
state_code Visible = 0
state_code Hidden = 1
state_code VeryHidden = 2
