-- The bytes of changes of the fields of a sheet, and of changes of the list of sheets.
use Rattle.std.specs.Prelude.{ℕ, ℤ, ◌<◌, ◌^◌, Bool, List, ◌++◌, IfSome, FitsSigned}
use Rattle.std.specs.FinMap.{get}
use Rattle.std.specs.Int.{w32, w64, to_be_bytes}
use Rattle.base_styles.specs.declared.Color.{Color}
use Rattle.sheet_grid.specs.declared.SheetState.{SheetState}
use Rattle.book_sheets.specs.declared.KeptSheet.{KeptSheet}
use Rattle.sheet_history.specs.declared.FieldChange.{FieldChange}
use Rattle.sheet_history.specs.declared.FieldChange.TheVariants as change
use Rattle.base_wire.specs.Encoding.{Any, encode_code, boolean_code, encode_signed, encode_text, FitsText}
use Rattle.base_wire.specs.MapBytes.{encode_map, FitsMap}
use Rattle.grid_wire.specs.StyleBytes.{encode_color, FitsColor}
use Rattle.grid_wire.specs.StateBytes.{state_code}
use Rattle.grid_wire.specs.NameBytes.{encode_name, FitsName, IsKnownName}
use Rattle.grid_wire.specs.SheetBytes.{encode_sheet, FitsSheet, IsKnownSheet}
use Rattle.sheet_wire.specs.ChangeBytes.{encode_sheet_change, FitsSheetChange}

-- ---- fields of a sheet

abbrev pub encode_color_change : ℕ → Color → Color → List ℕ
encode_color_change = encode_sheet_change encode_color

abbrev pub encode_state_change : ℕ → SheetState → SheetState → List ℕ
encode_state_change = encode_sheet_change (encode_code state_code)

abbrev pub encode_grid_change : ℕ → Bool → Bool → List ℕ
encode_grid_change = encode_sheet_change (encode_code boolean_code)

abbrev pub encode_count_change : ℕ → ℤ → ℤ → List ℕ
encode_count_change = encode_sheet_change (encode_signed w32)

-- the parts of a change of a field, which bytes can carry
abbrev pub FitsField : ℕ → FieldChange → Type 0
FitsField id (change.State old new) = FitsSheetChange Any id old new
FitsField id (change.Color old new) = FitsSheetChange FitsColor id old new
FitsField id (change.GridLines old new) = FitsSheetChange Any id old new
FitsField id (change.FrozenRows old new) = FitsSheetChange (FitsSigned w32) id old new
FitsField id (change.FrozenColumns old new) = FitsSheetChange (FitsSigned w32) id old new

-- ---- new sheets and copies

-- the id of the sheet, the index where it comes, and its name
unfoldable pub encode_new : ℕ → ℕ → List ℕ → List ℕ
encode_new id index name = to_be_bytes w32 id ++ (to_be_bytes w32 index ++ encode_text name)

-- the parts of a new sheet, which bytes can carry
pub record FitsNew (id at : ℕ) (text : List ℕ) : Type 0 where
  pub sheet : id < 2 ^ 32
  pub index : at < 2 ^ 32
  pub name : FitsText text

-- the id of the sheet that is copied, and those parts of the copy
unfoldable pub encode_copy : ℕ → ℕ → ℕ → List ℕ → List ℕ
encode_copy source id index name = to_be_bytes w32 source ++ encode_new id index name

-- the parts of a copy, which bytes can carry
pub record FitsCopy (original id at : ℕ) (text : List ℕ) : Type 0 where
  pub source : original < 2 ^ 32
  pub copy : FitsNew id at text

-- ---- deleted sheets

-- the sheet, and the names of its scope by their places
unfoldable pub encode_kept_sheet : KeptSheet → List ℕ
encode_kept_sheet kept = encode_sheet kept.sheet ++ encode_map (to_be_bytes w64) encode_name kept.names

-- a sheet and names that bytes can carry
pub record FitsKeptSheet (kept : KeptSheet) : Type 0 where
  pub sheet : FitsSheet kept.sheet
  pub names : FitsMap (λ place. place < 2 ^ 64) FitsName kept.names

-- what encoding asks of it: numbers are canonical, formulas are at most 64 deep, and each line has something of its own
pub record IsKnownKeptSheet (kept : KeptSheet) : Type 0 where
  pub sheet : IsKnownSheet kept.sheet
  pub names : (place : ℕ) → IfSome (get kept.names place) IsKnownName

-- the index where the sheet stood, and what is kept of it
unfoldable pub encode_deletion : ℕ → KeptSheet → List ℕ
encode_deletion index kept = to_be_bytes w32 index ++ encode_kept_sheet kept

-- an index and a kept sheet that bytes can carry
pub record FitsDeletion (at : ℕ) (part : KeptSheet) : Type 0 where
  pub index : at < 2 ^ 32
  pub kept : FitsKeptSheet part

-- ---- moved sheets

-- the id of the sheet, and the indexes between which it moves
unfoldable pub encode_move : ℕ → ℕ → ℕ → List ℕ
encode_move id from to = to_be_bytes w32 id ++ (to_be_bytes w32 from ++ to_be_bytes w32 to)

-- three numbers of 32 bits
pub record FitsMove (id before later : ℕ) : Type 0 where
  pub sheet : id < 2 ^ 32
  pub from : before < 2 ^ 32
  pub to : later < 2 ^ 32
