-- The bytes of changes of what stands at a position, and of what a sheet has.
use Rattle.std.specs.Prelude.{ℕ, ◌<◌, ◌^◌, List, ◌++◌, Option, IfSome}
use Rattle.std.specs.Int.{w32, to_be_bytes}
use Rattle.base_values.specs.declared.Position.{Position}
use Rattle.base_wire.specs.Encoding.{encode_option}
use Rattle.grid_wire.specs.CellBytes.{encode_position, FitsPosition}

-- ---- at a position

-- the id of a sheet, a position, and what stands there before and after
abbrev pub encode_change : {A : Type 0} → (A → List ℕ) → ℕ → Position → Option A → Option A → List ℕ
encode_change encode id place old new = to_be_bytes w32 id ++ (encode_position place ++ (encode_option encode old ++ encode_option encode new))

-- the parts of such a change, which bytes can carry
pub record FitsChange {A : Type 0} (Fits : A → Type 0) (id : ℕ) (position : Position) (before later : Option A) : Type 0 where
  pub sheet : id < 2 ^ 32
  pub place : FitsPosition position
  pub old : IfSome before Fits
  pub new : IfSome later Fits

-- ---- of a sheet

-- the id of a sheet, and what it had before and has after
unfoldable pub encode_sheet_change : {A : Type 0} → (A → List ℕ) → ℕ → A → A → List ℕ
encode_sheet_change encode id old new = to_be_bytes w32 id ++ (encode old ++ encode new)

-- the parts of such a change, which bytes can carry
pub record FitsSheetChange {A : Type 0} (Fits : A → Type 0) (id : ℕ) (before later : A) : Type 0 where
  pub sheet : id < 2 ^ 32
  pub old : Fits before
  pub new : Fits later
