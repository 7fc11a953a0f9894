-- The bytes of changes of what lines have of their own.
use Rattle.std.specs.Prelude.{ℕ, ◌<◌, ◌^◌, ℤ, List, ◌++◌, Option, IfSome, FitsSigned}
use Rattle.std.specs.Int.{w32, to_be_bytes}
use Rattle.sheet_grid.specs.declared.LineAttr.{LineAttr}
use Rattle.base_wire.specs.Encoding.{encode_option, encode_signed}
use Rattle.grid_wire.specs.LineBytes.{encode_line, FitsLine}

-- the id of a sheet, a line, and what it has before and after
abbrev pub encode_attr_change : ℕ → ℤ → Option LineAttr → Option LineAttr → List ℕ
encode_attr_change id line old new = to_be_bytes w32 id ++ (encode_signed w32 line ++ (encode_option encode_line old ++ encode_option encode_line new))

-- the parts of such a change, which bytes can carry
pub record FitsAttrChange (id : ℕ) (at : ℤ) (before later : Option LineAttr) : Type 0 where
  pub sheet : id < 2 ^ 32
  pub line : FitsSigned w32 at
  pub old : IfSome before FitsLine
  pub new : IfSome later FitsLine
