-- The bytes of merged cells.
use Rattle.std.specs.Prelude.{ℕ, List, ◌++◌, FitsSigned}
use Rattle.std.specs.Int.{w32}
use Rattle.base_axis.specs.declared.MergedCell.{MergedCell}
use Rattle.base_wire.specs.Encoding.{encode_signed, encode_list, FitsItems}

-- its first row and column, and how many columns wide and rows high it is
unfoldable pub encode_merge : MergedCell → List ℕ
encode_merge merge = encode_signed w32 merge.row ++ (encode_signed w32 merge.column ++ (encode_signed w32 merge.width ++ encode_signed w32 merge.height))

-- four numbers of 32 bits, inside the sheet or not
pub record FitsMerge (merge : MergedCell) : Type 0 where
  pub row : FitsSigned w32 merge.row
  pub column : FitsSigned w32 merge.column
  pub width : FitsSigned w32 merge.width
  pub height : FitsSigned w32 merge.height

-- the merges of a sheet, in their order
abbrev pub encode_merges : List MergedCell → List ℕ
encode_merges = encode_list encode_merge

abbrev pub FitsMerges : List MergedCell → Type 0
FitsMerges = FitsItems FitsMerge
