-- The bytes of edits of lines with what they keep.
use Rattle.std.specs.Prelude.{ℕ, List, ◌++◌, ◌<◌, ◌^◌}
use Rattle.std.specs.Int.{w32, to_be_bytes}
use Rattle.line_edits.specs.declared.EditKind.{EditKind}
use Rattle.sheet_lines.specs.declared.KeptLines.{KeptLines}
use Rattle.sheet_history.specs.declared.LineAxis.{LineAxis}
use Rattle.sheet_history.specs.declared.LineAxis.TheVariants.{Rows, Columns}
use Rattle.base_wire.specs.Encoding.{encode_code}
use Rattle.sheet_wire.specs.EditBytes.{encode_edit, FitsEdit}
use Rattle.sheet_wire.specs.KeptBytes.{encode_kept, FitsKept}

-- rows or columns
abbrev pub axis_code : LineAxis → ℕ
axis_code Rows = 0
axis_code Columns = 1

-- the id of the sheet, the axis, the edit, and what taking it back does not give
abbrev pub encode_lines : ℕ → LineAxis → EditKind → KeptLines → List ℕ
encode_lines id axis edit kept = to_be_bytes w32 id ++ (encode_code axis_code axis ++ (encode_edit edit ++ encode_kept kept))

-- the parts of an edit of lines, which bytes can carry
pub record FitsLines (id : ℕ) (kind : EditKind) (part : KeptLines) : Type 0 where
  pub sheet : id < 2 ^ 32
  pub edit : FitsEdit kind
  pub kept : FitsKept part
