-- The law of changes of what lines have of their own.
use Rattle.std.specs.Prelude.{ℕ, ◌<◌, ◌^◌, ℤ, Option, IfSome, FitsSigned}
use Rattle.std.specs.Int.{w32, to_be_bytes}
use Rattle.sheet_grid.specs.declared.LineAttr.{LineAttr}
use Rattle.base_wire.specs.Encoding.{Both, encode_both, encode_option, encode_signed}
use Rattle.base_wire.specs.laws.Format.{Format, option_format}
use Rattle.base_wire.specs.laws.Formats.{both_format}
use Rattle.base_wire.specs.laws.Parts.{short_format, signed_format}
use Rattle.grid_wire.specs.LineBytes.{encode_line, FitsLine}
use Rattle.grid_wire.specs.laws.LineLaws.{line_format}
use Rattle.sheet_wire.specs.laws.Reading.{attr_parts_at, own_at}

-- what bytes can carry of its parts, and how they are encoded
abbrev pub AttrFits : ℕ × (ℤ × (Option LineAttr × Option LineAttr)) → Type 0
AttrFits = Both (λ id. id < 2 ^ 32) (Both (FitsSigned w32) (Both (λ old. IfSome old FitsLine) (λ new. IfSome new FitsLine)))

pub attr_parts_format : Format AttrFits (encode_both (to_be_bytes w32) (encode_both (encode_signed w32) (encode_both (encode_option encode_line) (encode_option encode_line)))) attr_parts_at
unfolding own_at
attr_parts_format = both_format short_format (both_format signed_format (both_format (option_format line_format) (option_format line_format)))
