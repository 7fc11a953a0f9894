-- The bytes of what lines have of their own.
use Rattle.std.specs.Prelude.{◌≡◌, false, ℕ, List, ◌++◌, IfSome, FitsSigned}
use Rattle.std.specs.Int.{w32}
use Rattle.sheet_grid.specs.Lines.{is_plain}
use Rattle.sheet_grid.specs.declared.LineAttr.{LineAttr}
use Rattle.base_wire.specs.Encoding.{encode_signed, encode_code, boolean_code, encode_option}
use Rattle.grid_wire.specs.StyleBytes.{encode_style, FitsStyle}

-- the size, the style, and whether it is hidden
abbrev pub encode_line : LineAttr → List ℕ
encode_line attr = encode_option (encode_signed w32) attr.size ++ (encode_option encode_style attr.style ++ encode_code boolean_code attr.hidden)

-- a size of 32 bits, a style that bytes can carry, and something of its own
pub record FitsLine (attr : LineAttr) : Type 0 where
  pub size : IfSome attr.size (FitsSigned w32)
  pub style : IfSome attr.style FitsStyle
  pub own : is_plain attr ≡ false

-- what writing asks: the line has something of its own
abbrev pub IsKnownLine : LineAttr → Type 0
IsKnownLine attr = is_plain attr ≡ false
