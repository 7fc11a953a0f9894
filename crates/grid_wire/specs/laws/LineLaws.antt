-- The laws of the bytes of what lines have of their own.
use Rattle.std.proofs.Common.{◌≡◌, ◌≤◌, ◌++◌, length, Bool, true, false, refl, arith}
use Rattle.std.proofs.lemmas.List.{length-append}
use Rattle.std.specs.Prelude.{not}
use Rattle.std.specs.Int.{w32}
use Rattle.sheet_grid.specs.Lines.{is_plain}
use Rattle.sheet_grid.specs.declared.LineAttr.{LineAttr}
use Rattle.base_wire.specs.Encoding.{encode_signed, encode_code, boolean_code, encode_option}
use Rattle.base_wire.specs.laws.Format.{Format, option_format}
use Rattle.base_wire.specs.laws.Formats.{both_format, check_format, made_format}
use Rattle.base_wire.specs.laws.Parts.{signed_format, boolean_format, option_some}
use Rattle.grid_wire.specs.StyleBytes.{encode_style}
use Rattle.grid_wire.specs.laws.CellFormats.{style_format}
use Rattle.grid_wire.specs.LineBytes.{encode_line, FitsLine}
use Rattle.grid_wire.specs.laws.Reading.{line_made, size_at, own_style_at, line_at}

not_plain : (b : Bool) → b ≡ false → not b ≡ true
not_plain true h = cc
not_plain false h = refl

plain_not : (b : Bool) → not b ≡ true → b ≡ false
plain_not true h = cc
plain_not false h = refl

pub line_format : Format FitsLine encode_line line_at
unfolding line_at size_at own_style_at
line_format =
    made_format (check_format (both_format (option_format signed_format) (both_format (option_format style_format) boolean_format)) (λ x. not (is_plain (line_made x)))) line_made (λ attr. (attr.size, (attr.style, attr.hidden)))
    (λ attr fits. (refl, ((fits.size, (fits.style, tt)), not_plain (is_plain attr) fits.own)))
    (λ x fits. (refl, record { size = fits.0.0; style = fits.0.1.0; own = plain_not (is_plain (line_made x)) fits.1 }))

pub line_some : (attr : LineAttr) → 1 ≤ length (encode_line attr)
line_some attr = omega (arith, option_some (encode_signed w32) attr.size, length-append (encode_option (encode_signed w32) attr.size) (encode_option encode_style attr.style ++ encode_code boolean_code attr.hidden))
