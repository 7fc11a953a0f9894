-- The laws of the bytes of keys that are inside the sheet, and of maps from them.
use Rattle.std.proofs.Common.{◌≡◌, ℕ, ℤ, pos, negsuc, ◌≤ℤ◌, true, List, refl, arith, rules}
use Rattle.std.specs.Prelude.{FitsSigned}
use Rattle.std.proofs.lemmas.Bool.{and_parts, and_from}
use Rattle.std.proofs.lemmas.Int.{ints}
use Rattle.std.proofs.lemmas.Map.Lookups.{exact_signed}
use Rattle.std.specs.Cmp.{int_cmp_total}
use Rattle.std.specs.Int.{w32}
use Rattle.std.specs.Ordering.{int_cmp}
use Rattle.base_values.specs.declared.Position.{Position}
use Rattle.base_values.specs.Places.{IsLine, IsPlace, is_line, position_cmp, is_place}
use Rattle.base_values.specs.laws.Places.{position_total, exact_positions}
use Rattle.base_wire.specs.laws.Reading.{Reader}
use Rattle.base_wire.specs.Encoding.{encode_signed}
use Rattle.base_wire.specs.laws.Format.{Format}
use Rattle.base_wire.specs.laws.Formats.{check_format}
use Rattle.base_wire.specs.laws.Parts.{signed_format}
use Rattle.base_wire.specs.laws.Encoded.{fits_otherwise}
use Rattle.grid_wire.specs.CellBytes.{encode_position, FitsPosition}
use Rattle.grid_wire.specs.laws.CellFormats.{position_format, position_some}
use Rattle.base_wire.specs.MapBytes.{encode_map, FitsMap}
use Rattle.base_wire.specs.laws.MapLaws.{map_format}
use Rattle.grid_wire.specs.laws.Reading.{place_at, axis_line_at, place_map_at, axis_map_at}

-- what fits in one way fits in another, and the other way round
pub alike_format : {A : Type 0} {F G : A → Type 0} {s : A → List ℕ} {r : Reader A} → ((x : A) → F x → G x) → ((x : A) → G x → F x) → Format F s r → Format G s r
alike_format forth back law = record {
  again = record { again = λ x rest fits. law.again.again x rest (back x fits) };
  encoded = fits_otherwise forth law.encoded;
  plain = law.plain;
}

-- ---- lines

pub line_passes : (last line : ℤ) → IsLine last line → is_line last line ≡ true
line_passes last line inside = grind (arith, inside)

pub line_inside : (last line : ℤ) → is_line last line ≡ true → IsLine last line
line_inside last line passes = grind (arith, passes)

line_fits : (last line : ℤ) → last ≤ℤ pos 1048576 → IsLine last line → FitsSigned w32 line
line_fits last (pos n) high inside = record { sfits = omega (arith, ints) }
line_fits last (negsuc n) high inside = absurd (omega (arith, ints))

pub axis_line_format : (last : ℤ) → last ≤ℤ pos 1048576 → Format (IsLine last) (encode_signed w32) (axis_line_at last)
unfolding axis_line_at
axis_line_format last high =
    alike_format (λ line fits. line_inside last line fits.1) (λ line inside. (line_fits last line high inside, line_passes last line inside)) (check_format signed_format (is_line last))

-- ---- positions

pub place_passes : (place : Position) → IsPlace place → is_place place ≡ true
place_passes place inside = and_from (is_line (pos 1048576) place.row) (is_line (pos 16384) place.column) (line_passes (pos 1048576) place.row inside.0) (line_passes (pos 16384) place.column inside.1)

pub place_inside : (place : Position) → is_place place ≡ true → IsPlace place
place_inside place passes =
    let p = and_parts (is_line (pos 1048576) place.row) (is_line (pos 16384) place.column) passes in
    (line_inside (pos 1048576) place.row p.0, line_inside (pos 16384) place.column p.1)

place_fits : (place : Position) → IsPlace place → FitsPosition place
place_fits place inside = record {
  row = line_fits (pos 1048576) place.row (search rules) inside.0;
  column = line_fits (pos 16384) place.column (search rules) inside.1;
}

pub place_format : Format IsPlace encode_position place_at
unfolding place_at
place_format = alike_format (λ place fits. place_inside place fits.1) (λ place inside. (place_fits place inside, place_passes place inside)) (check_format position_format is_place)

-- ---- maps

module _ {X : Type 0} {G : X → Type 0} {t : X → List ℕ} {n : Reader X} where
  pub place_map_format : Format G t n → Format (FitsMap {order = position_cmp} IsPlace G) (encode_map encode_position t) (place_map_at n)
  unfolding place_map_at
  place_map_format value = map_format position_total exact_positions place_format value position_some (λ m. m) (λ m. m) (λ m. refl) (λ m. refl)

  pub axis_map_format : (last : ℤ) → last ≤ℤ pos 1048576 → Format G t n → Format (FitsMap {order = int_cmp} (IsLine last) G) (encode_map (encode_signed w32) t) (axis_map_at last n)
  unfolding axis_map_at
  axis_map_format last high value = map_format int_cmp_total exact_signed (axis_line_format last high) value (λ line. omega arith) (λ m. m) (λ m. m) (λ m. refl) (λ m. refl)
