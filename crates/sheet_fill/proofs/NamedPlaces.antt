-- A place of the sheet is found at its row and column.
use Rattle.std.proofs.Common.{◌≡◌, ℤ, pos, ◌≤ℤ◌, to_z, of_z, w32, true, cond, Ok, Err, arith}
use Rattle.std.proofs.lemmas.Int.{ints}
use Rattle.base_values.specs.declared.EditError.TheVariants.{InvalidRow, InvalidColumn}
use Rattle.base_values.specs.declared.Position.{Position}
use Rattle.base_values.specs.Places.{IsLine, IsPlace, is_line, place_of}

line_passes : (last line : ℤ) → IsLine last line → is_line last line ≡ true
line_passes last line on = let low = on.0 in let high = on.1 in grind (arith, ints)

pub place_named : (place : Position) → IsPlace place → place_of place.row place.column ≡ Ok place
unfolding place_of
place_named place inside = λ i.
    cond (line_passes (pos 1048576) place.row inside.0 i) (cond (line_passes (pos 16384) place.column inside.1 i) (Ok place) (Err InvalidColumn)) (Err InvalidRow)

-- the numbers of one fit 32 bits
same_number : (n : ℤ) → pos 1 ≤ℤ n → n ≤ℤ pos 1048576 → to_z w32 (of_z w32 n) ≡ n
same_number n low high = omega (arith, ints)

pub same_numbers : (place : Position) → IsPlace place
    → ◌≡◌ {A = Position} (record { row = to_z w32 (of_z w32 place.row); column = to_z w32 (of_z w32 place.column) }) place
same_numbers place inside =
    let narrow = inside.1.1 in
    let near : place.column ≤ℤ pos 1048576 = omega (arith, ints) in
    λ i. record { row = same_number place.row inside.0.0 inside.0.1 i; column = same_number place.column inside.1.0 near i }
