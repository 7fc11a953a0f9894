use Rattle.std.proofs.Common.{◌≡◌, ℤ, pos, ◌+ℤ◌, ◌-ℤ◌, ◌≤ℤ◌, FitsSigned, to_z, of_z, w32, rules, arith}
use Rattle.std.proofs.lemmas.Int.{ints}
use Rattle.sheet_fill.proofs.Tiling.{columns_high, columns_low, repeated_place, rows_high, rows_low}
use Rattle.sheet_fill.proofs.tiles.shifted.Goals as goal

fits : (line by count : ℤ) → by ≡ count → pos 1 ≤ℤ line → line ≤ℤ pos 1048576 → (pos 0 -ℤ pos 2097152) ≤ℤ count → count ≤ℤ pos 2097152
    → FitsSigned w32 (to_z w32 (of_z w32 line) +ℤ to_z w32 (of_z w32 by))
fits line by count is first last low high = omega (arith, ints)

same : (line by count : ℤ) → by ≡ count → pos 1 ≤ℤ line → line ≤ℤ pos 1048576 → (pos 0 -ℤ pos 2097152) ≤ℤ count → count ≤ℤ pos 2097152
    → to_z w32 (of_z w32 (to_z w32 (of_z w32 line) +ℤ to_z w32 (of_z w32 by))) ≡ line +ℤ count
same line by count is first last low high = omega (arith, ints)

near : (line : ℤ) → line ≤ℤ pos 16384 → line ≤ℤ pos 1048576
near line high = omega (arith, ints)

pub overflow_add-result : goal.overflow_add-result
overflow_add-result g c =
    let a = g.A.Axis.along in
    let lawful = g.met.A.Axis.lawful in
    let place = repeated_place c.args.range c.requires.range c.args.merge c.requires.repeated in
    let moved : c.count_of.result ≡ a.count_of c.args.by (pos 0) = search rules in
    fits c.args.merge.row c.count_of.result (a.count_of c.args.by (pos 0)) moved place.0.0 place.0.1
    (rows_low a lawful c.args.by c.requires.low c.requires.high) (rows_high a lawful c.args.by c.requires.low c.requires.high)

pub overflow_add-result-2 : goal.overflow_add-result-2
overflow_add-result-2 g c =
    let a = g.A.Axis.along in
    let lawful = g.met.A.Axis.lawful in
    let place = repeated_place c.args.range c.requires.range c.args.merge c.requires.repeated in
    let moved : c.count_of-2.result ≡ a.count_of (pos 0) c.args.by = search rules in
    fits c.args.merge.column c.count_of-2.result (a.count_of (pos 0) c.args.by) moved place.1.0 (near c.args.merge.column place.1.1)
    (columns_low a lawful c.args.by c.requires.low c.requires.high) (columns_high a lawful c.args.by c.requires.low c.requires.high)

pub returns : goal.returns
returns g c =
    let a = g.A.Axis.along in
    let lawful = g.met.A.Axis.lawful in
    let place = repeated_place c.args.range c.requires.range c.args.merge c.requires.repeated in
    let by_rows : c.count_of.result ≡ a.count_of c.args.by (pos 0) = search rules in
    let by_columns : c.count_of-2.result ≡ a.count_of (pos 0) c.args.by = search rules in
    let wide : to_z w32 (of_z w32 c.args.merge.width) ≡ c.args.merge.width = search rules in
    let high : to_z w32 (of_z w32 c.args.merge.height) ≡ c.args.merge.height = search rules in
    let row = same c.args.merge.row c.count_of.result (a.count_of c.args.by (pos 0)) by_rows place.0.0 place.0.1
    (rows_low a lawful c.args.by c.requires.low c.requires.high) (rows_high a lawful c.args.by c.requires.low c.requires.high) in
    let column = same c.args.merge.column c.count_of-2.result (a.count_of (pos 0) c.args.by) by_columns place.1.0 (near c.args.merge.column place.1.1)
    (columns_low a lawful c.args.by c.requires.low c.requires.high) (columns_high a lawful c.args.by c.requires.low c.requires.high) in
    λ i. record { row = row i; column = column i; width = wide i; height = high i }
