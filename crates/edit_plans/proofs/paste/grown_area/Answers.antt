use Rattle.std.proofs.Common.{◌≡◌, Vec, Global, length, map, sym, w32, to_z, of_z, arith}
use Rattle.std.proofs.lemmas.Int.{ints}
use Rattle.std.proofs.lemmas.List.{length-map}
use Rattle.base_styles.specs.declared.Style.{Style}
use Rattle.edit_plans.specs.RangeEdits.{pasted_area}
use Rattle.edit_plans.proofs.Pasting.{count_far, count_is, fits_same, same_rectangle, too_high, too_wide}
use Rattle.edit_plans.proofs.paste.grown_area.Goals as goal

pub returns-in_err-width-clause-far : goal.returns-in_err-width-clause-far
returns-in_err-width-clause-far c = λ none.
    too_wide
    (pasted_area (map (λ (row : Vec Style Global). row.items) c.args.styles.now) c.args.first_row c.args.first_column c.args.last_row c.args.last_column)
    (count_far c.args.first_column c.args.last_column c.ranges.first_column c.ranges.last_column c.tile_width.result _ c.tile_width.ensures
    (c.grown_count.ensures.far c.in_err-width.was))

pub returns-in_err-height-clause-far : goal.returns-in_err-height-clause-far
returns-in_err-height-clause-far c = λ none.
    let many : length (map (λ (row : Vec Style Global). row.items) c.args.styles.now) ≡ length c.args.styles.now = length-map c.args.styles.now _ in
    too_high
    (pasted_area (map (λ (row : Vec Style Global). row.items) c.args.styles.now) c.args.first_row c.args.first_column c.args.last_row c.args.last_column)
    (count_far c.args.first_row c.args.last_row c.ranges.first_row c.ranges.last_row (length c.args.styles.now) _ (sym many)
    (c.grown_count-2.ensures.far c.in_err-height.was))

pub returns-clause-area : goal.returns-clause-area
returns-clause-area c =
    let wide : to_z w32 (of_z w32 c.in_ok-width.width) ≡ c.in_ok-width.width = omega (arith, ints) in
    let high : to_z w32 (of_z w32 c.in_ok-height.height) ≡ c.in_ok-height.height = omega (arith, ints) in
    let many : length (map (λ (row : Vec Style Global). row.items) c.args.styles.now) ≡ length c.args.styles.now = length-map c.args.styles.now _ in
    same_rectangle _ _ _ _ _ _ _ _ (fits_same c.args.first_row c.ranges.first_row) (fits_same c.args.first_column c.ranges.first_column)
    (count_is c.args.first_column c.args.last_column c.ranges.first_column c.ranges.last_column c.tile_width.result _ c.tile_width.ensures
    c.in_ok-width.width wide c.in_ok-width.ensures.grown)
    (count_is c.args.first_row c.args.last_row c.ranges.first_row c.ranges.last_row (length c.args.styles.now) _ (sym many)
    c.in_ok-height.height high c.in_ok-height.ensures.grown)
