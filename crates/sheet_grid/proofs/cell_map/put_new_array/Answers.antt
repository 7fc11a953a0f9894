use Rattle.std.proofs.Common.{◌≡◌, Some, Result, Ok, Err, ap, subst, ◌∙◌}
use Rattle.std.specs.Prelude.{OnErr}
use Rattle.std.specs.FinMap.{remove}
use Rattle.base_values.specs.KeyMap.{with_entry}
use Rattle.base_values.specs.laws.KeyMap.{with_entry-back}
use Rattle.base_values.specs.laws.Places.{position_total, exact_positions}
use Rattle.sheet_grid.proofs.cell_map.put_new_array.Goals as goal

on_err : {A E : Type 0} (result : Result A E) (P : Type 0) → P → OnErr result P
on_err (Ok value) P p = tt
on_err (Err error) P p = p

pub returns-then-is_err-clause-arrays_stay : goal.returns-then-is_err-clause-arrays_stay
returns-then-is_err-clause-arrays_stay c =
    let old = c.args.arrays.now in
    let place = c.args.place in
    on_err c.put-put.result _ (
    c.remove-array.ensures.removed ∙ ap (λ m. remove m place) c.in_ok-_before.ensures.ok
    ∙ subst (λ o. with_entry (with_entry old place (Some c.args.array)) place o ≡ old) c.requires.new (with_entry-back position_total exact_positions old place (Some c.args.array))
    )
