-- Lines that a caller names, and those that the code hands on.
use Rattle.std.proofs.Common.{ℤ, Result, subst, to_z, of_z, w32, SFits}
use Rattle.std.proofs.lemmas.Int.{to_z-of_z}
use Rattle.base_values.specs.declared.EditError.{EditError}
use Rattle.edit_plans.specs.Edits.{Edit}
use Rattle.open_book.specs.Document.{Document}
use Rattle.open_book.specs.Machine.{edit_of}
use Rattle.open_book.specs.Stands.{Steps}

-- a step of an edit of a number is one of the number that was named
pub as_one : {T : Type 0} (result : Result T EditError) (old new : Document) (edit : ℤ → Edit) (count : ℤ) → SFits w32 count
    → Steps result old new (edit_of (edit (to_z w32 (of_z w32 count)))) → Steps result old new (edit_of (edit count))
as_one result old new edit count fits steps = subst (λ (n : ℤ). Steps result old new (edit_of (edit n))) (to_z-of_z w32 count fits) steps

-- so is one of two numbers
pub as_named : {T : Type 0} (result : Result T EditError) (old new : Document) (edit : ℤ → ℤ → Edit) (first count : ℤ) → SFits w32 first → SFits w32 count
    → Steps result old new (edit_of (edit (to_z w32 (of_z w32 first)) (to_z w32 (of_z w32 count)))) → Steps result old new (edit_of (edit first count))
as_named result old new edit first count first_fits count_fits steps =
    subst (λ (n : ℤ). Steps result old new (edit_of (edit n count))) (to_z-of_z w32 first first_fits)
    (subst (λ (m : ℤ). Steps result old new (edit_of (edit (to_z w32 (of_z w32 first)) m))) (to_z-of_z w32 count count_fits) steps)

-- and one of three
pub as_three : {T : Type 0} (result : Result T EditError) (old new : Document) (edit : ℤ → ℤ → ℤ → Edit) (first last size : ℤ) → SFits w32 first → SFits w32 last
    → SFits w32 size → Steps result old new (edit_of (edit (to_z w32 (of_z w32 first)) (to_z w32 (of_z w32 last)) (to_z w32 (of_z w32 size))))
    → Steps result old new (edit_of (edit first last size))
as_three result old new edit first last size first_fits last_fits size_fits steps =
    as_one result old new (λ n. edit n last size) first first_fits
    (as_named result old new (λ n m. edit (to_z w32 (of_z w32 first)) n m) last size last_fits size_fits steps)
