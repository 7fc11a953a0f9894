-- What plans of edits of the defined names return.
use Rattle.std.proofs.Common.{◌≡◌, List, [], ◌∷◌, length, true, Result, Ok, Err, refl, ap}
use Rattle.std.specs.Prelude.{IfOk, IsOk, IsOkUnless}
use Rattle.base_values.specs.declared.EditError.{EditError}
use Rattle.base_values.specs.declared.EditError.TheVariants.{NoMemory}
use Rattle.base_values.specs.Answers.{Returns, map_ok}
use Rattle.sheet_grid.specs.Book.{Book}
use Rattle.sheet_rules.specs.WellFormed.{IsWellFormed}
use Rattle.name_edits.specs.declared.NameChange.{NameChange}
use Rattle.name_edits.specs.NameChanges.{name_made}
use Rattle.name_edits.specs.NameDiffs.{has_place}
use Rattle.name_edits.specs.NameEdits.{NameEdit, name_change}
use Rattle.name_edits.specs.laws.LaterRules.{edited}
use Rattle.name_edits.specs.laws.Lists.{place_before}
use Rattle.sheet_history.specs.declared.Diff.{Diff}
use Rattle.sheet_history.specs.Diffs.{IsCanonicalList}
use Rattle.edit_plans.specs.Edits.Edit.{ChangeNames}
use Rattle.edit_plans.specs.NamedEdits.{names_edited, name_diff}
use Rattle.edit_plans.specs.Plans.{PlansSheets}
use Rattle.edit_plans.specs.SheetEdits.{one_diff}
use Rattle.edit_plans.specs.laws.SheetPlans.{one_planned}

module _ (edit : NameEdit) (book : Book) where
  still_ok : (r : Result NameChange EditError) → IsOk r → IsOk (map_ok (λ change. name_made change book) r)
  still_ok (Ok change) ok = refl
  still_ok (Err error) ok = absurd (cc)

  -- where the change is not made
  pub change_refused : (error : EditError) → Returns {T = NameChange} (Err error) (name_change edit book) → PlansSheets (ChangeNames edit) (Err error) book
  unfolding names_edited
  change_refused error returned = record {
    planned = tt;
    refused = λ other. ap (map_ok (λ change. name_made change book)) (returned.refused other);
    memory = λ short. still_ok (name_change edit book) (returned.memory short);
  }

  -- its index is one of the list
  pub change_placed : IsWellFormed book → (change : NameChange) → name_change edit book ≡ Ok change → has_place change (length book.names) ≡ true
  change_placed rules change is = place_before change.index change.old change.new book.names (edited book rules edit change is).output.at

  -- and where it is made
  pub change_planned : IsWellFormed book → (change : NameChange) → name_change edit book ≡ Ok change
      → (result : Result (List Diff) EditError) → IsOkUnless result NoMemory → IfOk result (λ list. list ≡ name_diff book change ∷ []) → IfOk result IsCanonicalList
      → PlansSheets (ChangeNames edit) result book
  unfolding names_edited
  change_planned rules change is =
      one_planned (ChangeNames edit) book (name_made change book) (name_diff book change) refl rules
      (ap (map_ok (λ c. name_made c book)) is) (ap (λ r. one_diff (map_ok (name_diff book) r)) is)
