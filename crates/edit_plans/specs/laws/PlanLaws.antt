-- When a call returns a plan.
use Rattle.std.proofs.Common.{◌≡◌, ◌≢◌, ℕ, ℤ, pos, Bool, true, false, cond, List, Option, Some, None, Result, Ok, Err, refl, ap, sym, subst, ◌∙◌}
use Rattle.std.specs.Prelude.{IfOk, IsOk, IsOkAnd, IsOkUnless, slice_get}
use Rattle.base_values.specs.declared.EditError.{EditError}
use Rattle.base_values.specs.declared.EditError.TheVariants.{InvalidSheet, InvalidRow, InvalidColumn, NoMemory}
use Rattle.base_values.specs.declared.Position.{Position}
use Rattle.base_values.specs.Answers.{and_then, map_ok, ok_or}
use Rattle.base_values.specs.Places.{is_line, place_of}
use Rattle.sheet_grid.specs.Sheet.{Sheet}
use Rattle.sheet_grid.specs.Book.{Book, sheet_at, sheet_edit, with_sheet}
use Rattle.sheet_grid.specs.laws.FittingLaws.{place_is}
use Rattle.sheet_history.specs.declared.Diff.{Diff}
use Rattle.edit_plans.specs.Plans.{IsPlan, Plans}

-- a refusal that is expected
pub plan_refused : (book : Book) (expected : Result Book EditError) (error : EditError) → expected ≡ Err error → error ≢ NoMemory
    → Plans (Err error) book expected
plan_refused book expected error is sure = record { planned = tt; refused = λ other. is; memory = λ short. absurd (sure short) }

-- a record of the change that is expected, or out of memory
pub plan_made : (book later : Book) (expected : Result Book EditError) (result : Result (List Diff) EditError) → expected ≡ Ok later
    → IsOkUnless result NoMemory
    → IfOk result (λ list. IsPlan book list later) → Plans result book expected
plan_made book later expected (Ok list) is only plan = record { planned = subst (λ e. IsOkAnd e (IsPlan book list)) (sym is) plan; refused = tt; memory = tt }
plan_made book later expected (Err error) is only plan =
    record { planned = tt; refused = λ other. absurd (other only); memory = λ short. subst IsOk (sym is) refl }

-- ---- edits of the sheet at an index

-- an edit of a sheet that is not there is refused
pub no_sheet : (book : Book) (index : ℕ) (edit : Sheet → Result Sheet EditError) (error : EditError) → sheet_at book index ≡ Err error
    → sheet_edit book index edit ≡ Err error
no_sheet book index edit error missing = ap (λ r. and_then r (λ sheet. map_ok (with_sheet book index) (edit sheet))) missing

edit_at : (book : Book) (index : ℕ) (edit : Sheet → Result Sheet EditError) (sheet : Sheet) → sheet_at book index ≡ Ok sheet
    → sheet_edit book index edit ≡ map_ok (with_sheet book index) (edit sheet)
edit_at book index edit sheet at = ap (λ r. and_then r (λ s. map_ok (with_sheet book index) (edit s))) at

-- and one that the sheet refuses
pub sheet_refuses : (book : Book) (index : ℕ) (edit : Sheet → Result Sheet EditError) (sheet : Sheet) (error : EditError)
    → sheet_at book index ≡ Ok sheet → edit sheet ≡ Err error
    → sheet_edit book index edit ≡ Err error
sheet_refuses book index edit sheet error at refused = edit_at book index edit sheet at ∙ ap (map_ok (with_sheet book index)) refused

-- an edit that the sheet takes
pub sheet_takes : (book : Book) (index : ℕ) (edit : Sheet → Result Sheet EditError) (sheet next : Sheet) → sheet_at book index ≡ Ok sheet
    → edit sheet ≡ Ok next
    → sheet_edit book index edit ≡ Ok (with_sheet book index next)
sheet_takes book index edit sheet next at taken = edit_at book index edit sheet at ∙ ap (map_ok (with_sheet book index)) taken

-- no sheet is missing since memory is short
pub sheet_sure : (book : Book) (index : ℕ) (error : EditError) → sheet_at book index ≡ Err error → error ≢ NoMemory
sheet_sure book index error missing short = go (slice_get book.worksheets index) missing
  where
    go : (o : Option Sheet) → ok_or InvalidSheet o ≡ Err error → ⊥
    go None is = absurd (let never : ◌≡◌ {A = Result Sheet EditError} (Err InvalidSheet) (Err NoMemory) = is ∙ ap Err short in cc)
    go (Some sheet) is = absurd (let never : ◌≡◌ {A = Result Sheet EditError} (Ok sheet) (Err error) = is in cc)

-- nor is a place
pub place_sure : (row column : ℤ) (error : EditError) → place_of row column ≡ Err error → error ≢ NoMemory
unfolding place_of
place_sure row column error is short = go (is_line (pos 1048576) row) (is_line (pos 16384) column) is
  where
    go : (a b : Bool)
        → ◌≡◌ {A = Result Position EditError} (cond a (cond b (Ok (record { row = row; column = column })) (Err InvalidColumn)) (Err InvalidRow)) (Err error)
        → ⊥
    go true true e = absurd (let never : ◌≡◌ {A = Result Position EditError} (Ok (record { row = row; column = column })) (Err error) = e in cc)
    go true false e = absurd (let never : ◌≡◌ {A = Result Position EditError} (Err InvalidColumn) (Err NoMemory) = e ∙ ap Err short in cc)
    go false b e = absurd (let never : ◌≡◌ {A = Result Position EditError} (Err InvalidRow) (Err NoMemory) = e ∙ ap Err short in cc)

-- a place that was found is found again at its own row and column
pub place_again : (row column : ℤ) (place : Position) → place_of row column ≡ Ok place → place_of place.row place.column ≡ Ok place
place_again row column place named = ap (λ (p : Position). place_of p.row p.column) (sym (place_is row column place named)) ∙ named
