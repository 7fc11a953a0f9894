-- Where lines are hidden or shown, they are lines; and the view that is asked for then.
use Rattle.std.proofs.Common.{◌≡◌, ℕ, ℤ, Bool, true, false, cond, Result, Ok, Err, refl, ap}
use Rattle.std.specs.Prelude.{◌==◌, ◌&&◌, IsOk, IsTrue}
use Rattle.base_values.specs.declared.EditError.{EditError}
use Rattle.base_values.specs.declared.EditError.TheVariants.{InvalidArea}
use Rattle.base_values.specs.Answers.{and_then, map_ok}
use Rattle.line_sizes.specs.declared.LineChange.TheVariants.{Hidden}
use Rattle.line_sizes.specs.LineChanges.{has_lines, line_count, lines_from}
use Rattle.sheet_grid.specs.Sheet.{Sheet}
use Rattle.sheet_grid.specs.Book.{Book, sheet_at, with_sheet}
use Rattle.sheet_ids.specs.declared.View.{View}
use Rattle.sheet_history.specs.declared.LineAxis.{LineAxis}
use Rattle.sheet_history.specs.LineDiffs.{along_of}
use Rattle.edit_plans.specs.LineRecords.{lines_set}
use Rattle.edit_plans.specs.Edits.{changed}
use Rattle.edit_plans.specs.Edits.Edit.{SetHidden}
use Rattle.edit_plans.specs.LineEdits.{attrs_set}
use Rattle.edit_plans.specs.ViewSteps.{line_shown, view_asked}
use Rattle.open_book.specs.Views.{seen_by}

pub hidden_lines : (index : ℕ) (axis : LineAxis) (first last : ℤ) (hidden : Bool) (w : Book) → IsOk (changed (SetHidden index axis first last hidden) w)
    → IsTrue (has_lines (along_of axis).last first last)
unfolding attrs_set lines_from
hidden_lines index axis first last hidden w is = go (sheet_at w index) (has_lines (along_of axis).last first last) is
  where
    go : (r : Result Sheet EditError) (b : Bool)
        → IsOk (and_then r (λ sheet. map_ok (with_sheet w index) (and_then (cond b (Ok (line_count first last)) (Err InvalidArea)) (λ count. map_ok (λ output. lines_set axis output first count sheet) (Ok (Hidden hidden))))))
        → b ≡ true
    go (Ok sheet) true ok = refl
    go (Ok sheet) false ok = absurd (let never : false ≡ true = ok in cc)
    go (Err error) b ok = absurd (let never : false ≡ true = ok in cc)

-- the view that is asked for is the one of the edit
pub seen_asked : (index : ℕ) (axis : LineAxis) (first last : ℤ) (hidden : Bool) (book : Book) (view : View) → IsTrue (has_lines (along_of axis).last first last)
    → seen_by index axis first last hidden book view ≡ view_asked (SetHidden index axis first last hidden) book view
seen_asked index axis first last false book view lines = refl
seen_asked index axis first last true book view lines = go (index == view.sheet)
  where
    go : (b : Bool) → cond (b && has_lines (along_of axis).last first last) (record view { range = line_shown axis first last (sheet_at book index) view.range }) view
        ≡ record view { range = cond b (line_shown axis first last (sheet_at book index) view.range) view.range }
    go true = ap (λ h. cond h (record view { range = line_shown axis first last (sheet_at book index) view.range }) view) lines
    go false = refl
