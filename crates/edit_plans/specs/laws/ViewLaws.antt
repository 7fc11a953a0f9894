-- Edits that select no other rectangle leave the view that is asked for.
use Rattle.std.proofs.Common.{◌≡◌, Bool, true, false, refl}
use Rattle.std.specs.Prelude.{IsTrue}
use Rattle.sheet_grid.specs.Book.{Book}
use Rattle.sheet_ids.specs.declared.View.{View}
use Rattle.edit_plans.specs.Edits.{Edit, is_of_sheets}
use Rattle.edit_plans.specs.Edits.Edit.{SetHidden, PasteStyles}
use Rattle.edit_plans.specs.ViewSteps.{view_asked}

-- an edit that selects no other rectangle
abbrev pub keeps_range : Edit → Bool
keeps_range (SetHidden index axis first last true) = false
keeps_range (PasteStyles index r styles) = false
keeps_range edit = true

pub view_kept : (edit : Edit) → IsTrue (keeps_range edit) → (book : Book) (view : View) → view_asked edit book view ≡ view
view_kept (SetHidden index axis first last true) is book view = absurd (let never : false ≡ true = is in cc)
view_kept (SetHidden index axis first last false) is book view = refl
view_kept (PasteStyles index r styles) is book view = absurd (let never : false ≡ true = is in cc)
view_kept _ is book view = refl

-- so do those of the list of the sheets
pub sheets_keep_range : (edit : Edit) → IsTrue (is_of_sheets edit) → IsTrue (keeps_range edit)
sheets_keep_range (SetHidden index axis first last true) is = absurd (let never : false ≡ true = is in cc)
sheets_keep_range (SetHidden index axis first last false) is = refl
sheets_keep_range (PasteStyles index r styles) is = absurd (let never : false ≡ true = is in cc)
sheets_keep_range _ is = refl
