-- What the edits of the list of sheets make, where a diff is not refused.
use Rattle.std.proofs.Common.{◌≡◌, ℕ, ◌+◌, Bool, true, false, cond, ◌&&◌, List, [], ◌∷◌, length, Option, Some, None, Result, Ok, Err, refl, ap, sym, subst, ◌∙◌}
use Rattle.std.specs.Prelude.{◌==◌, OnOk, is_none, nat_le, nat_lt, slice_get}
use Rattle.std.specs.List.{find, position_from}
use Rattle.std.proofs.lemmas.Iterator.Adapters.{position_from-zero}
use Rattle.base_values.specs.declared.EditError.{EditError}
use Rattle.base_values.specs.declared.EditError.TheVariants.{DiffRefused, InvalidSheet}
use Rattle.base_values.specs.Answers.{Changes, Edits, ok_or}
use Rattle.defined_names.specs.declared.DefinedName.{DefinedName}
use Rattle.defined_names.specs.Names.{names_copied}
use Rattle.sheet_grid.specs.Sheet.{Sheet, new_sheet}
use Rattle.sheet_grid.specs.Book.{Book, index_of, sheet_at, sheet_inserted, sheet_moved, sheets_moved}
use Rattle.sheet_rules.specs.laws.EntryLaws.{both}
use Rattle.sheet_lines.specs.Sheets.{IsPlacedSheet, IsPlacedBook}
use Rattle.sheet_ids.specs.laws.Found.{found_at, not_found}
use Rattle.book_sheets.specs.SheetDiffs.{may_come, with_sheet_at, sheet_comes, sheet_as, copied_from, new_forward, copy_forward}
use Rattle.book_sheets.specs.laws.Placed.{all_inserted, placed_sheets_moved}

-- ---- edits

-- an edit that changes a value as another one does
pub edits_as : {S : Type 0} (result : Result (Unit {0}) EditError) (old next : S) (expected other : Result S EditError) → expected ≡ other → Changes result old next other → Edits result old next expected
edits_as (Ok u) old next expected other same h = record { done = same ∙ h.done; refused = tt }
edits_as (Err e) old next expected other same h = record { done = tt; refused = (h.refused.0, λ known. same ∙ h.refused.1 known) }

-- one that is not changed where a value was expected
pub not_changed : {S : Type 0} (error : EditError) (old next later last : S) (output : Result S EditError) → output ≡ Ok later → Changes (Err error) old next output → Changes (Err error) old next (Ok last)
not_changed error old next later last output is h =
    record { done = tt; refused = (h.refused.0, λ known. (let never : ◌≡◌ {A = Result _ EditError} (Ok later) (Err error) = sym is ∙ h.refused.1 known in absurd (cc))); memory = λ none. refl }

-- ---- where a sheet is

-- where one has an id, one is found by it
one_found : (p : Sheet → Bool) (n i : ℕ) (ss : List Sheet) → position_from p n ss ≡ Some i → find p ss ≡ None → ⊥
one_found p n i [] is none = absurd (cc)
one_found p n i (s ∷ ss) is none = go (p s) (one_found p (n + 1) i ss) is none
  where
    go : (b : Bool) → (position_from p (n + 1) ss ≡ Some i → find p ss ≡ None → ⊥) → cond b (Some n) (position_from p (n + 1) ss) ≡ Some i → cond b (Some s) (find p ss) ≡ None → ⊥
    go true rest is none = absurd (cc)
    go false rest is none = rest is none

-- so there is one at its index
pub sheet_at_there : (w : Book) (id i : ℕ) (error : EditError) → index_of w id ≡ Some i → sheet_at w i ≡ Err error → ⊥
sheet_at_there w id i error is lacks = go (slice_get w.worksheets i) refl lacks
  where
    has : Sheet → Bool
    has = λ (s : Sheet). s.id == id

    go : (o : Option Sheet) → slice_get w.worksheets i ≡ o → ok_or InvalidSheet o ≡ Err error → ⊥
    go None none lacks = one_found (λ (s : Sheet). s.id == id) 0 i w.worksheets (sym (position_from-zero (λ (s : Sheet). s.id == id) w.worksheets) ∙ is) (found_at w id i is ∙ none)
    go (Some s) there lacks = absurd (cc)

-- and that is the one
pub got_at : (w : Book) (i : ℕ) (sheet : Sheet) → sheet_at w i ≡ Ok sheet → slice_get w.worksheets i ≡ Some sheet
got_at w i sheet is = go (slice_get w.worksheets i) is
  where
    go : (o : Option Sheet) → ok_or InvalidSheet o ≡ Ok sheet → o ≡ Some sheet
    go None is = absurd (cc)
    go (Some s) is = let same : s ≡ sheet = cc in ap Some same

-- ---- what is expected

-- of a sheet that may come
pub inserted_where_may : (index : ℕ) (sheet : Sheet) (w : Book) → may_come index sheet.id w ≡ true → sheet_inserted w index sheet ≡ Ok (with_sheet_at index sheet w.names w)
unfolding may_come
inserted_where_may index sheet w may = ap (λ b. cond b (Ok (with_sheet_at index sheet w.names w)) (Err InvalidSheet)) (both (is_none (index_of w sheet.id)) (nat_le index (length w.worksheets)) may).1

pub comes_where_may : (at index : ℕ) (sheet : Sheet) (names : List DefinedName) (w : Book) → may_come index sheet.id w ≡ true → sheet_comes at index sheet names w ≡ Ok (with_sheet_at index sheet names w)
comes_where_may at index sheet names w may = ap (λ b. cond b (Ok (with_sheet_at index sheet names w)) (Err (DiffRefused 0 at))) may

-- of a new sheet
pub new_where_may : (at id index : ℕ) (name : List ℕ) (w : Book) → may_come index id w ≡ true → new_forward at id index name w ≡ sheet_inserted w index (new_sheet id name)
unfolding new_forward
new_where_may at id index name w may = comes_where_may at index (new_sheet id name) w.names w may ∙ sym (inserted_where_may index (new_sheet id name) w may)

-- of a copy
pub copy_where_may : (at source id index found : ℕ) (name : List ℕ) (sheet : Sheet) (w : Book) → index_of w source ≡ Some found → sheet_at w found ≡ Ok sheet → may_come index id w ≡ true
    → copy_forward at source id index name w ≡ Ok (with_sheet_at index (sheet_as id name sheet) (names_copied source id w.names) w)
unfolding copy_forward
copy_where_may at source id index found name sheet w is there may =
    ap (λ o. copied_from at o source id index name w) (found_at w source found is ∙ got_at w found sheet there) ∙ comes_where_may at index (sheet_as id name sheet) (names_copied source id w.names) w may

pub copy_without_source : (at source id index : ℕ) (name : List ℕ) (w : Book) → index_of w source ≡ None → copy_forward at source id index name w ≡ Err (DiffRefused 0 at)
unfolding copy_forward
copy_without_source at source id index name w none =
    ap (λ o. copied_from at o source id index name w) (not_found w source none)

-- ---- formulas and merges are inside then

-- where a sheet was put
pub placed_inserted : (result : Result (Unit {0}) EditError) (index : ℕ) (sheet : Sheet) (w next : Book) → IsPlacedSheet sheet → IsPlacedBook w → Changes result w next (sheet_inserted w index sheet) → OnOk result (IsPlacedBook next)
placed_inserted (Ok done) index sheet w next one all changes = go (nat_le index (length w.worksheets)) changes.done
  where
    go : (b : Bool) → cond b (Ok (with_sheet_at index sheet w.names w)) (Err InvalidSheet) ≡ Ok next → IsPlacedBook next
    go true is = let same : with_sheet_at index sheet w.names w ≡ next = cc in subst IsPlacedBook same (all_inserted IsPlacedSheet w.worksheets index sheet all one)
    go false is = absurd (cc)
placed_inserted (Err error) index sheet w next one all changes = tt

-- where one came, with other names
pub placed_with : (result : Result (Unit {0}) EditError) (index : ℕ) (sheet : Sheet) (names : List DefinedName) (w next : Book) → IsPlacedSheet sheet → IsPlacedBook w
    → Changes result w next (Ok (with_sheet_at index sheet names w)) → OnOk result (IsPlacedBook next)
placed_with (Ok done) index sheet names w next one all changes =
    let is : ◌≡◌ {A = Result Book EditError} (Ok (with_sheet_at index sheet names w)) (Ok next) = changes.done in
    let same : with_sheet_at index sheet names w ≡ next = cc in
    subst IsPlacedBook same (all_inserted IsPlacedSheet w.worksheets index sheet all one)
placed_with (Err error) index sheet names w next one all changes = tt

-- where one was moved
pub placed_moved : (result : Result (Unit {0}) EditError) (from to : ℕ) (w next : Book) → IsPlacedBook w → Changes result w next (sheet_moved w from to) → OnOk result (IsPlacedBook next)
placed_moved (Ok done) from to w next all changes = go (nat_lt from (length w.worksheets) && nat_lt to (length w.worksheets)) changes.done
  where
    go : (b : Bool) → cond b (Ok (record w { worksheets = sheets_moved w.worksheets from to })) (Err InvalidSheet) ≡ Ok next → IsPlacedBook next
    go true is = let same : record w { worksheets = sheets_moved w.worksheets from to } ≡ next = cc in subst IsPlacedBook same (placed_sheets_moved w.worksheets from to all)
    go false is = absurd (cc)
placed_moved (Err error) from to w next all changes = tt
