-- What is seen where styles are pasted.
use Rattle.std.proofs.Common.{◌≡◌, ◌≢◌, ℕ, Bool, true, false, cond, List, Result, Ok, Err, refl, ap, sym, ◌∙◌}
use Rattle.std.specs.Prelude.{IfErr, IsOk}
use Rattle.std.specs.Cmp.{unsigned_Decides}
use Rattle.base_values.specs.declared.EditError.{EditError}
use Rattle.base_values.specs.declared.EditError.TheVariants.{InvalidArea, NoMemory, StylesShape, StyleValue}
use Rattle.base_values.specs.Answers.{and_then, map_ok}
use Rattle.base_axis.specs.declared.MergedCell.{MergedCell}
use Rattle.base_axis.specs.Rectangles.{anchor_place, is_inside, last_column, last_row}
use Rattle.base_styles.specs.declared.Style.{Style}
use Rattle.sheet_grid.specs.Sheet.{Sheet}
use Rattle.sheet_grid.specs.Book.{Book, sheet_at, sheet_edit, with_sheet}
use Rattle.sheet_ids.specs.declared.View.{View}
use Rattle.sheet_ids.specs.Views.{range_from}
use Rattle.range_styles.specs.declared.AreaKind.TheVariants.{OtherPlaces}
use Rattle.range_styles.specs.Styled.{planned_styles}
use Rattle.range_styles.specs.Tiles.{tiles}
use Rattle.edit_plans.specs.Edits.{changed}
use Rattle.edit_plans.specs.Edits.Edit.{PasteStyles}
use Rattle.edit_plans.specs.RangeEdits.{IsPasteRefusal, is_tile, pasted_by, pasted_in, planned_in, styles_pasted, tiled_range}
use Rattle.edit_plans.specs.ViewSteps.{view_asked}
use Rattle.edit_plans.proofs.Pasting.{paste_refusals}
use Rattle.open_book.specs.Document.{Document}
use Rattle.open_book.specs.Machine.{State, edited, pasted_edit}
use Rattle.open_book.specs.Sound.{IsSound}
use Rattle.open_book.specs.Stands.{IsReached, Steps}
use Rattle.open_book.specs.Views.{seen_by_pasting}

-- styles that were pasted are inside the sheet
pub pasted_inside : (index : ℕ) (r : MergedCell) (styles : List (List Style)) (w : Book) → IsOk (changed (PasteStyles index r styles) w) → is_inside r ≡ true
unfolding styles_pasted
pasted_inside index r styles w is = tiled (is_tile styles) is
  where
    in_sheet : (sheet : Sheet) (b : Bool)
        → IsOk (map_ok (with_sheet w index) (and_then (cond b (Ok r) (Err InvalidArea)) (λ area. planned_in sheet (planned_styles (record { area = area; kind = OtherPlaces; clears = false }) (tiles styles (anchor_place r)) (λ place style. true) StyleValue sheet))))
        → b ≡ true
    in_sheet sheet true ok = refl
    in_sheet sheet false ok = absurd (let never : false ≡ true = ok in cc)

    on_sheet : (a : Result Sheet EditError) → IsOk (and_then a (λ sheet. map_ok (with_sheet w index) (pasted_in r styles sheet))) → is_inside r ≡ true
    on_sheet (Ok sheet) ok = in_sheet sheet (is_inside r) ok
    on_sheet (Err error) ok = absurd (let never : false ≡ true = ok in cc)

    tiled : (b : Bool) → IsOk (cond b (sheet_edit w index (pasted_in r styles)) (Err StylesShape)) → is_inside r ≡ true
    tiled true ok = on_sheet (sheet_at w index) ok
    tiled false ok = absurd (let never : false ≡ true = ok in cc)

-- the view that is asked for is the one of the edit
pub seen_pasted : (r : MergedCell) (styles : List (List Style)) (book : Book) (view : View) → is_inside r ≡ true
    → seen_by_pasting r view ≡ view_asked (PasteStyles view.sheet r styles) book view
seen_pasted r styles book view inside =
    ap (λ b. cond b (record view { range = range_from r.row r.column (last_row r) (last_column r) }) view) inside
    ∙ sym (ap (λ b. record view { range = cond b (range_from r.row r.column (last_row r) (last_column r)) view.range }) ((unsigned_Decides view.sheet view.sheet).1 refl))

-- styles that are pasted outside the sheet are refused alike, wherever that is
outside_alike : (index : ℕ) (r s : MergedCell) (styles : List (List Style)) (w : Book) → is_inside r ≡ false → is_inside s ≡ false
    → styles_pasted index r styles w ≡ styles_pasted index s styles w
unfolding styles_pasted
outside_alike index r s styles w out other = λ i. cond (is_tile styles) (sheet_edit w index (λ sheet. alike sheet i)) (Err StylesShape)
  where
    refused : (t : MergedCell) (sheet : Sheet) → is_inside t ≡ false → pasted_in t styles sheet ≡ Err InvalidArea
    refused t sheet is = ap (λ b. and_then (cond b (Ok t) (Err InvalidArea)) (λ area. planned_in sheet (planned_styles (tiled_range area) (tiles styles (anchor_place t)) (λ place style. true) StyleValue sheet))) is

    alike : (sheet : Sheet) → pasted_in r styles sheet ≡ pasted_in s styles sheet
    alike sheet = refused r sheet out ∙ sym (refused s sheet other)

-- so it is of a rectangle that is another one, or lies outside as that one does
pub pasted_alike : (index : ℕ) (r s : MergedCell) (styles : List (List Style)) (w : Book) → is_inside r ≡ is_inside s → (is_inside r ≡ true → r ≡ s)
    → styles_pasted index r styles w ≡ styles_pasted index s styles w
pasted_alike index r s styles w alike same = go (is_inside r) refl
  where
    go : (b : Bool) → is_inside r ≡ b → styles_pasted index r styles w ≡ styles_pasted index s styles w
    go true is = ap (λ (t : MergedCell). styles_pasted index t styles w) (same is)
    go false is = outside_alike index r s styles w is (sym alike ∙ is)

-- and the view that is asked for
pub seen_alike : (index : ℕ) (r s : MergedCell) (styles : List (List Style)) (book : Book) (view : View) → is_inside r ≡ is_inside s → (is_inside r ≡ true → r ≡ s)
    → IsOk (changed (PasteStyles view.sheet s styles) book) → view_asked (PasteStyles view.sheet s styles) book view ≡ seen_by_pasting r view
seen_alike index r s styles book view alike same accepted =
    let inside : is_inside s ≡ true = pasted_inside view.sheet s styles book accepted in
    sym (ap (λ (t : MergedCell). seen_by_pasting t view) (same (alike ∙ inside)) ∙ seen_pasted s styles book view inside)

-- ---- refusals

refused_of : {A B : Type 0} (f : A → B) (r : Result A EditError) (error : EditError) → map_ok f r ≡ Err error → r ≡ Err error
refused_of f (Ok value) error is = absurd (cc)
refused_of f (Err other) error is = cc

-- styles are not pasted because they are no tile, or their rectangle reaches outside: the viewed sheet is there
pasting_refused : (s : State) → IsSound s → (styles : List (List Style)) (error : EditError) → pasted_edit styles s ≡ Err error → IsPasteRefusal error
pasting_refused s sound styles error is =
    paste_refusals s.view.sheet (pasted_by styles s.view.range) styles s.present error sound.seen.there (refused_of (edited (PasteStyles s.view.sheet (pasted_by styles s.view.range) styles) s) _ error is)

pub only_refusals : (result : Result (Unit {0}) EditError) (doc new : Document) (styles : List (List Style)) → IsReached doc → Steps result doc new (pasted_edit styles)
    → IfErr result (λ error. error ≢ NoMemory → IsPasteRefusal error)
only_refusals (Ok u) doc new styles reached steps = tt
only_refusals (Err error) doc new styles reached steps = λ other. pasting_refused reached.0 reached.1.sound styles error ((steps reached.0 reached.1).refused other)
