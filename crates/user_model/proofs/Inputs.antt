-- An edit of a sheet is refused by its place alone, before its text is read.
use Rattle.std.proofs.Common.{◌≡◌, ◌≢◌, ℕ, ℤ, false, cond, Option, Result, Ok, Err, refl, ap, sym, subst, ◌∙◌}
use Rattle.std.specs.Prelude.{IfOk, IsOk}
use Rattle.base_values.specs.declared.EditError.{EditError}
use Rattle.base_values.specs.declared.EditError.TheVariants.{NoMemory}
use Rattle.base_values.specs.declared.Position.{Position}
use Rattle.base_values.specs.Answers.{and_then, map_ok}
use Rattle.base_values.specs.KeyMap.{with_entry}
use Rattle.base_values.specs.Places.{place_of}
use Rattle.base_axis.specs.declared.MergedCell.{MergedCell}
use Rattle.formula_tree.specs.declared.Node.{Node}
use Rattle.cell_content.specs.declared.Content.{Content}
use Rattle.sheet_grid.specs.declared.Link.{Link}
use Rattle.sheet_grid.specs.Sheet.{Sheet}
use Rattle.sheet_grid.specs.Book.{Book, sheet_at, with_sheet}
use Rattle.edit_plans.specs.Edits.{Edit, changed, is_silent}
use Rattle.edit_plans.specs.Inputs.{input_place, input_put, with_input}
use Rattle.edit_plans.specs.ArrayInputs.{array_area, array_put, free_area, with_array}
use Rattle.edit_plans.specs.Links.{link_set}
use Rattle.open_book.specs.Document.{Document}
use Rattle.open_book.specs.Machine.{State, edit_of, edited}
use Rattle.user_model.specs.Places.{array_goes, input_goes, link_goes}
use Rattle.open_book.specs.Stands.{StandsFor, Moves, MovesOrNoMemory}

-- an edit of the sheet at an index that goes to a place, or to a rectangle, is refused where that is, and else accepted
module _ {T : Type 0} (index : ℕ) (book : Book) (goes : Sheet → Result T EditError) (put : Sheet → T → Sheet) where
  abbrev at_place : Result T EditError → Sheet → Result Book EditError
  at_place r sheet = map_ok (with_sheet book index) (map_ok (put sheet) r)

  abbrev at_sheet : Result Sheet EditError → Result Book EditError
  at_sheet s = and_then s (λ sheet. at_place (goes sheet) sheet)

  refused_there : (error : EditError) → and_then (sheet_at book index) goes ≡ Err error → at_sheet (sheet_at book index) ≡ Err error
  refused_there error is = go (sheet_at book index) is
    where
      there : (sheet : Sheet) (r : Result T EditError) → r ≡ Err error → at_place r sheet ≡ Err error
      there sheet (Ok place) e = absurd (let never : ◌≡◌ {A = Result T EditError} (Ok place) (Err error) = e in cc)
      there sheet (Err other) e = let same : other ≡ error = cc in ap Err same

      go : (s : Result Sheet EditError) → and_then s goes ≡ Err error → at_sheet s ≡ Err error
      go (Ok sheet) e = there sheet (goes sheet) e
      go (Err other) e = let same : other ≡ error = cc in ap Err same

  accepted_there : (value : T) → and_then (sheet_at book index) goes ≡ Ok value → IsOk (at_sheet (sheet_at book index))
  accepted_there value is = go (sheet_at book index) is
    where
      there : (sheet : Sheet) (r : Result T EditError) → r ≡ Ok value → IsOk (at_place r sheet)
      there sheet (Ok place) e = refl
      there sheet (Err error) e = absurd (let never : ◌≡◌ {A = Result T EditError} (Err error) (Ok value) = e in cc)

      go : (s : Result Sheet EditError) → and_then s goes ≡ Ok value → IsOk (at_sheet s)
      go (Ok sheet) e = there sheet (goes sheet) e
      go (Err error) e = absurd (let never : ◌≡◌ {A = Result T EditError} (Err error) (Ok value) = e in cc)

module _ (index : ℕ) (row column : ℤ) (book : Book) (content : Content) (feeds : ℕ) where
  pub input_refused : (error : EditError) → input_goes index row column book ≡ Err error → input_put index row column content feeds book ≡ Err error
  unfolding input_put
  input_refused error is = refused_there index book (λ sheet. input_place sheet row column) (λ sheet. with_input sheet content feeds) error is

  pub input_accepted : (place : Position) → input_goes index row column book ≡ Ok place → IsOk (input_put index row column content feeds book)
  unfolding input_put
  input_accepted place is = accepted_there index book (λ sheet. input_place sheet row column) (λ sheet. with_input sheet content feeds) place is

module _ (index : ℕ) (r : MergedCell) (book : Book) (tree : Node) where
  pub array_refused : (error : EditError) → array_goes index r book ≡ Err error → array_put index r tree book ≡ Err error
  unfolding array_put
  array_refused error is = refused_there index book (λ sheet. array_area sheet r) (λ sheet area. with_array sheet area tree) error is

  pub array_accepted : (area : MergedCell) → array_goes index r book ≡ Ok area → IsOk (array_put index r tree book)
  unfolding array_put
  array_accepted area is = accepted_there index book (λ sheet. array_area sheet r) (λ sheet area. with_array sheet area tree) area is

module _ (index : ℕ) (row column : ℤ) (book : Book) (link : Option Link) where
  abbrev with_link : Sheet → Position → Sheet
  with_link sheet place = record sheet { links = with_entry sheet.links place link }

  pub link_refused : (error : EditError) → link_goes index row column book ≡ Err error → link_set index row column link book ≡ Err error
  unfolding link_set
  link_refused error is = refused_there index book (λ sheet. place_of row column) with_link error is

  pub link_accepted : (place : Position) → link_goes index row column book ≡ Ok place → IsOk (link_set index row column link book)
  unfolding link_set
  link_accepted place is = accepted_there index book (λ sheet. place_of row column) with_link place is

-- ---- places

-- what is found is that place
pub if_ok_along : {A E : Type 0} {x y : A} (result : Result A E) → x ≡ y → IfOk result (λ v. v ≡ x) → IfOk result (λ v. v ≡ y)
if_ok_along (Ok v) same is = is ∙ same
if_ok_along (Err error) same is = tt

-- the sheet is there, its place is, and the rectangle may be filled
pub array_goes_there : (index : ℕ) (r free : MergedCell) (book : Book) (sheet : Sheet) (place : Position) → Ok sheet ≡ sheet_at book index → Ok place ≡ place_of r.row r.column → Ok free ≡ free_area sheet r
    → free ≡ r → Ok r ≡ array_goes index r book
array_goes_there index r free book sheet place one two three same =
    ap Ok (sym same) ∙ three ∙ (λ i. and_then (one i) (λ s. and_then (two i) (λ p. free_area s r)))

-- ---- an edit that is refused before its plan is made

edit_refused : (edit : Edit) (s : State) (error : EditError) → is_silent edit s.present ≡ false → changed edit s.present ≡ Err error → edit_of edit s ≡ Err error
edit_refused edit s error loud is = ap (λ b. cond b (Ok s) (map_ok (edited edit s) (changed edit s.present))) loud ∙ ap (map_ok (edited edit s)) is

edit_accepted : (edit : Edit) (s : State) → is_silent edit s.present ≡ false → IsOk (changed edit s.present) → IsOk (edit_of edit s)
edit_accepted edit s loud is = subst IsOk (ap (λ b. cond b (Ok s) (map_ok (edited edit s) (changed edit s.present))) (sym loud)) (go (changed edit s.present) is)
  where
    go : (r : Result Book EditError) → IsOk r → IsOk (map_ok (edited edit s) r)
    go (Ok later) h = refl
    go (Err error) h = h

-- an edit that is not silent in a document is not in the state
heard_there : (edit : Edit) (doc : Document) (s : State) → StandsFor doc s → is_silent edit doc.book ≡ false → is_silent edit s.present ≡ false
heard_there edit doc s stands loud = subst (λ (d : Document). is_silent edit d.book ≡ false) stands.document loud

pub refused_moves : (edit : Edit) (doc : Document) (s : State) (error : EditError) → StandsFor doc s → is_silent edit doc.book ≡ false → error ≢ NoMemory → changed edit doc.book ≡ Err error
    → Moves {T = Unit {0}} (Err error) doc (edit_of edit s)
refused_moves edit doc s error stands loud sure is = record {
  done = tt;
  refused = λ other. edit_refused edit s error (heard_there edit doc s stands loud) (subst (λ (d : Document). changed edit d.book ≡ Err error) stands.document is);
  memory = λ short. absurd (sure short);
}

pub short_moves : (edit : Edit) (doc : Document) (s : State) → StandsFor doc s → is_silent edit doc.book ≡ false → IsOk (changed edit doc.book) → Moves {T = Unit {0}} (Err NoMemory) doc (edit_of edit s)
short_moves edit doc s stands loud is = record {
  done = tt;
  refused = λ other. absurd (other refl);
  memory = λ short. edit_accepted edit s (heard_there edit doc s stands loud) (subst (λ (d : Document). IsOk (changed edit d.book)) stands.document is);
}

-- an edit that is refused before its plan is made, whose last test takes memory
pub refused_turns : (edit : Edit) (doc : Document) (s : State) (error : EditError) → StandsFor doc s → is_silent edit doc.book ≡ false → changed edit doc.book ≡ Err error
    → MovesOrNoMemory {T = Unit {0}} (Err error) doc (edit_of edit s)
refused_turns edit doc s error stands loud is = record {
  done = tt;
  refused = λ other. edit_refused edit s error (heard_there edit doc s stands loud) (subst (λ (d : Document). changed edit d.book ≡ Err error) stands.document is);
}

-- and one that is out of memory
pub short_turns : (error : EditError) (doc : Document) (expected : Result State EditError) → error ≡ NoMemory → MovesOrNoMemory {T = Unit {0}} (Err error) doc expected
short_turns error doc expected short = record { done = tt; refused = λ other. absurd (other short) }
