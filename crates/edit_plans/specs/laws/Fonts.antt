-- The style that a place shows has a font, and a place that is found is inside the sheet.
use Rattle.std.proofs.Common.{◌≡◌, ℤ, pos, Bool, true, false, cond, ◌&&◌, not, Option, Some, None, Result, Ok, Err, refl, ap, sym, ◌∙◌}
use Rattle.std.specs.Prelude.{IsTrue, IfSome}
use Rattle.std.specs.Option.{option_or, unwrap_or}
use Rattle.std.specs.List.{list_all}
use Rattle.std.specs.FinMap as fin
use Rattle.std.specs.FinMap.{entries}
use Rattle.std.specs.Ordering.{int_cmp}
use Rattle.std.specs.Cmp.{int_cmp_total}
use Rattle.std.proofs.lemmas.Map.Lookups.{exact_signed}
use Rattle.base_styles.specs.declared.Style.{Style}
use Rattle.base_styles.specs.DefaultStyle.{default_style}
use Rattle.base_values.specs.declared.EditError.{EditError}
use Rattle.base_values.specs.declared.EditError.TheVariants.{InvalidRow, InvalidColumn}
use Rattle.base_values.specs.declared.Position.{Position}
use Rattle.base_values.specs.Places.{is_line, place_of, position_cmp, is_place}
use Rattle.base_values.specs.laws.Places.{position_total, exact_positions}
use Rattle.sheet_grid.specs.declared.Cell.{Cell}
use Rattle.sheet_grid.specs.declared.LineAttr.{LineAttr}
use Rattle.sheet_grid.specs.DefaultParts.{is_default}
use Rattle.sheet_grid.specs.Lines.{is_plain, own_line_style}
use Rattle.sheet_grid.specs.Sheet.{Sheet, cell_style, line_style, own_style, shown_style}
use Rattle.sheet_rules.specs.laws.EntryLaws.{both}
use Rattle.sheet_rules.specs.WellFormed.{have_attributes, is_size, is_width, is_row, is_row_style, is_column, is_column_style, has_font}
use Rattle.sheet_history.specs.laws.Entries.{entry_holds}

-- ---- places

-- a place that is found is inside the sheet
pub place_inside : (row column : ℤ) (place : Position) → place_of row column ≡ Ok place → is_place place ≡ true
unfolding place_of
place_inside row column place is = go (is_line (pos 1048576) row) refl (is_line (pos 16384) column) refl is
  where
    go : (a : Bool) → is_line (pos 1048576) row ≡ a → (b : Bool) → is_line (pos 16384) column ≡ b
        → ◌≡◌ {A = Result Position EditError} (cond a (cond b (Ok (record { row = row; column = column })) (Err InvalidColumn)) (Err InvalidRow)) (Ok place)
        → is_place place ≡ true
    go true one true two e =
        let same : ◌≡◌ {A = Position} (record { row = row; column = column }) place = cc in
        ap is_place (sym same) ∙ (λ i. one i && two i)
    go true one false two e = absurd (let never : ◌≡◌ {A = Result Position EditError} (Err InvalidColumn) (Ok place) = e in cc)
    go false one b two e = absurd (let never : ◌≡◌ {A = Result Position EditError} (Err InvalidRow) (Ok place) = e in cc)

-- ---- fonts

-- what rows, columns and cells have of their own
pub record Attributes (sheet : Sheet) : Type 0 where
  pub rows : list_all (λ (entry : ℤ × LineAttr). is_row entry.1) (entries sheet.rows) ≡ true
  pub columns : list_all (λ (entry : ℤ × LineAttr). is_column entry.1) (entries sheet.columns) ≡ true
  pub cells : list_all (λ (entry : Position × Cell). has_font entry.1.style) (entries sheet.cells) ≡ true

pub attributes_of : (sheet : Sheet) → have_attributes sheet ≡ true → Attributes sheet
unfolding have_attributes
attributes_of sheet all =
    let row_test : Bool = list_all (λ (entry : ℤ × LineAttr). is_row entry.1) (entries sheet.rows) in
    let column_test : Bool = list_all (λ (entry : ℤ × LineAttr). is_column entry.1) (entries sheet.columns) in
    let font_test : Bool = list_all (λ (entry : Position × Cell). has_font entry.1.style) (entries sheet.cells) in
    let one = both (row_test && column_test) font_test all in
    let two = both row_test column_test one.0 in
    record { rows = two.0; columns = two.1; cells = one.1 }

abbrev HasFont : Option Style → Type 0
HasFont given = IfSome given (λ style. IsTrue (has_font style))

either_font : (a b : Option Style) → HasFont a → HasFont b → HasFont (option_or a b)
either_font None b one two = two
either_font (Some style) b one two = one

shown : (given : Option Style) → HasFont given → IsTrue (has_font (unwrap_or given default_style))
shown None font = refl
shown (Some style) font = font

row_font : (attr : LineAttr) → is_row attr ≡ true → HasFont attr.style
row_font attr all = go attr.style (both (not (is_plain attr) && is_size attr.size) (is_row_style attr.style) all).1
  where
    go : (given : Option Style) → is_row_style given ≡ true → HasFont given
    go None is = tt
    go (Some style) is = (both (has_font style) (not (is_default style)) is).0

column_font : (attr : LineAttr) → is_column attr ≡ true → HasFont attr.style
column_font attr all = go attr.style (both (not (is_plain attr) && is_width attr.size) (is_column_style attr.style) all).1
  where
    go : (given : Option Style) → is_column_style given ≡ true → HasFont given
    go None is = tt
    go (Some style) is = is

-- the style that a place of a sheet shows has a font
pub shown_font : (sheet : Sheet) → have_attributes sheet ≡ true → (place : Position) → IsTrue (has_font (shown_style sheet place))
shown_font sheet all place =
    shown (own_style sheet place)
    (either_font (cell_style (fin.get sheet.cells place)) (line_style sheet place) (of_cell (fin.get sheet.cells place) refl)
    (either_font (own_line_style (fin.get sheet.rows place.row)) (own_line_style (fin.get sheet.columns place.column))
    (of_row (fin.get sheet.rows place.row) refl) (of_column (fin.get sheet.columns place.column) refl)))
  where
    fonts : Attributes sheet
    fonts = attributes_of sheet all

    of_cell : (o : Option Cell) → fin.get sheet.cells place ≡ o → HasFont (cell_style o)
    of_cell None is = tt
    of_cell (Some cell) is =
        entry_holds position_cmp position_total exact_positions (λ (entry : Position × Cell). has_font entry.1.style) sheet.cells fonts.cells place cell is

    of_row : (o : Option LineAttr) → fin.get sheet.rows place.row ≡ o → HasFont (own_line_style o)
    of_row None is = tt
    of_row (Some attr) is =
        row_font attr (entry_holds int_cmp int_cmp_total exact_signed (λ (entry : ℤ × LineAttr). is_row entry.1) sheet.rows fonts.rows place.row attr is)

    of_column : (o : Option LineAttr) → fin.get sheet.columns place.column ≡ o → HasFont (own_line_style o)
    of_column None is = tt
    of_column (Some attr) is =
        column_font attr
        (entry_holds int_cmp int_cmp_total exact_signed (λ (entry : ℤ × LineAttr). is_column entry.1) sheet.columns fonts.columns place.column attr is)
