-- When a workbook is well-formed. `Occupied` has the rules of arrays (3), of merges (4) and of the places that they cover (5),
-- `Names` those of defined names (8, and their part of 6).
use Rattle.std.specs.Prelude.{◌≡◌, ℕ, ℤ, pos, Bool, true, ◌&&◌, ◌==◌, not, nat_lt, List, length, Option, Some, None, int_le, if◌then◌else◌}
use Rattle.std.specs.List.{list_all}
use Rattle.std.specs.Ordering.{int_eq}
use Rattle.std.specs.FinMap.{entries}
use Rattle.base_values.specs.declared.Position.{Position}
use Rattle.base_values.specs.Places.{is_line, is_place}
use Rattle.base_tables.specs.Folding.{same_folded}
use Rattle.base_styles.specs.declared.style.Style.{Style}
use Rattle.cell_content.specs.Fitting.{fits_at}
use Rattle.format_rules.specs.Fitting.{has_fitting_trees, has_parts}
use Rattle.sheet_grid.specs.declared.Cell.{Cell}
use Rattle.sheet_grid.specs.declared.LineAttr.{LineAttr}
use Rattle.sheet_grid.specs.declared.Link.{Link}
use Rattle.sheet_grid.specs.DefaultParts.{is_default}
use Rattle.sheet_grid.specs.Lines.{is_plain, usual_width}
use Rattle.sheet_grid.specs.Sheet.{Sheet}
pub use Rattle.sheet_grid.specs.Sheet.{is_count}
use Rattle.sheet_grid.specs.Book.{Book}
pub use Rattle.sheet_grid.specs.Book.{ids_of, names_of}
pub use Rattle.sheet_rules.specs.Distinct.{are_distinct}
use Rattle.sheet_rules.specs.Names.{are_names, have_name_trees}
use Rattle.sheet_rules.specs.Occupied.{have_arrays, have_merges, are_hidden_blank}
use Rattle.sheet_rules.specs.SheetNames.{is_sheet_name}

-- rule 1: there is a sheet, ids are distinct, names are legal and distinct by folding
unfoldable pub are_sheets : List Sheet → Bool
are_sheets sheets =
    nat_lt 0 (length sheets) && are_distinct (λ a b. a == b) (ids_of sheets) && list_all is_sheet_name (names_of sheets) && are_distinct same_folded (names_of sheets)

-- rule 2: cells, links, rows and columns are inside the sheet
unfoldable pub has_keys_inside : Sheet → Bool
has_keys_inside sheet =
    list_all (λ (entry : Position × Cell). is_place entry.0) (entries sheet.cells) && list_all (λ (entry : Position × Link). is_place entry.0) (entries sheet.links)
    && list_all (λ (entry : ℤ × LineAttr). is_line (pos 1048576) entry.0) (entries sheet.rows) && list_all (λ (entry : ℤ × LineAttr). is_line (pos 16384) entry.0) (entries sheet.columns)

-- rule 6 of a sheet: each formula may stand at its place
unfoldable pub have_trees : Sheet → Bool
have_trees sheet = list_all (λ (entry : Position × Cell). fits_at entry.0 entry.1.content) (entries sheet.cells)

-- rule 6 of the conditional rules of a sheet: each formula may stand at the first place of its rule's first part. Of a rule without
-- a part its depth and its number nodes alone are asked
abbrev pub have_rule_trees : Sheet → Bool
have_rule_trees sheet = list_all has_fitting_trees sheet.formattings

-- a size that is there is not negative
abbrev pub is_size : Option ℤ → Bool
is_size None = true
is_size (Some size) = int_le (pos 0) size

-- the font has at least size 1
abbrev pub has_font : Style → Bool
has_font style = int_le (pos 1) style.font.sz

-- a row's own style is none or not the default one
abbrev pub is_row_style : Option Style → Bool
is_row_style None = true
is_row_style (Some given) = has_font given && not (is_default given)

-- what a row may have of its own
abbrev pub is_row : LineAttr → Bool
is_row attr = not (is_plain attr) && is_size attr.size && is_row_style attr.style

-- a column's own width is none, or a size but not the usual one
abbrev pub is_width : Option ℤ → Bool
is_width None = true
is_width (Some width) = int_le (pos 0) width && not (int_eq width usual_width)

-- a column's own style may be the default one
abbrev pub is_column_style : Option Style → Bool
is_column_style None = true
is_column_style (Some given) = has_font given

-- what a column may have of its own
abbrev pub is_column : LineAttr → Bool
is_column attr = not (is_plain attr) && is_width attr.size && is_column_style attr.style

-- rule 7: what rows and columns have of their own, and the fonts of cells
unfoldable pub have_attributes : Sheet → Bool
have_attributes sheet =
    list_all (λ (entry : ℤ × LineAttr). is_row entry.1) (entries sheet.rows) && list_all (λ (entry : ℤ × LineAttr). is_column entry.1) (entries sheet.columns)
    && list_all (λ (entry : Position × Cell). has_font entry.1.style) (entries sheet.cells)

-- rule 9: fewer lines than the sheet has stay at its top and at its left
abbrev pub are_frozen : Sheet → Bool
are_frozen sheet = is_count (pos 1048575) sheet.frozen_rows && is_count (pos 16383) sheet.frozen_columns

-- rule 9 of the conditional rules of a sheet: each stands on one part at least, and its parts are inside the sheet
abbrev pub have_rule_parts : Sheet → Bool
have_rule_parts sheet = list_all has_parts sheet.formattings

-- the first rule that a workbook breaks
abbrev pub broken_rule : Book → Option ℕ
broken_rule book =
    if not (are_sheets book.worksheets) then Some 1
    else if not (list_all has_keys_inside book.worksheets) then Some 2
    else if not (list_all have_arrays book.worksheets) then Some 3
    else if not (list_all have_merges book.worksheets) then Some 4
    else if not (list_all are_hidden_blank book.worksheets) then Some 5
    else if not (list_all have_trees book.worksheets && list_all have_rule_trees book.worksheets && have_name_trees book.names) then Some 6
    else if not (list_all have_attributes book.worksheets) then Some 7
    else if not (are_names (ids_of book.worksheets) book.names) then Some 8
    else if not (list_all are_frozen book.worksheets && list_all have_rule_parts book.worksheets) then Some 9
    else None

-- a workbook breaks none
abbrev pub IsWellFormed : Book → Type 0
IsWellFormed book = broken_rule book ≡ None
