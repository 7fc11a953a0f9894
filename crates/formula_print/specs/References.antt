-- References and ranges as texts. Texts are here lists of bytes.
use Rattle.std.specs.Prelude.{ℕ, ℤ, Bool, true, false, not, ◌&&◌, ◌||◌, if◌then◌else◌, Option, Some, None, List, [], ◌++◌, codes, encode_utf8_all}
use Rattle.std.specs.Fmt.{signed_decimal}
use Rattle.std.specs.Str.{chars}
use Rattle.base_values.specs.declared.Position.{Position}
use Rattle.base_tables.specs.Column.{column_name}
use Rattle.base_tables.specs.Word.{quoted_name}
use Rattle.formula_tree.specs.declared.Corner.{Corner}
use Rattle.formula_tree.specs.Corners.{corner_at, is_whole_rows, is_whole_columns}
use Rattle.formula_print.specs.declared.style.Corners.{Corners}
use Rattle.formula_print.specs.declared.style.Corners.TheVariants as corners

-- a sheet's name, in quotes where it needs them
unfoldable pub quoted_sheet : List ℕ → List ℕ
quoted_sheet name = encode_utf8_all (quoted_name (chars name))

-- the name of the sheet and `!`
abbrev pub sheet_text : Option (List ℕ) → List ℕ
sheet_text None = []
sheet_text (Some name) = quoted_sheet name ++ codes "!"

-- an absolute number has a `$`
abbrev pub mark : Bool → List ℕ
mark absolute = if absolute then codes "$" else []

-- a text, if there is one
abbrev pub some_text : Option (List ℕ) → List ℕ
some_text None = []
some_text (Some text) = text

-- the letters of a corner's column, with its mark
abbrev pub column_text : Corner → Position → List ℕ
column_text corner at = mark corner.absolute_column ++ some_text (column_name at.column)

-- the number of a corner's row, with its mark
abbrev pub row_text : Corner → Position → List ℕ
row_text corner at = mark corner.absolute_row ++ signed_decimal at.row

-- a corner, as `$B3`
abbrev pub cell_text : Corner → Position → List ℕ
cell_text corner at = column_text corner at ++ row_text corner at

abbrev pub with_colon : List ℕ → List ℕ → List ℕ
with_colon left right = left ++ (codes ":" ++ right)

-- two corners: rows alone where all columns are taken, columns alone where all rows are
unfoldable pub corners_text : Corner → Position → Corner → Position → List ℕ
corners_text first from second to =
    if is_whole_columns first second then with_colon (row_text first from) (row_text second to)
    else (if is_whole_rows first second then with_colon (column_text first from) (column_text second to)
    else with_colon (cell_text first from) (cell_text second to))

-- a reference whose corner stands there, or is lost
abbrev pub reference_at : Option (List ℕ) → Corner → Option Position → List ℕ
reference_at sheet corner None = codes "#REF!"
reference_at sheet corner (Some at) = sheet_text sheet ++ cell_text corner at

-- a range whose corners stand there. Where one is lost, each side of `:` is a reference of its own
abbrev pub range_at : Option (List ℕ) → Corner → Option Position → Corner → Option Position → List ℕ
range_at sheet first (Some from) second (Some to) = sheet_text sheet ++ corners_text first from second to
range_at sheet first (Some from) second None = with_colon (reference_at sheet first (Some from)) (reference_at sheet second None)
range_at sheet first None second to = with_colon (reference_at sheet first None) (reference_at sheet second to)

-- the number of an absolute line, or of lines between in brackets
abbrev pub line_text : Bool → ℤ → List ℕ
line_text absolute number = if absolute then signed_decimal number else codes "[" ++ (signed_decimal number ++ codes "]")

-- a corner by its numbers, as `R3C[1]`
abbrev pub row_column_text : Corner → List ℕ
row_column_text corner = codes "R" ++ (line_text corner.absolute_row corner.row ++ (codes "C" ++ line_text corner.absolute_column corner.column))

unfoldable pub reference_text : Corners → Option (List ℕ) → Corner → List ℕ
reference_text (corners.Letters place) sheet corner = reference_at sheet corner (corner_at place corner)
reference_text corners.Numbers sheet corner = sheet_text sheet ++ row_column_text corner

unfoldable pub range_text : Corners → Option (List ℕ) → Corner → Corner → List ℕ
range_text (corners.Letters place) sheet first second = range_at sheet first (corner_at place first) second (corner_at place second)
range_text corners.Numbers sheet first second = sheet_text sheet ++ with_colon (row_column_text first) (row_column_text second)

abbrev pub has_sheet : Option (List ℕ) → Bool
has_sheet None = false
has_sheet (Some name) = true

abbrev pub is_there : Option Position → Bool
is_there None = false
is_there (Some at) = true

-- whether the text of a reference begins with a cell without a sheet
unfoldable pub reference_cell_first : Corners → Option (List ℕ) → Corner → Bool
reference_cell_first (corners.Letters place) sheet corner = not (has_sheet sheet) && is_there (corner_at place corner)
reference_cell_first corners.Numbers sheet corner = not (has_sheet sheet)

-- whether rows or columns alone are printed
abbrev pub is_shortened : Corner → Option Position → Corner → Option Position → Bool
is_shortened first from second to = (is_there from && is_there to) && (is_whole_rows first second || is_whole_columns first second)

-- whether the text of a range begins with a cell without a sheet
unfoldable pub range_cell_first : Corners → Option (List ℕ) → Corner → Corner → Bool
range_cell_first (corners.Letters place) sheet first second =
    not (has_sheet sheet) && (is_there (corner_at place first) && not (is_shortened first (corner_at place first) second (corner_at place second)))
range_cell_first corners.Numbers sheet first second = not (has_sheet sheet)
