-- The bytes of the parts of nodes: kinds of operators, corners, constants of arrays and parameters.
use Rattle.std.specs.Prelude.{ℕ, List, ◌∷◌, ◌++◌, Option}
use Rattle.std.specs.Int.{w32}
use Rattle.base_tables.specs.Error.{error_code}
use Rattle.formula_tree.specs.declared.ArrayItem.{ArrayItem}
use Rattle.formula_tree.specs.declared.ArrayItem.TheVariants as item
use Rattle.formula_tree.specs.declared.Corner.{Corner}
use Rattle.formula_tree.specs.declared.CompareKind.{CompareKind}
use Rattle.formula_tree.specs.declared.CompareKind.TheVariants.{Equal, NotEqual, Less, LessOrEqual, Greater, GreaterOrEqual}
use Rattle.formula_tree.specs.declared.SumKind.{SumKind}
use Rattle.formula_tree.specs.declared.SumKind.TheVariants.{Add, Subtract}
use Rattle.formula_tree.specs.declared.ProductKind.{ProductKind}
use Rattle.formula_tree.specs.declared.ProductKind.TheVariants.{Multiply, Divide}
use Rattle.formula_tree.specs.declared.UnaryKind.{UnaryKind}
use Rattle.formula_tree.specs.declared.UnaryKind.TheVariants.{Minus, Percent}
use Rattle.formula_tree.specs.declared.Parameter.{Parameter}
use Rattle.base_wire.specs.Encoding.{encode_signed, encode_code, boolean_code, encode_text, encode_option, encode_list}
use Rattle.base_wire.specs.Parts.{encode_decimal}

-- ---- kinds of operators

-- `=`, `<>`, `<`, `<=`, `>`, `>=`
abbrev pub compare_code : CompareKind → ℕ
compare_code Equal = 0
compare_code NotEqual = 1
compare_code Less = 2
compare_code LessOrEqual = 3
compare_code Greater = 4
compare_code GreaterOrEqual = 5

-- `+`, `-`
abbrev pub sum_code : SumKind → ℕ
sum_code Add = 0
sum_code Subtract = 1

-- `*`, `/`
abbrev pub product_code : ProductKind → ℕ
product_code Multiply = 0
product_code Divide = 1

-- minus, percent
abbrev pub unary_code : UnaryKind → ℕ
unary_code Minus = 0
unary_code Percent = 1

-- ---- corners

-- whether the row is absolute, the row, whether the column is absolute, the column
unfoldable pub encode_corner : Corner → List ℕ
encode_corner corner =
    encode_code boolean_code corner.absolute_row ++ (encode_signed w32 corner.row
    ++ (encode_code boolean_code corner.absolute_column ++ encode_signed w32 corner.column))

-- the name of a sheet, where it is written
abbrev pub encode_sheet : Option (List ℕ) → List ℕ
encode_sheet = encode_option encode_text

-- ---- arrays

-- the kind of a constant, and then the constant
abbrev pub encode_item : ArrayItem → List ℕ
encode_item (item.Boolean value) = 0 ∷ encode_code boolean_code value
encode_item (item.Number value) = 1 ∷ encode_decimal value
encode_item (item.Text text) = 2 ∷ encode_text text
encode_item (item.Error error) = 3 ∷ encode_code error_code error

-- the constants of a line
abbrev pub encode_line : List ArrayItem → List ℕ
encode_line = encode_list encode_item

-- the lines of an array
abbrev pub encode_lines : List (List ArrayItem) → List ℕ
encode_lines = encode_list encode_line

-- ---- parameters

-- the name, and whether a call may leave it out
abbrev pub encode_parameter : Parameter → List ℕ
encode_parameter parameter = encode_text parameter.name ++ encode_code boolean_code parameter.optional

abbrev pub encode_parameters : List Parameter → List ℕ
encode_parameters = encode_list encode_parameter
