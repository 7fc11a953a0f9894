-- The parts of a formula's text that hold no tree. Texts are here lists of bytes.
use Rattle.std.specs.Prelude.{ℕ, if◌then◌else◌, List, [], ◌∷◌, ◌++◌, codes, encode_utf8, encode_utf8_all}
use Rattle.std.specs.List.{flat_map}
use Rattle.std.specs.Str.{chars}
use Rattle.base_tables.specs.declared.Function.{Function}
use Rattle.base_tables.specs.declared.Function.TheVariants as f
use Rattle.base_tables.specs.declared.Locale.{Locale}
use Rattle.base_tables.specs.Locale.{decimal_sign, argument_separator, row_separator, column_separator}
use Rattle.base_tables.specs.Language.{boolean_text}
use Rattle.base_tables.specs.Function.{function_name}
use Rattle.base_tables.specs.Word.{doubled}
use Rattle.base_tables.specs.Error.{error_text}
use Rattle.base_decimal.specs.Printed.{printed as decimal_text}
use Rattle.formula_tree.specs.declared.ArrayItem.{ArrayItem}
use Rattle.formula_tree.specs.declared.ArrayItem.TheVariants as i
use Rattle.formula_tree.specs.declared.CompareKind.{CompareKind}
use Rattle.formula_tree.specs.declared.CompareKind.TheVariants as c
use Rattle.formula_tree.specs.declared.SumKind.{SumKind}
use Rattle.formula_tree.specs.declared.SumKind.TheVariants as s
use Rattle.formula_tree.specs.declared.ProductKind.{ProductKind}
use Rattle.formula_tree.specs.declared.ProductKind.TheVariants as p
use Rattle.formula_tree.specs.declared.Parameter.{Parameter}
use Rattle.formula_tree.specs.declared.infix.Infix.{Infix}
use Rattle.formula_tree.specs.declared.infix.Infix.TheVariants as op
use Rattle.formula_print.specs.declared.style.Style.{Style}
use Rattle.formula_print.specs.declared.style.Dialect.{Dialect}
use Rattle.formula_print.specs.declared.style.Dialect.TheVariants.{Plain, Excel}

-- a text constant: in quotes, and each `"` in it twice
abbrev pub text_constant : List ℕ → List ℕ
text_constant text = codes "\"" ++ (encode_utf8_all (doubled 34 (chars text)) ++ codes "\"")

-- the word by which a function is called
abbrev pub word_in : Dialect → Style → Function → List ℕ
word_in Excel style f.Let = codes "_xlfn.LET"
word_in _ style function = function_name style.language function

abbrev pub function_word : Style → Function → List ℕ
function_word style function = word_in style.dialect style function

-- the word that begins a lambda, in every language
abbrev pub lambda_word : Dialect → List ℕ
lambda_word Plain = codes "LAMBDA"
lambda_word Excel = codes "_xlfn.LAMBDA"

-- the function that Excel stores for `x#`
unfoldable pub spill_word : List ℕ
spill_word = codes "_xlfn.ANCHORARRAY"

-- the function that it stores for `@x`
unfoldable pub single_word : List ℕ
single_word = codes "_xlfn.SINGLE"

abbrev pub compare_sign : CompareKind → List ℕ
compare_sign c.Equal = codes "="
compare_sign c.NotEqual = codes "<>"
compare_sign c.Less = codes "<"
compare_sign c.LessOrEqual = codes "<="
compare_sign c.Greater = codes ">"
compare_sign c.GreaterOrEqual = codes ">="

abbrev pub sum_sign : SumKind → List ℕ
sum_sign s.Add = codes "+"
sum_sign s.Subtract = codes "-"

abbrev pub product_sign : ProductKind → List ℕ
product_sign p.Multiply = codes "*"
product_sign p.Divide = codes "/"

abbrev pub infix_sign : Infix → List ℕ
infix_sign (op.Compare kind) = compare_sign kind
infix_sign op.Concatenate = codes "&"
infix_sign (op.Sum kind) = sum_sign kind
infix_sign (op.Product kind) = product_sign kind
infix_sign op.Power = codes "^"
infix_sign op.Colon = codes ":"

-- ---- arrays

abbrev pub item_text : Style → ArrayItem → List ℕ
item_text style (i.Boolean value) = boolean_text style.language value
item_text style (i.Number number) = decimal_text (decimal_sign style.locale) number
item_text style (i.Text text) = text_constant text
item_text style (i.Error error) = error_text error

abbrev pub later_item : Style → ArrayItem → List ℕ
later_item style item = encode_utf8 (column_separator style.locale) ++ item_text style item

-- the items of a line, with the separator of columns between them
abbrev pub line_text : Style → List ArrayItem → List ℕ
line_text style [] = []
line_text style (first ∷ later) = item_text style first ++ flat_map (later_item style) later

abbrev pub later_line : Style → List ArrayItem → List ℕ
later_line style line = encode_utf8 (row_separator style.locale) ++ line_text style line

-- the lines, with the separator of rows between them
abbrev pub lines_text : Style → List (List ArrayItem) → List ℕ
lines_text style [] = []
lines_text style (first ∷ later) = line_text style first ++ flat_map (later_line style) later

abbrev pub array_text : Style → List (List ArrayItem) → List ℕ
array_text style lines = codes "{" ++ (lines_text style lines ++ codes "}")

-- ---- parameters

-- a parameter that a call may leave out stands in brackets
abbrev pub parameter_text : Parameter → List ℕ
parameter_text parameter = if parameter.optional then codes "[" ++ (parameter.name ++ codes "]") else parameter.name

-- a parameter and the separator behind it
abbrev pub parameter_part : Locale → Parameter → List ℕ
parameter_part locale parameter = parameter_text parameter ++ encode_utf8 (argument_separator locale)
