-- The laws of the bytes of the parts of nodes.
use Rattle.std.proofs.Common.{◌≡◌, ℕ, ◌^◌, ◌≤◌, ◌&&◌, ℤ, pos, negsuc, Bool, true, false, List, ◌++◌, length, Some, Ok, refl, sym, ◌∙◌, arith}
use Rattle.std.specs.Prelude.{FitsSigned}
use Rattle.std.specs.Int.{w32}
use Rattle.std.proofs.lemmas.Bool.{ltb-true, lt-ltb}
use Rattle.base_tables.specs.declared.Error.{Error}
use Rattle.base_tables.specs.Error.{error_code}
use Rattle.base_tables.specs.declared.Function.{Function}
use Rattle.base_tables.specs.declared.Function.TheVariants as function
use Rattle.base_tables.specs.Function.{function_code, function_of_code}
use Rattle.base_tables.specs.laws.Function.{found_function}
use Rattle.formula_tree.specs.declared.ArrayItem.{ArrayItem}
use Rattle.formula_tree.specs.declared.ArrayItem.TheVariants as item
use Rattle.formula_tree.specs.declared.CompareKind.{CompareKind}
use Rattle.formula_tree.specs.declared.CompareKind.TheVariants.{Equal, NotEqual, Less, LessOrEqual, Greater, GreaterOrEqual}
use Rattle.formula_tree.specs.declared.SumKind.{SumKind}
use Rattle.formula_tree.specs.declared.SumKind.TheVariants.{Add, Subtract}
use Rattle.formula_tree.specs.declared.ProductKind.{ProductKind}
use Rattle.formula_tree.specs.declared.ProductKind.TheVariants.{Multiply, Divide}
use Rattle.formula_tree.specs.declared.UnaryKind.{UnaryKind}
use Rattle.formula_tree.specs.declared.UnaryKind.TheVariants.{Minus, Percent}
use Rattle.base_wire.specs.laws.Reading.{signed_at, decoded, boolean_at, error_at}
use Rattle.base_wire.specs.Encoding.{encode_signed, encode_code, boolean_code}
use Rattle.base_wire.specs.laws.Again.{ReadsAgain, wide32, signed_again}
use Rattle.base_wire.specs.laws.Encoded.{ReadsEncoded, tag_map, tag_refused, tag_if, tagged_encoded, back32, signed_encoded}
use Rattle.base_wire.specs.laws.Refusals.{map_plain, refused_plain, if_plain, tagged_plain, signed_plain}
use Rattle.base_wire.specs.laws.Parts.{boolean_again, boolean_encoded, boolean_plain, error_again, error_encoded, error_plain}
use Rattle.base_wire.specs.Forms.{if_passes, is_text, is_list}
use Rattle.base_wire.specs.laws.Form.{Passes, Form, form_of, always, both_form, map_form, coded_form, code_form, decimal_form, text_form, option_form, list_form}
use Rattle.formula_wire.specs.PartBytes.{compare_code, sum_code, product_code, unary_code, encode_corner, encode_sheet, encode_item, encode_line, encode_lines, encode_parameter, encode_parameters}
use Rattle.formula_wire.specs.laws.Reading.{comparisons, compare_at, sums, sum_at, products, product_at, unaries, unary_at, function_at, corner_made, corner_at, sheet_at, item_of, item_at, line_at, lines_at, parameter_made, parameter_at, parameters_at}
use Rattle.formula_wire.specs.Carried.{is_signed, is_corner, is_item, is_parameter}

pub boolean_form : Form always (encode_code boolean_code) boolean_at
boolean_form = form_of boolean_again boolean_encoded boolean_plain (λ x h. tt) (λ x h. refl)

pub error_form : Form always (encode_code error_code) error_at
error_form = form_of error_again error_encoded error_plain (λ x h. tt) (λ x h. refl)

-- ---- kinds of operators

compare_known : (x : CompareKind) → decoded compare_code comparisons (compare_code x) ≡ Some x
compare_known Equal = refl
compare_known NotEqual = refl
compare_known Less = refl
compare_known LessOrEqual = refl
compare_known Greater = refl
compare_known GreaterOrEqual = refl

pub compare_form : Form always (encode_code compare_code) compare_at
compare_form = code_form compare_code comparisons compare_known

sum_known : (x : SumKind) → decoded sum_code sums (sum_code x) ≡ Some x
sum_known Add = refl
sum_known Subtract = refl

pub sum_form : Form always (encode_code sum_code) sum_at
sum_form = code_form sum_code sums sum_known

product_known : (x : ProductKind) → decoded product_code products (product_code x) ≡ Some x
product_known Multiply = refl
product_known Divide = refl

pub product_form : Form always (encode_code product_code) product_at
product_form = code_form product_code products product_known

unary_known : (x : UnaryKind) → decoded unary_code unaries (unary_code x) ≡ Some x
unary_known Minus = refl
unary_known Percent = refl

pub unary_form : Form always (encode_code unary_code) unary_at
unary_form = code_form unary_code unaries unary_known

function_known : (x : Function) → function_of_code (function_code x) ≡ Some x
function_known function.Sum = refl
function_known function.If = refl
function_known function.And = refl
function_known function.Or = refl
function_known function.Not = refl
function_known function.True = refl
function_known function.False = refl
function_known function.Min = refl
function_known function.Max = refl
function_known function.Abs = refl
function_known function.Sqrt = refl
function_known function.Average = refl
function_known function.Count = refl
function_known function.Round = refl
function_known function.Date = refl
function_known function.Day = refl
function_known function.Month = refl
function_known function.Weekday = refl
function_known function.Subtotal = refl
function_known function.Row = refl
function_known function.Column = refl
function_known function.Let = refl

pub function_form : Form always (encode_code function_code) function_at
function_form = coded_form function_code function_of_code function_known found_function

-- ---- corners

signed_into : (z : ℤ) → Passes is_signed z → FitsSigned w32 z
signed_into (pos n) h = record { sfits = ltb-true n (2 ^ 31) h }
signed_into (negsuc n) h = record { sfits = ltb-true n (2 ^ 31) h }

-- a number of 32 bits passes
pub signed_passes : (z : ℤ) → FitsSigned w32 z → Passes is_signed z
signed_passes (pos n) fits = lt-ltb n (2 ^ 31) fits.sfits
signed_passes (negsuc n) fits = lt-ltb n (2 ^ 31) fits.sfits

signed_form : Form is_signed (encode_signed w32) (signed_at w32)
signed_form = form_of (signed_again wide32) (signed_encoded back32) (signed_plain w32) signed_into signed_passes

pub corner_form : Form is_corner encode_corner corner_at
unfolding corner_at encode_corner
corner_form =
    map_form (both_form boolean_form (both_form signed_form (both_form boolean_form signed_form)))
    corner_made (λ corner. (corner.absolute_row, (corner.row, (corner.absolute_column, corner.column)))) (λ y. refl) (λ x. refl)

pub sheet_form : Form (if_passes is_text) encode_sheet sheet_at
unfolding sheet_at
sheet_form = option_form text_form

-- ---- arrays

item_again : ReadsAgain (Passes is_item) encode_item item_at
unfolding item_at
item_again = record { again = one }
  where
    one : (x : ArrayItem) (rest : List ℕ) → Passes is_item x → item_at (encode_item x ++ rest) ≡ Ok (x, rest)
    one (item.Boolean value) rest fits = rw (boolean_form.again.again value rest refl) refl
    one (item.Number value) rest fits = rw (decimal_form.again.again value rest fits) refl
    one (item.Text text) rest fits = rw (text_form.again.again text rest fits) refl
    one (item.Error error) rest fits = rw (error_form.again.again error rest refl) refl

item_encoded : ReadsEncoded (Passes is_item) encode_item item_at
unfolding item_at
item_encoded =
    tagged_encoded item_of (λ kind.
    tag_if kind 0 (tag_map boolean_form.encoded item.Boolean (Passes is_item) encode_item 0 (λ x. refl) (λ x h. refl))
    (tag_if kind 1 (tag_map decimal_form.encoded item.Number (Passes is_item) encode_item 1 (λ x. refl) (λ x h. h))
    (tag_if kind 2 (tag_map text_form.encoded item.Text (Passes is_item) encode_item 2 (λ x. refl) (λ x h. h))
    (tag_if kind 3 (tag_map error_form.encoded item.Error (Passes is_item) encode_item 3 (λ x. refl) (λ x h. refl))
    (tag_refused (Passes is_item) encode_item kind)))))

pub item_form : Form is_item encode_item item_at
unfolding item_at
item_form = record {
  again = item_again;
  encoded = item_encoded;
  plain =
      tagged_plain item_of (λ kind.
      if_plain _ (map_plain item.Boolean boolean_form.plain)
      (if_plain _ (map_plain item.Number decimal_form.plain)
      (if_plain _ (map_plain item.Text text_form.plain)
      (if_plain _ (map_plain item.Error error_form.plain) refused_plain))));
}

pub item_some : (x : ArrayItem) → 1 ≤ length (encode_item x)
item_some (item.Boolean value) = omega arith
item_some (item.Number value) = omega arith
item_some (item.Text text) = omega arith
item_some (item.Error error) = omega arith

line_form : Form (is_list is_item) encode_line line_at
unfolding line_at
line_form = list_form item_form item_some

pub lines_form : Form (is_list (is_list is_item)) encode_lines lines_at
unfolding lines_at
lines_form = list_form line_form (λ x. omega arith)

-- ---- parameters

parameter_passes : (b : Bool) → b && true ≡ b
parameter_passes true = refl
parameter_passes false = refl

pub parameter_form : Form is_parameter encode_parameter parameter_at
unfolding parameter_at
parameter_form =
    let form = map_form (both_form text_form boolean_form) parameter_made (λ parameter. (parameter.name, parameter.optional)) (λ y. refl) (λ x. refl) in
    form_of form.again form.encoded form.plain (λ x h. parameter_passes (is_text x.name) ∙ h) (λ x h. sym (parameter_passes (is_text x.name)) ∙ h)

pub parameters_form : Form (is_list is_parameter) encode_parameters parameters_at
unfolding parameters_at
parameters_form = list_form parameter_form (λ x. omega arith)
