-- What each kind of node prints as.
use Rattle.std.specs.Prelude.{◌≡◌, ℕ, Bool, List, [], map, Option}
use Rattle.std.proofs.Common.{ap, sym, ◌∙◌}
use Rattle.base_decimal.specs.declared.Decimal.{Decimal}
use Rattle.base_decimal.specs.Printed.{printed as decimal_text}
use Rattle.base_tables.specs.declared.Error.{Error}
use Rattle.base_tables.specs.declared.Function.{Function}
use Rattle.base_tables.specs.Locale.{decimal_sign}
use Rattle.base_tables.specs.Language.{boolean_text}
use Rattle.base_tables.specs.Error.{error_text}
use Rattle.base_tables.specs.Tables.{lowered}
use Rattle.formula_tree.specs.declared.ArrayItem.{ArrayItem}
use Rattle.formula_tree.specs.declared.Corner.{Corner}
use Rattle.formula_tree.specs.declared.CompareKind.{CompareKind}
use Rattle.formula_tree.specs.declared.ProductKind.{ProductKind}
use Rattle.formula_tree.specs.declared.SumKind.{SumKind}
use Rattle.formula_tree.specs.declared.UnaryKind.{UnaryKind}
use Rattle.formula_tree.specs.declared.Parameter.{Parameter}
use Rattle.formula_tree.specs.declared.Node.{Node}
use Rattle.formula_tree.specs.declared.Node.TheVariants as node
use Rattle.formula_tree.specs.declared.Node.TheOpen.{Node-F}
use Rattle.formula_tree.specs.declared.Node.TheFolds.{fold-Node, fold-roll-Node}
use Rattle.formula_print.specs.declared.kind.Kind.TheVariants as k
use Rattle.formula_print.specs.declared.kind.Need.TheVariants as need
use Rattle.formula_tree.specs.declared.infix.Infix.TheVariants as op
use Rattle.formula_tree.specs.declared.postfix.Postfix.TheVariants as postfix
use Rattle.formula_tree.specs.declared.prefix.Prefix.TheVariants as prefix
use Rattle.formula_print.specs.declared.style.Style.{Style}
use Rattle.formula_print.specs.References.{reference_text, range_text, reference_cell_first, range_cell_first}
use Rattle.formula_print.specs.Pieces.{text_constant, function_word, array_text}
use Rattle.formula_print.specs.Print.{Printed, print_layer, printed, plainly, operand, infix_text, colon_text, unary_text, unary_kind, spill_text, spill_cell_first, intersection_text, call_text, lambda_text}

pub printed_boolean : (style : Style) (value : Bool) → printed style (node.Boolean value) ≡ plainly k.Value (boolean_text style.language value)
unfolding printed
printed_boolean style value = ap (fold-Node Printed (print_layer style)) (sym (node.rolls-Boolean value)) ∙ fold-roll-Node Printed (print_layer style) (Node-F.Boolean value)

pub printed_number : (style : Style) (value : Decimal) → printed style (node.Number value) ≡ plainly k.Number (decimal_text (decimal_sign style.locale) value)
unfolding printed
printed_number style value = ap (fold-Node Printed (print_layer style)) (sym (node.rolls-Number value)) ∙ fold-roll-Node Printed (print_layer style) (Node-F.Number value)

pub printed_text : (style : Style) (text : List ℕ) → printed style (node.Text text) ≡ plainly k.Value (text_constant text)
unfolding printed
printed_text style text = ap (fold-Node Printed (print_layer style)) (sym (node.rolls-Text text)) ∙ fold-roll-Node Printed (print_layer style) (Node-F.Text text)

pub printed_reference : (style : Style) (sheet : Option (List ℕ)) (corner : Corner) → printed style (node.Reference sheet corner) ≡ record { kind = k.Reference; cell_first = reference_cell_first style.corners sheet corner; text = reference_text style.corners sheet corner }
unfolding printed
printed_reference style sheet corner = ap (fold-Node Printed (print_layer style)) (sym (node.rolls-Reference sheet corner)) ∙ fold-roll-Node Printed (print_layer style) (Node-F.Reference sheet corner)

pub printed_range : (style : Style) (sheet : Option (List ℕ)) (first second : Corner) → printed style (node.Range sheet first second) ≡ record { kind = k.Value; cell_first = range_cell_first style.corners sheet first second; text = range_text style.corners sheet first second }
unfolding printed
printed_range style sheet first second = ap (fold-Node Printed (print_layer style)) (sym (node.rolls-Range sheet first second)) ∙ fold-roll-Node Printed (print_layer style) (Node-F.Range sheet first second)

pub printed_colon : (style : Style) (a b : Node) → printed style (node.Colon a b) ≡ plainly (k.Infix op.Colon) (colon_text (printed style a) (printed style b))
unfolding printed
printed_colon style a b = ap (fold-Node Printed (print_layer style)) (sym (node.rolls-Colon a b)) ∙ fold-roll-Node Printed (print_layer style) (Node-F.Colon a b)

pub printed_concatenate : (style : Style) (a b : Node) → printed style (node.Concatenate a b) ≡ plainly (k.Infix op.Concatenate) (infix_text op.Concatenate (printed style a) (printed style b))
unfolding printed
printed_concatenate style a b = ap (fold-Node Printed (print_layer style)) (sym (node.rolls-Concatenate a b)) ∙ fold-roll-Node Printed (print_layer style) (Node-F.Concatenate a b)

pub printed_compare : (style : Style) (kind : CompareKind) (a b : Node) → printed style (node.Compare kind a b) ≡ plainly (k.Infix (op.Compare kind)) (infix_text (op.Compare kind) (printed style a) (printed style b))
unfolding printed
printed_compare style kind a b = ap (fold-Node Printed (print_layer style)) (sym (node.rolls-Compare kind a b)) ∙ fold-roll-Node Printed (print_layer style) (Node-F.Compare kind a b)

pub printed_sum : (style : Style) (kind : SumKind) (a b : Node) → printed style (node.Sum kind a b) ≡ plainly (k.Infix (op.Sum kind)) (infix_text (op.Sum kind) (printed style a) (printed style b))
unfolding printed
printed_sum style kind a b = ap (fold-Node Printed (print_layer style)) (sym (node.rolls-Sum kind a b)) ∙ fold-roll-Node Printed (print_layer style) (Node-F.Sum kind a b)

pub printed_product : (style : Style) (kind : ProductKind) (a b : Node) → printed style (node.Product kind a b) ≡ plainly (k.Infix (op.Product kind)) (infix_text (op.Product kind) (printed style a) (printed style b))
unfolding printed
printed_product style kind a b = ap (fold-Node Printed (print_layer style)) (sym (node.rolls-Product kind a b)) ∙ fold-roll-Node Printed (print_layer style) (Node-F.Product kind a b)

pub printed_power : (style : Style) (a b : Node) → printed style (node.Power a b) ≡ plainly (k.Infix op.Power) (infix_text op.Power (printed style a) (printed style b))
unfolding printed
printed_power style a b = ap (fold-Node Printed (print_layer style)) (sym (node.rolls-Power a b)) ∙ fold-roll-Node Printed (print_layer style) (Node-F.Power a b)

pub printed_unary : (style : Style) (kind : UnaryKind) (a : Node) → printed style (node.Unary kind a) ≡ plainly (unary_kind kind) (unary_text kind (printed style a))
unfolding printed
printed_unary style kind a = ap (fold-Node Printed (print_layer style)) (sym (node.rolls-Unary kind a)) ∙ fold-roll-Node Printed (print_layer style) (Node-F.Unary kind a)

pub printed_call : (style : Style) (function : Function) (all : List Node) → printed style (node.Call function all) ≡ plainly k.Other (call_text style (function_word style function) (map (printed style) all))
unfolding printed
printed_call style function all = ap (fold-Node Printed (print_layer style)) (sym (node.rolls-Call function all)) ∙ fold-roll-Node Printed (print_layer style) (Node-F.Call function all)

pub printed_named_call : (style : Style) (name : List ℕ) (all : List Node) → printed style (node.NamedCall name all) ≡ plainly k.Other (call_text style (lowered name) (map (printed style) all))
unfolding printed
printed_named_call style name all = ap (fold-Node Printed (print_layer style)) (sym (node.rolls-NamedCall name all)) ∙ fold-roll-Node Printed (print_layer style) (Node-F.NamedCall name all)

pub printed_array : (style : Style) (lines : List (List ArrayItem)) → printed style (node.Array lines) ≡ plainly k.Other (array_text style lines)
unfolding printed
printed_array style lines = ap (fold-Node Printed (print_layer style)) (sym (node.rolls-Array lines)) ∙ fold-roll-Node Printed (print_layer style) (Node-F.Array lines)

pub printed_name : (style : Style) (name : List ℕ) → printed style (node.Name name) ≡ plainly k.Name name
unfolding printed
printed_name style name = ap (fold-Node Printed (print_layer style)) (sym (node.rolls-Name name)) ∙ fold-roll-Node Printed (print_layer style) (Node-F.Name name)

pub printed_error : (style : Style) (error : Error) → printed style (node.Error error) ≡ plainly k.Other (error_text error)
unfolding printed
printed_error style error = ap (fold-Node Printed (print_layer style)) (sym (node.rolls-Error error)) ∙ fold-roll-Node Printed (print_layer style) (Node-F.Error error)

pub printed_parse_error : (style : Style) (text : List ℕ) → printed style (node.ParseError text) ≡ plainly k.Other text
unfolding printed
printed_parse_error style text = ap (fold-Node Printed (print_layer style)) (sym (node.rolls-ParseError text)) ∙ fold-roll-Node Printed (print_layer style) (Node-F.ParseError text)

pub printed_empty_argument : (style : Style) → printed style node.EmptyArgument ≡ plainly k.Other []
unfolding printed
printed_empty_argument style = ap (fold-Node Printed (print_layer style)) (sym (node.rolls-EmptyArgument)) ∙ fold-roll-Node Printed (print_layer style) Node-F.EmptyArgument

pub printed_spill : (style : Style) (a : Node) → printed style (node.Spill a) ≡ record { kind = k.Postfix postfix.Spill; cell_first = spill_cell_first style.dialect (printed style a).cell_first; text = spill_text style.dialect (printed style a) }
unfolding printed
printed_spill style a = ap (fold-Node Printed (print_layer style)) (sym (node.rolls-Spill a)) ∙ fold-roll-Node Printed (print_layer style) (Node-F.Spill a)

pub printed_lambda : (style : Style) (parameters : List Parameter) (a : Node) → printed style (node.Lambda parameters a) ≡ plainly k.Lambda (lambda_text style parameters (printed style a))
unfolding printed
printed_lambda style parameters a = ap (fold-Node Printed (print_layer style)) (sym (node.rolls-Lambda parameters a)) ∙ fold-roll-Node Printed (print_layer style) (Node-F.Lambda parameters a)

pub printed_lambda_call : (style : Style) (a : Node) (all : List Node) → printed style (node.LambdaCall a all) ≡ plainly k.Lambda (call_text style (operand need.Callee (printed style a)) (map (printed style) all))
unfolding printed
printed_lambda_call style a all = ap (fold-Node Printed (print_layer style)) (sym (node.rolls-LambdaCall a all)) ∙ fold-roll-Node Printed (print_layer style) (Node-F.LambdaCall a all)

pub printed_implicit_intersection : (style : Style) (a : Node) → printed style (node.ImplicitIntersection a) ≡ plainly (k.Prefix prefix.At) (intersection_text style.dialect (printed style a))
unfolding printed
printed_implicit_intersection style a = ap (fold-Node Printed (print_layer style)) (sym (node.rolls-ImplicitIntersection a)) ∙ fold-roll-Node Printed (print_layer style) (Node-F.ImplicitIntersection a)

pub ruleset prints = (printed_boolean, printed_number, printed_text, printed_reference, printed_range, printed_colon, printed_concatenate, printed_compare, printed_sum, printed_product, printed_power, printed_unary, printed_call, printed_named_call, printed_array, printed_name, printed_error, printed_parse_error, printed_empty_argument, printed_spill, printed_lambda, printed_lambda_call, printed_implicit_intersection)
