-- Which kinds of nodes are the text of no formula.
use Rattle.std.specs.Prelude.{◌≡◌, ℕ, Bool, true, false, List, Option}
use Rattle.std.proofs.Common.{ap, sym, ◌∙◌}
use Rattle.base_decimal.specs.declared.Decimal.{Decimal}
use Rattle.base_tables.specs.declared.Error.{Error}
use Rattle.base_tables.specs.declared.Function.{Function}
use Rattle.formula_tree.specs.declared.array_item.ArrayItem.{ArrayItem}
use Rattle.formula_tree.specs.declared.corner.Corner.{Corner}
use Rattle.formula_tree.specs.declared.operator.CompareKind.{CompareKind}
use Rattle.formula_tree.specs.declared.operator.ProductKind.{ProductKind}
use Rattle.formula_tree.specs.declared.operator.SumKind.{SumKind}
use Rattle.formula_tree.specs.declared.operator.UnaryKind.{UnaryKind}
use Rattle.formula_tree.specs.declared.parameter.Parameter.{Parameter}
use Rattle.formula_tree.specs.declared.node.Node.{Node}
use Rattle.formula_tree.specs.declared.node.Node.TheVariants as node
use Rattle.formula_tree.specs.declared.node.Node.TheOpen.{Node-F}
use Rattle.formula_tree.specs.declared.node.Node.TheOpen as layer
use Rattle.formula_tree.specs.declared.node.Node.TheViews.{roll-Node, out-Node, out-roll-Node}
use Rattle.formula_tree.specs.ParseError.{is_parse_error_layer, is_parse_error}

by_layer : {tree : Node} (y : Node-F Node) → roll-Node y ≡ tree → is_parse_error tree ≡ is_parse_error_layer y
unfolding is_parse_error
by_layer y rolled = ap (λ n. is_parse_error_layer (out-Node n)) (sym rolled) ∙ ap is_parse_error_layer (out-roll-Node y)

pub parse_error_boolean : (value : Bool) → is_parse_error (node.Boolean value) ≡ false
parse_error_boolean value = by_layer (layer.Boolean value) (node.rolls-Boolean value)

pub parse_error_number : (value : Decimal) → is_parse_error (node.Number value) ≡ false
parse_error_number value = by_layer (layer.Number value) (node.rolls-Number value)

pub parse_error_text : (text : List ℕ) → is_parse_error (node.Text text) ≡ false
parse_error_text text = by_layer (layer.Text text) (node.rolls-Text text)

pub parse_error_reference : (sheet : Option (List ℕ)) (corner : Corner) → is_parse_error (node.Reference sheet corner) ≡ false
parse_error_reference sheet corner = by_layer (layer.Reference sheet corner) (node.rolls-Reference sheet corner)

pub parse_error_range : (sheet : Option (List ℕ)) (first second : Corner) → is_parse_error (node.Range sheet first second) ≡ false
parse_error_range sheet first second = by_layer (layer.Range sheet first second) (node.rolls-Range sheet first second)

pub parse_error_colon : (a b : Node) → is_parse_error (node.Colon a b) ≡ false
parse_error_colon a b = by_layer (layer.Colon a b) (node.rolls-Colon a b)

pub parse_error_concatenate : (a b : Node) → is_parse_error (node.Concatenate a b) ≡ false
parse_error_concatenate a b = by_layer (layer.Concatenate a b) (node.rolls-Concatenate a b)

pub parse_error_compare : (kind : CompareKind) (a b : Node) → is_parse_error (node.Compare kind a b) ≡ false
parse_error_compare kind a b = by_layer (layer.Compare kind a b) (node.rolls-Compare kind a b)

pub parse_error_sum : (kind : SumKind) (a b : Node) → is_parse_error (node.Sum kind a b) ≡ false
parse_error_sum kind a b = by_layer (layer.Sum kind a b) (node.rolls-Sum kind a b)

pub parse_error_product : (kind : ProductKind) (a b : Node) → is_parse_error (node.Product kind a b) ≡ false
parse_error_product kind a b = by_layer (layer.Product kind a b) (node.rolls-Product kind a b)

pub parse_error_power : (a b : Node) → is_parse_error (node.Power a b) ≡ false
parse_error_power a b = by_layer (layer.Power a b) (node.rolls-Power a b)

pub parse_error_unary : (kind : UnaryKind) (a : Node) → is_parse_error (node.Unary kind a) ≡ false
parse_error_unary kind a = by_layer (layer.Unary kind a) (node.rolls-Unary kind a)

pub parse_error_call : (function : Function) (all : List Node) → is_parse_error (node.Call function all) ≡ false
parse_error_call function all = by_layer (layer.Call function all) (node.rolls-Call function all)

pub parse_error_named_call : (name : List ℕ) (all : List Node) → is_parse_error (node.NamedCall name all) ≡ false
parse_error_named_call name all = by_layer (layer.NamedCall name all) (node.rolls-NamedCall name all)

pub parse_error_array : (lines : List (List ArrayItem)) → is_parse_error (node.Array lines) ≡ false
parse_error_array lines = by_layer (layer.Array lines) (node.rolls-Array lines)

pub parse_error_name : (name : List ℕ) → is_parse_error (node.Name name) ≡ false
parse_error_name name = by_layer (layer.Name name) (node.rolls-Name name)

pub parse_error_error : (error : Error) → is_parse_error (node.Error error) ≡ false
parse_error_error error = by_layer (layer.Error error) (node.rolls-Error error)

pub parse_error_parse_error : (text : List ℕ) → is_parse_error (node.ParseError text) ≡ true
parse_error_parse_error text = by_layer (layer.ParseError text) (node.rolls-ParseError text)

pub parse_error_empty_argument : is_parse_error node.EmptyArgument ≡ false
parse_error_empty_argument = by_layer layer.EmptyArgument node.rolls-EmptyArgument

pub parse_error_spill : (a : Node) → is_parse_error (node.Spill a) ≡ false
parse_error_spill a = by_layer (layer.Spill a) (node.rolls-Spill a)

pub parse_error_lambda : (parameters : List Parameter) (a : Node) → is_parse_error (node.Lambda parameters a) ≡ false
parse_error_lambda parameters a = by_layer (layer.Lambda parameters a) (node.rolls-Lambda parameters a)

pub parse_error_lambda_call : (a : Node) (all : List Node) → is_parse_error (node.LambdaCall a all) ≡ false
parse_error_lambda_call a all = by_layer (layer.LambdaCall a all) (node.rolls-LambdaCall a all)

pub parse_error_implicit_intersection : (a : Node) → is_parse_error (node.ImplicitIntersection a) ≡ false
parse_error_implicit_intersection a = by_layer (layer.ImplicitIntersection a) (node.rolls-ImplicitIntersection a)

pub ruleset parse_errors = (parse_error_boolean, parse_error_number, parse_error_text, parse_error_reference, parse_error_range, parse_error_colon, parse_error_concatenate, parse_error_compare, parse_error_sum, parse_error_product, parse_error_power, parse_error_unary, parse_error_call, parse_error_named_call, parse_error_array, parse_error_name, parse_error_error, parse_error_parse_error, parse_error_empty_argument, parse_error_spill, parse_error_lambda, parse_error_lambda_call, parse_error_implicit_intersection)
