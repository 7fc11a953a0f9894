-- Whether each kind of node is placed.
use Rattle.std.specs.Prelude.{◌≡◌, ℕ, Bool, true, ◌&&◌, List, Option}
use Rattle.std.proofs.Common.{ap, sym, ◌∙◌}
use Rattle.std.specs.List.{list_all}
use Rattle.std.proofs.lemmas.List.Folds.{list_all-map}
use Rattle.base_values.specs.declared.Position.{Position}
use Rattle.base_decimal.specs.declared.Decimal.{Decimal}
use Rattle.base_tables.specs.declared.Error.{Error}
use Rattle.base_tables.specs.declared.Function.{Function}
use Rattle.formula_tree.specs.declared.array_item.ArrayItem.{ArrayItem}
use Rattle.formula_tree.specs.declared.corner.Corner.{Corner}
use Rattle.formula_tree.specs.declared.operator.CompareKind.{CompareKind}
use Rattle.formula_tree.specs.declared.operator.ProductKind.{ProductKind}
use Rattle.formula_tree.specs.declared.operator.SumKind.{SumKind}
use Rattle.formula_tree.specs.declared.operator.UnaryKind.{UnaryKind}
use Rattle.formula_tree.specs.declared.parameter.Parameter.{Parameter}
use Rattle.formula_tree.specs.declared.node.Node.{Node}
use Rattle.formula_tree.specs.declared.node.Node.TheVariants as node
use Rattle.formula_tree.specs.declared.node.Node.TheOpen.{Node-F}
use Rattle.formula_tree.specs.declared.node.Node.TheFolds.{fold-Node, fold-roll-Node}
use Rattle.formula_tree.specs.Corners.{is_inside}
use Rattle.formula_tree.specs.Placed.{is_placed, is_placed_range, placed_layer}

pub placed_boolean : (place : Position) (value : Bool) → is_placed place (node.Boolean value) ≡ true
unfolding is_placed
placed_boolean place value = ap (fold-Node Bool (placed_layer place)) (sym (node.rolls-Boolean value)) ∙ fold-roll-Node Bool (placed_layer place) (Node-F.Boolean value)

pub placed_number : (place : Position) (value : Decimal) → is_placed place (node.Number value) ≡ true
unfolding is_placed
placed_number place value = ap (fold-Node Bool (placed_layer place)) (sym (node.rolls-Number value)) ∙ fold-roll-Node Bool (placed_layer place) (Node-F.Number value)

pub placed_text : (place : Position) (text : List ℕ) → is_placed place (node.Text text) ≡ true
unfolding is_placed
placed_text place text = ap (fold-Node Bool (placed_layer place)) (sym (node.rolls-Text text)) ∙ fold-roll-Node Bool (placed_layer place) (Node-F.Text text)

pub placed_reference : (place : Position) (sheet : Option (List ℕ)) (corner : Corner) → is_placed place (node.Reference sheet corner) ≡ is_inside place corner
unfolding is_placed
placed_reference place sheet corner = ap (fold-Node Bool (placed_layer place)) (sym (node.rolls-Reference sheet corner)) ∙ fold-roll-Node Bool (placed_layer place) (Node-F.Reference sheet corner)

pub placed_range : (place : Position) (sheet : Option (List ℕ)) (first second : Corner) → is_placed place (node.Range sheet first second) ≡ is_placed_range place first second
unfolding is_placed
placed_range place sheet first second = ap (fold-Node Bool (placed_layer place)) (sym (node.rolls-Range sheet first second)) ∙ fold-roll-Node Bool (placed_layer place) (Node-F.Range sheet first second)

pub placed_colon : (place : Position) (a b : Node) → is_placed place (node.Colon a b) ≡ is_placed place a && is_placed place b
unfolding is_placed
placed_colon place a b = ap (fold-Node Bool (placed_layer place)) (sym (node.rolls-Colon a b)) ∙ fold-roll-Node Bool (placed_layer place) (Node-F.Colon a b)

pub placed_concatenate : (place : Position) (a b : Node) → is_placed place (node.Concatenate a b) ≡ is_placed place a && is_placed place b
unfolding is_placed
placed_concatenate place a b = ap (fold-Node Bool (placed_layer place)) (sym (node.rolls-Concatenate a b)) ∙ fold-roll-Node Bool (placed_layer place) (Node-F.Concatenate a b)

pub placed_compare : (place : Position) (kind : CompareKind) (a b : Node) → is_placed place (node.Compare kind a b) ≡ is_placed place a && is_placed place b
unfolding is_placed
placed_compare place kind a b = ap (fold-Node Bool (placed_layer place)) (sym (node.rolls-Compare kind a b)) ∙ fold-roll-Node Bool (placed_layer place) (Node-F.Compare kind a b)

pub placed_sum : (place : Position) (kind : SumKind) (a b : Node) → is_placed place (node.Sum kind a b) ≡ is_placed place a && is_placed place b
unfolding is_placed
placed_sum place kind a b = ap (fold-Node Bool (placed_layer place)) (sym (node.rolls-Sum kind a b)) ∙ fold-roll-Node Bool (placed_layer place) (Node-F.Sum kind a b)

pub placed_product : (place : Position) (kind : ProductKind) (a b : Node) → is_placed place (node.Product kind a b) ≡ is_placed place a && is_placed place b
unfolding is_placed
placed_product place kind a b = ap (fold-Node Bool (placed_layer place)) (sym (node.rolls-Product kind a b)) ∙ fold-roll-Node Bool (placed_layer place) (Node-F.Product kind a b)

pub placed_power : (place : Position) (a b : Node) → is_placed place (node.Power a b) ≡ is_placed place a && is_placed place b
unfolding is_placed
placed_power place a b = ap (fold-Node Bool (placed_layer place)) (sym (node.rolls-Power a b)) ∙ fold-roll-Node Bool (placed_layer place) (Node-F.Power a b)

pub placed_unary : (place : Position) (kind : UnaryKind) (a : Node) → is_placed place (node.Unary kind a) ≡ is_placed place a
unfolding is_placed
placed_unary place kind a = ap (fold-Node Bool (placed_layer place)) (sym (node.rolls-Unary kind a)) ∙ fold-roll-Node Bool (placed_layer place) (Node-F.Unary kind a)

pub placed_call : (place : Position) (function : Function) (all : List Node) → is_placed place (node.Call function all) ≡ list_all (is_placed place) all
unfolding is_placed
placed_call place function all = ap (fold-Node Bool (placed_layer place)) (sym (node.rolls-Call function all)) ∙ fold-roll-Node Bool (placed_layer place) (Node-F.Call function all) ∙ list_all-map (λ test. test) (is_placed place) all

pub placed_named_call : (place : Position) (name : List ℕ) (all : List Node) → is_placed place (node.NamedCall name all) ≡ list_all (is_placed place) all
unfolding is_placed
placed_named_call place name all = ap (fold-Node Bool (placed_layer place)) (sym (node.rolls-NamedCall name all)) ∙ fold-roll-Node Bool (placed_layer place) (Node-F.NamedCall name all) ∙ list_all-map (λ test. test) (is_placed place) all

pub placed_array : (place : Position) (lines : List (List ArrayItem)) → is_placed place (node.Array lines) ≡ true
unfolding is_placed
placed_array place lines = ap (fold-Node Bool (placed_layer place)) (sym (node.rolls-Array lines)) ∙ fold-roll-Node Bool (placed_layer place) (Node-F.Array lines)

pub placed_name : (place : Position) (name : List ℕ) → is_placed place (node.Name name) ≡ true
unfolding is_placed
placed_name place name = ap (fold-Node Bool (placed_layer place)) (sym (node.rolls-Name name)) ∙ fold-roll-Node Bool (placed_layer place) (Node-F.Name name)

pub placed_error : (place : Position) (error : Error) → is_placed place (node.Error error) ≡ true
unfolding is_placed
placed_error place error = ap (fold-Node Bool (placed_layer place)) (sym (node.rolls-Error error)) ∙ fold-roll-Node Bool (placed_layer place) (Node-F.Error error)

pub placed_parse_error : (place : Position) (text : List ℕ) → is_placed place (node.ParseError text) ≡ true
unfolding is_placed
placed_parse_error place text = ap (fold-Node Bool (placed_layer place)) (sym (node.rolls-ParseError text)) ∙ fold-roll-Node Bool (placed_layer place) (Node-F.ParseError text)

pub placed_empty_argument : (place : Position) → is_placed place node.EmptyArgument ≡ true
unfolding is_placed
placed_empty_argument place = ap (fold-Node Bool (placed_layer place)) (sym (node.rolls-EmptyArgument)) ∙ fold-roll-Node Bool (placed_layer place) Node-F.EmptyArgument

pub placed_spill : (place : Position) (a : Node) → is_placed place (node.Spill a) ≡ is_placed place a
unfolding is_placed
placed_spill place a = ap (fold-Node Bool (placed_layer place)) (sym (node.rolls-Spill a)) ∙ fold-roll-Node Bool (placed_layer place) (Node-F.Spill a)

pub placed_lambda : (place : Position) (parameters : List Parameter) (a : Node) → is_placed place (node.Lambda parameters a) ≡ is_placed place a
unfolding is_placed
placed_lambda place parameters a = ap (fold-Node Bool (placed_layer place)) (sym (node.rolls-Lambda parameters a)) ∙ fold-roll-Node Bool (placed_layer place) (Node-F.Lambda parameters a)

pub placed_lambda_call : (place : Position) (a : Node) (all : List Node) → is_placed place (node.LambdaCall a all) ≡ is_placed place a && list_all (is_placed place) all
unfolding is_placed
placed_lambda_call place a all = ap (fold-Node Bool (placed_layer place)) (sym (node.rolls-LambdaCall a all)) ∙ fold-roll-Node Bool (placed_layer place) (Node-F.LambdaCall a all) ∙ ap (λ tests. is_placed place a && tests) (list_all-map (λ test. test) (is_placed place) all)

pub placed_implicit_intersection : (place : Position) (a : Node) → is_placed place (node.ImplicitIntersection a) ≡ is_placed place a
unfolding is_placed
placed_implicit_intersection place a = ap (fold-Node Bool (placed_layer place)) (sym (node.rolls-ImplicitIntersection a)) ∙ fold-roll-Node Bool (placed_layer place) (Node-F.ImplicitIntersection a)

pub ruleset placings = (placed_boolean, placed_number, placed_text, placed_reference, placed_range, placed_colon, placed_concatenate, placed_compare, placed_sum, placed_product, placed_power, placed_unary, placed_call, placed_named_call, placed_array, placed_name, placed_error, placed_parse_error, placed_empty_argument, placed_spill, placed_lambda, placed_lambda_call, placed_implicit_intersection)
