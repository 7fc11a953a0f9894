-- What moving makes of each kind of node.
use Rattle.std.specs.Prelude.{◌≡◌, ℕ, Bool, List, map, Option}
use Rattle.std.proofs.Common.{ap, sym, ◌∙◌}
use Rattle.base_values.specs.declared.Position.{Position}
use Rattle.base_decimal.specs.declared.Decimal.{Decimal}
use Rattle.base_tables.specs.declared.Error.{Error}
use Rattle.base_tables.specs.declared.Function.{Function}
use Rattle.formula_tree.specs.declared.array_item.ArrayItem.{ArrayItem}
use Rattle.formula_tree.specs.declared.corner.Corner.{Corner}
use Rattle.formula_tree.specs.declared.operator.CompareKind.{CompareKind}
use Rattle.formula_tree.specs.declared.operator.ProductKind.{ProductKind}
use Rattle.formula_tree.specs.declared.operator.SumKind.{SumKind}
use Rattle.formula_tree.specs.declared.operator.UnaryKind.{UnaryKind}
use Rattle.formula_tree.specs.declared.parameter.Parameter.{Parameter}
use Rattle.formula_tree.specs.declared.node.Node.{Node}
use Rattle.formula_tree.specs.declared.node.Node.TheVariants as node
use Rattle.formula_tree.specs.declared.node.Node.TheOpen.{Node-F}
use Rattle.formula_tree.specs.declared.node.Node.TheFolds.{fold-Node, fold-roll-Node}
use Rattle.formula_tree.specs.Moved.{Mapping, moved, move_layer, reference_to, range_to}

pub moved_boolean : (to : Position) (m : Mapping) (value : Bool) → moved to m (node.Boolean value) ≡ node.Boolean value
unfolding moved
moved_boolean to m value = ap (fold-Node Node (move_layer to m)) (sym (node.rolls-Boolean value)) ∙ fold-roll-Node Node (move_layer to m) (Node-F.Boolean value)

pub moved_number : (to : Position) (m : Mapping) (value : Decimal) → moved to m (node.Number value) ≡ node.Number value
unfolding moved
moved_number to m value = ap (fold-Node Node (move_layer to m)) (sym (node.rolls-Number value)) ∙ fold-roll-Node Node (move_layer to m) (Node-F.Number value)

pub moved_text : (to : Position) (m : Mapping) (text : List ℕ) → moved to m (node.Text text) ≡ node.Text text
unfolding moved
moved_text to m text = ap (fold-Node Node (move_layer to m)) (sym (node.rolls-Text text)) ∙ fold-roll-Node Node (move_layer to m) (Node-F.Text text)

pub moved_reference : (to : Position) (m : Mapping) (sheet : Option (List ℕ)) (corner : Corner) → moved to m (node.Reference sheet corner) ≡ reference_to sheet (m.reference sheet corner)
unfolding moved
moved_reference to m sheet corner = ap (fold-Node Node (move_layer to m)) (sym (node.rolls-Reference sheet corner)) ∙ fold-roll-Node Node (move_layer to m) (Node-F.Reference sheet corner)

pub moved_range : (to : Position) (m : Mapping) (sheet : Option (List ℕ)) (first second : Corner) → moved to m (node.Range sheet first second) ≡ range_to to sheet (m.first sheet first second) (m.second sheet first second)
unfolding moved
moved_range to m sheet first second = ap (fold-Node Node (move_layer to m)) (sym (node.rolls-Range sheet first second)) ∙ fold-roll-Node Node (move_layer to m) (Node-F.Range sheet first second)

pub moved_colon : (to : Position) (m : Mapping) (a b : Node) → moved to m (node.Colon a b) ≡ node.Colon (moved to m a) (moved to m b)
unfolding moved
moved_colon to m a b = ap (fold-Node Node (move_layer to m)) (sym (node.rolls-Colon a b)) ∙ fold-roll-Node Node (move_layer to m) (Node-F.Colon a b)

pub moved_concatenate : (to : Position) (m : Mapping) (a b : Node) → moved to m (node.Concatenate a b) ≡ node.Concatenate (moved to m a) (moved to m b)
unfolding moved
moved_concatenate to m a b = ap (fold-Node Node (move_layer to m)) (sym (node.rolls-Concatenate a b)) ∙ fold-roll-Node Node (move_layer to m) (Node-F.Concatenate a b)

pub moved_compare : (to : Position) (m : Mapping) (kind : CompareKind) (a b : Node) → moved to m (node.Compare kind a b) ≡ node.Compare kind (moved to m a) (moved to m b)
unfolding moved
moved_compare to m kind a b = ap (fold-Node Node (move_layer to m)) (sym (node.rolls-Compare kind a b)) ∙ fold-roll-Node Node (move_layer to m) (Node-F.Compare kind a b)

pub moved_sum : (to : Position) (m : Mapping) (kind : SumKind) (a b : Node) → moved to m (node.Sum kind a b) ≡ node.Sum kind (moved to m a) (moved to m b)
unfolding moved
moved_sum to m kind a b = ap (fold-Node Node (move_layer to m)) (sym (node.rolls-Sum kind a b)) ∙ fold-roll-Node Node (move_layer to m) (Node-F.Sum kind a b)

pub moved_product : (to : Position) (m : Mapping) (kind : ProductKind) (a b : Node) → moved to m (node.Product kind a b) ≡ node.Product kind (moved to m a) (moved to m b)
unfolding moved
moved_product to m kind a b = ap (fold-Node Node (move_layer to m)) (sym (node.rolls-Product kind a b)) ∙ fold-roll-Node Node (move_layer to m) (Node-F.Product kind a b)

pub moved_power : (to : Position) (m : Mapping) (a b : Node) → moved to m (node.Power a b) ≡ node.Power (moved to m a) (moved to m b)
unfolding moved
moved_power to m a b = ap (fold-Node Node (move_layer to m)) (sym (node.rolls-Power a b)) ∙ fold-roll-Node Node (move_layer to m) (Node-F.Power a b)

pub moved_unary : (to : Position) (m : Mapping) (kind : UnaryKind) (a : Node) → moved to m (node.Unary kind a) ≡ node.Unary kind (moved to m a)
unfolding moved
moved_unary to m kind a = ap (fold-Node Node (move_layer to m)) (sym (node.rolls-Unary kind a)) ∙ fold-roll-Node Node (move_layer to m) (Node-F.Unary kind a)

pub moved_call : (to : Position) (m : Mapping) (function : Function) (all : List Node) → moved to m (node.Call function all) ≡ node.Call function (map (moved to m) all)
unfolding moved
moved_call to m function all = ap (fold-Node Node (move_layer to m)) (sym (node.rolls-Call function all)) ∙ fold-roll-Node Node (move_layer to m) (Node-F.Call function all)

pub moved_named_call : (to : Position) (m : Mapping) (name : List ℕ) (all : List Node) → moved to m (node.NamedCall name all) ≡ node.NamedCall name (map (moved to m) all)
unfolding moved
moved_named_call to m name all = ap (fold-Node Node (move_layer to m)) (sym (node.rolls-NamedCall name all)) ∙ fold-roll-Node Node (move_layer to m) (Node-F.NamedCall name all)

pub moved_array : (to : Position) (m : Mapping) (lines : List (List ArrayItem)) → moved to m (node.Array lines) ≡ node.Array lines
unfolding moved
moved_array to m lines = ap (fold-Node Node (move_layer to m)) (sym (node.rolls-Array lines)) ∙ fold-roll-Node Node (move_layer to m) (Node-F.Array lines)

pub moved_name : (to : Position) (m : Mapping) (name : List ℕ) → moved to m (node.Name name) ≡ node.Name name
unfolding moved
moved_name to m name = ap (fold-Node Node (move_layer to m)) (sym (node.rolls-Name name)) ∙ fold-roll-Node Node (move_layer to m) (Node-F.Name name)

pub moved_error : (to : Position) (m : Mapping) (error : Error) → moved to m (node.Error error) ≡ node.Error error
unfolding moved
moved_error to m error = ap (fold-Node Node (move_layer to m)) (sym (node.rolls-Error error)) ∙ fold-roll-Node Node (move_layer to m) (Node-F.Error error)

pub moved_parse_error : (to : Position) (m : Mapping) (text : List ℕ) → moved to m (node.ParseError text) ≡ node.ParseError text
unfolding moved
moved_parse_error to m text = ap (fold-Node Node (move_layer to m)) (sym (node.rolls-ParseError text)) ∙ fold-roll-Node Node (move_layer to m) (Node-F.ParseError text)

pub moved_empty_argument : (to : Position) (m : Mapping) → moved to m node.EmptyArgument ≡ node.EmptyArgument
unfolding moved
moved_empty_argument to m = ap (fold-Node Node (move_layer to m)) (sym (node.rolls-EmptyArgument)) ∙ fold-roll-Node Node (move_layer to m) Node-F.EmptyArgument

pub moved_spill : (to : Position) (m : Mapping) (a : Node) → moved to m (node.Spill a) ≡ node.Spill (moved to m a)
unfolding moved
moved_spill to m a = ap (fold-Node Node (move_layer to m)) (sym (node.rolls-Spill a)) ∙ fold-roll-Node Node (move_layer to m) (Node-F.Spill a)

pub moved_lambda : (to : Position) (m : Mapping) (parameters : List Parameter) (a : Node) → moved to m (node.Lambda parameters a) ≡ node.Lambda parameters (moved to m a)
unfolding moved
moved_lambda to m parameters a = ap (fold-Node Node (move_layer to m)) (sym (node.rolls-Lambda parameters a)) ∙ fold-roll-Node Node (move_layer to m) (Node-F.Lambda parameters a)

pub moved_lambda_call : (to : Position) (m : Mapping) (a : Node) (all : List Node) → moved to m (node.LambdaCall a all) ≡ node.LambdaCall (moved to m a) (map (moved to m) all)
unfolding moved
moved_lambda_call to m a all = ap (fold-Node Node (move_layer to m)) (sym (node.rolls-LambdaCall a all)) ∙ fold-roll-Node Node (move_layer to m) (Node-F.LambdaCall a all)

pub moved_implicit_intersection : (to : Position) (m : Mapping) (a : Node) → moved to m (node.ImplicitIntersection a) ≡ node.ImplicitIntersection (moved to m a)
unfolding moved
moved_implicit_intersection to m a = ap (fold-Node Node (move_layer to m)) (sym (node.rolls-ImplicitIntersection a)) ∙ fold-roll-Node Node (move_layer to m) (Node-F.ImplicitIntersection a)

pub ruleset moves = (moved_boolean, moved_number, moved_text, moved_reference, moved_range, moved_colon, moved_concatenate, moved_compare, moved_sum, moved_product, moved_power, moved_unary, moved_call, moved_named_call, moved_array, moved_name, moved_error, moved_parse_error, moved_empty_argument, moved_spill, moved_lambda, moved_lambda_call, moved_implicit_intersection)
