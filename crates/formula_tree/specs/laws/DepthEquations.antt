-- The depth of each kind of node.
use Rattle.std.specs.Prelude.{◌≡◌, ℕ, ◌+◌, max, Bool, List, map, Option}
use Rattle.std.proofs.Common.{ap, sym, ◌∙◌}
use Rattle.base_decimal.specs.declared.Decimal.{Decimal}
use Rattle.base_tables.specs.declared.Error.{Error}
use Rattle.base_tables.specs.declared.Function.{Function}
use Rattle.formula_tree.specs.declared.array_item.ArrayItem.{ArrayItem}
use Rattle.formula_tree.specs.declared.corner.Corner.{Corner}
use Rattle.formula_tree.specs.declared.operator.CompareKind.{CompareKind}
use Rattle.formula_tree.specs.declared.operator.ProductKind.{ProductKind}
use Rattle.formula_tree.specs.declared.operator.SumKind.{SumKind}
use Rattle.formula_tree.specs.declared.operator.UnaryKind.{UnaryKind}
use Rattle.formula_tree.specs.declared.parameter.Parameter.{Parameter}
use Rattle.formula_tree.specs.declared.node.Node.{Node}
use Rattle.formula_tree.specs.declared.node.Node.TheVariants as node
use Rattle.formula_tree.specs.declared.node.Node.TheOpen.{Node-F}
use Rattle.formula_tree.specs.declared.node.Node.TheFolds.{fold-Node, fold-roll-Node}
use Rattle.formula_tree.specs.Depth.{depth_of, layer_depth, greatest}

pub depth_boolean : (value : Bool) → depth_of (node.Boolean value) ≡ 1
unfolding depth_of
depth_boolean value = ap (fold-Node ℕ layer_depth) (sym (node.rolls-Boolean value)) ∙ fold-roll-Node ℕ layer_depth (Node-F.Boolean value)

pub depth_number : (value : Decimal) → depth_of (node.Number value) ≡ 1
unfolding depth_of
depth_number value = ap (fold-Node ℕ layer_depth) (sym (node.rolls-Number value)) ∙ fold-roll-Node ℕ layer_depth (Node-F.Number value)

pub depth_text : (text : List ℕ) → depth_of (node.Text text) ≡ 1
unfolding depth_of
depth_text text = ap (fold-Node ℕ layer_depth) (sym (node.rolls-Text text)) ∙ fold-roll-Node ℕ layer_depth (Node-F.Text text)

pub depth_reference : (sheet : Option (List ℕ)) (corner : Corner) → depth_of (node.Reference sheet corner) ≡ 1
unfolding depth_of
depth_reference sheet corner = ap (fold-Node ℕ layer_depth) (sym (node.rolls-Reference sheet corner)) ∙ fold-roll-Node ℕ layer_depth (Node-F.Reference sheet corner)

pub depth_range : (sheet : Option (List ℕ)) (first second : Corner) → depth_of (node.Range sheet first second) ≡ 2
unfolding depth_of
depth_range sheet first second = ap (fold-Node ℕ layer_depth) (sym (node.rolls-Range sheet first second)) ∙ fold-roll-Node ℕ layer_depth (Node-F.Range sheet first second)

pub depth_colon : (a b : Node) → depth_of (node.Colon a b) ≡ max (depth_of a) (depth_of b) + 1
unfolding depth_of
depth_colon a b = ap (fold-Node ℕ layer_depth) (sym (node.rolls-Colon a b)) ∙ fold-roll-Node ℕ layer_depth (Node-F.Colon a b)

pub depth_concatenate : (a b : Node) → depth_of (node.Concatenate a b) ≡ max (depth_of a) (depth_of b) + 1
unfolding depth_of
depth_concatenate a b = ap (fold-Node ℕ layer_depth) (sym (node.rolls-Concatenate a b)) ∙ fold-roll-Node ℕ layer_depth (Node-F.Concatenate a b)

pub depth_compare : (kind : CompareKind) (a b : Node) → depth_of (node.Compare kind a b) ≡ max (depth_of a) (depth_of b) + 1
unfolding depth_of
depth_compare kind a b = ap (fold-Node ℕ layer_depth) (sym (node.rolls-Compare kind a b)) ∙ fold-roll-Node ℕ layer_depth (Node-F.Compare kind a b)

pub depth_sum : (kind : SumKind) (a b : Node) → depth_of (node.Sum kind a b) ≡ max (depth_of a) (depth_of b) + 1
unfolding depth_of
depth_sum kind a b = ap (fold-Node ℕ layer_depth) (sym (node.rolls-Sum kind a b)) ∙ fold-roll-Node ℕ layer_depth (Node-F.Sum kind a b)

pub depth_product : (kind : ProductKind) (a b : Node) → depth_of (node.Product kind a b) ≡ max (depth_of a) (depth_of b) + 1
unfolding depth_of
depth_product kind a b = ap (fold-Node ℕ layer_depth) (sym (node.rolls-Product kind a b)) ∙ fold-roll-Node ℕ layer_depth (Node-F.Product kind a b)

pub depth_power : (a b : Node) → depth_of (node.Power a b) ≡ max (depth_of a) (depth_of b) + 1
unfolding depth_of
depth_power a b = ap (fold-Node ℕ layer_depth) (sym (node.rolls-Power a b)) ∙ fold-roll-Node ℕ layer_depth (Node-F.Power a b)

pub depth_unary : (kind : UnaryKind) (a : Node) → depth_of (node.Unary kind a) ≡ depth_of a + 1
unfolding depth_of
depth_unary kind a = ap (fold-Node ℕ layer_depth) (sym (node.rolls-Unary kind a)) ∙ fold-roll-Node ℕ layer_depth (Node-F.Unary kind a)

pub depth_call : (function : Function) (all : List Node) → depth_of (node.Call function all) ≡ greatest (map depth_of all) + 1
unfolding depth_of
depth_call function all = ap (fold-Node ℕ layer_depth) (sym (node.rolls-Call function all)) ∙ fold-roll-Node ℕ layer_depth (Node-F.Call function all)

pub depth_named_call : (name : List ℕ) (all : List Node) → depth_of (node.NamedCall name all) ≡ greatest (map depth_of all) + 1
unfolding depth_of
depth_named_call name all = ap (fold-Node ℕ layer_depth) (sym (node.rolls-NamedCall name all)) ∙ fold-roll-Node ℕ layer_depth (Node-F.NamedCall name all)

pub depth_array : (lines : List (List ArrayItem)) → depth_of (node.Array lines) ≡ 1
unfolding depth_of
depth_array lines = ap (fold-Node ℕ layer_depth) (sym (node.rolls-Array lines)) ∙ fold-roll-Node ℕ layer_depth (Node-F.Array lines)

pub depth_name : (name : List ℕ) → depth_of (node.Name name) ≡ 1
unfolding depth_of
depth_name name = ap (fold-Node ℕ layer_depth) (sym (node.rolls-Name name)) ∙ fold-roll-Node ℕ layer_depth (Node-F.Name name)

pub depth_error : (error : Error) → depth_of (node.Error error) ≡ 1
unfolding depth_of
depth_error error = ap (fold-Node ℕ layer_depth) (sym (node.rolls-Error error)) ∙ fold-roll-Node ℕ layer_depth (Node-F.Error error)

pub depth_parse_error : (text : List ℕ) → depth_of (node.ParseError text) ≡ 1
unfolding depth_of
depth_parse_error text = ap (fold-Node ℕ layer_depth) (sym (node.rolls-ParseError text)) ∙ fold-roll-Node ℕ layer_depth (Node-F.ParseError text)

pub depth_empty_argument : depth_of node.EmptyArgument ≡ 1
unfolding depth_of
depth_empty_argument = ap (fold-Node ℕ layer_depth) (sym (node.rolls-EmptyArgument)) ∙ fold-roll-Node ℕ layer_depth Node-F.EmptyArgument

pub depth_spill : (a : Node) → depth_of (node.Spill a) ≡ depth_of a + 1
unfolding depth_of
depth_spill a = ap (fold-Node ℕ layer_depth) (sym (node.rolls-Spill a)) ∙ fold-roll-Node ℕ layer_depth (Node-F.Spill a)

pub depth_lambda : (parameters : List Parameter) (a : Node) → depth_of (node.Lambda parameters a) ≡ depth_of a + 1
unfolding depth_of
depth_lambda parameters a = ap (fold-Node ℕ layer_depth) (sym (node.rolls-Lambda parameters a)) ∙ fold-roll-Node ℕ layer_depth (Node-F.Lambda parameters a)

pub depth_lambda_call : (a : Node) (all : List Node) → depth_of (node.LambdaCall a all) ≡ max (depth_of a) (greatest (map depth_of all)) + 1
unfolding depth_of
depth_lambda_call a all = ap (fold-Node ℕ layer_depth) (sym (node.rolls-LambdaCall a all)) ∙ fold-roll-Node ℕ layer_depth (Node-F.LambdaCall a all)

pub depth_implicit_intersection : (a : Node) → depth_of (node.ImplicitIntersection a) ≡ depth_of a + 1
unfolding depth_of
depth_implicit_intersection a = ap (fold-Node ℕ layer_depth) (sym (node.rolls-ImplicitIntersection a)) ∙ fold-roll-Node ℕ layer_depth (Node-F.ImplicitIntersection a)

pub ruleset depths = (depth_boolean, depth_number, depth_text, depth_reference, depth_range, depth_colon, depth_concatenate, depth_compare, depth_sum, depth_product, depth_power, depth_unary, depth_call, depth_named_call, depth_array, depth_name, depth_error, depth_parse_error, depth_empty_argument, depth_spill, depth_lambda, depth_lambda_call, depth_implicit_intersection)
