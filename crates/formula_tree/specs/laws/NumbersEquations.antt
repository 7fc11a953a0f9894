-- Whether the numbers of each kind of node follow a rule.
use Rattle.std.specs.Prelude.{◌≡◌, ℕ, Bool, true, ◌&&◌, List, Option}
use Rattle.std.proofs.Common.{ap, sym, ◌∙◌}
use Rattle.std.specs.List.{list_all}
use Rattle.std.proofs.lemmas.List.Folds.{list_all-map}
use Rattle.base_decimal.specs.declared.Decimal.{Decimal}
use Rattle.base_tables.specs.declared.Error.{Error}
use Rattle.base_tables.specs.declared.Function.{Function}
use Rattle.formula_tree.specs.declared.array_item.ArrayItem.{ArrayItem}
use Rattle.formula_tree.specs.declared.corner.Corner.{Corner}
use Rattle.formula_tree.specs.declared.operator.CompareKind.{CompareKind}
use Rattle.formula_tree.specs.declared.operator.ProductKind.{ProductKind}
use Rattle.formula_tree.specs.declared.operator.SumKind.{SumKind}
use Rattle.formula_tree.specs.declared.operator.UnaryKind.{UnaryKind}
use Rattle.formula_tree.specs.declared.parameter.Parameter.{Parameter}
use Rattle.formula_tree.specs.declared.node.Node.{Node}
use Rattle.formula_tree.specs.declared.node.Node.TheVariants as node
use Rattle.formula_tree.specs.declared.node.Node.TheOpen.{Node-F}
use Rattle.formula_tree.specs.declared.node.Node.TheFolds.{fold-Node, fold-roll-Node}
use Rattle.formula_tree.specs.declared.numbers.NumberRule.{NumberRule}
use Rattle.formula_tree.specs.Numbers.{number_follows, lines_follow, numbers_layer, numbers_follow}

pub numbers_boolean : (rule : NumberRule) (value : Bool) → numbers_follow rule (node.Boolean value) ≡ true
unfolding numbers_follow
numbers_boolean rule value = ap (fold-Node Bool (numbers_layer rule)) (sym (node.rolls-Boolean value)) ∙ fold-roll-Node Bool (numbers_layer rule) (Node-F.Boolean value)

pub numbers_number : (rule : NumberRule) (value : Decimal) → numbers_follow rule (node.Number value) ≡ number_follows rule value
unfolding numbers_follow
numbers_number rule value = ap (fold-Node Bool (numbers_layer rule)) (sym (node.rolls-Number value)) ∙ fold-roll-Node Bool (numbers_layer rule) (Node-F.Number value)

pub numbers_text : (rule : NumberRule) (text : List ℕ) → numbers_follow rule (node.Text text) ≡ true
unfolding numbers_follow
numbers_text rule text = ap (fold-Node Bool (numbers_layer rule)) (sym (node.rolls-Text text)) ∙ fold-roll-Node Bool (numbers_layer rule) (Node-F.Text text)

pub numbers_reference : (rule : NumberRule) (sheet : Option (List ℕ)) (corner : Corner) → numbers_follow rule (node.Reference sheet corner) ≡ true
unfolding numbers_follow
numbers_reference rule sheet corner = ap (fold-Node Bool (numbers_layer rule)) (sym (node.rolls-Reference sheet corner)) ∙ fold-roll-Node Bool (numbers_layer rule) (Node-F.Reference sheet corner)

pub numbers_range : (rule : NumberRule) (sheet : Option (List ℕ)) (first second : Corner) → numbers_follow rule (node.Range sheet first second) ≡ true
unfolding numbers_follow
numbers_range rule sheet first second = ap (fold-Node Bool (numbers_layer rule)) (sym (node.rolls-Range sheet first second)) ∙ fold-roll-Node Bool (numbers_layer rule) (Node-F.Range sheet first second)

pub numbers_colon : (rule : NumberRule) (a b : Node) → numbers_follow rule (node.Colon a b) ≡ numbers_follow rule a && numbers_follow rule b
unfolding numbers_follow
numbers_colon rule a b = ap (fold-Node Bool (numbers_layer rule)) (sym (node.rolls-Colon a b)) ∙ fold-roll-Node Bool (numbers_layer rule) (Node-F.Colon a b)

pub numbers_concatenate : (rule : NumberRule) (a b : Node) → numbers_follow rule (node.Concatenate a b) ≡ numbers_follow rule a && numbers_follow rule b
unfolding numbers_follow
numbers_concatenate rule a b = ap (fold-Node Bool (numbers_layer rule)) (sym (node.rolls-Concatenate a b)) ∙ fold-roll-Node Bool (numbers_layer rule) (Node-F.Concatenate a b)

pub numbers_compare : (rule : NumberRule) (kind : CompareKind) (a b : Node) → numbers_follow rule (node.Compare kind a b) ≡ numbers_follow rule a && numbers_follow rule b
unfolding numbers_follow
numbers_compare rule kind a b = ap (fold-Node Bool (numbers_layer rule)) (sym (node.rolls-Compare kind a b)) ∙ fold-roll-Node Bool (numbers_layer rule) (Node-F.Compare kind a b)

pub numbers_sum : (rule : NumberRule) (kind : SumKind) (a b : Node) → numbers_follow rule (node.Sum kind a b) ≡ numbers_follow rule a && numbers_follow rule b
unfolding numbers_follow
numbers_sum rule kind a b = ap (fold-Node Bool (numbers_layer rule)) (sym (node.rolls-Sum kind a b)) ∙ fold-roll-Node Bool (numbers_layer rule) (Node-F.Sum kind a b)

pub numbers_product : (rule : NumberRule) (kind : ProductKind) (a b : Node) → numbers_follow rule (node.Product kind a b) ≡ numbers_follow rule a && numbers_follow rule b
unfolding numbers_follow
numbers_product rule kind a b = ap (fold-Node Bool (numbers_layer rule)) (sym (node.rolls-Product kind a b)) ∙ fold-roll-Node Bool (numbers_layer rule) (Node-F.Product kind a b)

pub numbers_power : (rule : NumberRule) (a b : Node) → numbers_follow rule (node.Power a b) ≡ numbers_follow rule a && numbers_follow rule b
unfolding numbers_follow
numbers_power rule a b = ap (fold-Node Bool (numbers_layer rule)) (sym (node.rolls-Power a b)) ∙ fold-roll-Node Bool (numbers_layer rule) (Node-F.Power a b)

pub numbers_unary : (rule : NumberRule) (kind : UnaryKind) (a : Node) → numbers_follow rule (node.Unary kind a) ≡ numbers_follow rule a
unfolding numbers_follow
numbers_unary rule kind a = ap (fold-Node Bool (numbers_layer rule)) (sym (node.rolls-Unary kind a)) ∙ fold-roll-Node Bool (numbers_layer rule) (Node-F.Unary kind a)

pub numbers_call : (rule : NumberRule) (function : Function) (all : List Node) → numbers_follow rule (node.Call function all) ≡ list_all (numbers_follow rule) all
unfolding numbers_follow
numbers_call rule function all = ap (fold-Node Bool (numbers_layer rule)) (sym (node.rolls-Call function all)) ∙ fold-roll-Node Bool (numbers_layer rule) (Node-F.Call function all) ∙ list_all-map (λ test. test) (numbers_follow rule) all

pub numbers_named_call : (rule : NumberRule) (name : List ℕ) (all : List Node) → numbers_follow rule (node.NamedCall name all) ≡ list_all (numbers_follow rule) all
unfolding numbers_follow
numbers_named_call rule name all = ap (fold-Node Bool (numbers_layer rule)) (sym (node.rolls-NamedCall name all)) ∙ fold-roll-Node Bool (numbers_layer rule) (Node-F.NamedCall name all) ∙ list_all-map (λ test. test) (numbers_follow rule) all

pub numbers_array : (rule : NumberRule) (lines : List (List ArrayItem)) → numbers_follow rule (node.Array lines) ≡ lines_follow rule lines
unfolding numbers_follow
numbers_array rule lines = ap (fold-Node Bool (numbers_layer rule)) (sym (node.rolls-Array lines)) ∙ fold-roll-Node Bool (numbers_layer rule) (Node-F.Array lines)

pub numbers_name : (rule : NumberRule) (name : List ℕ) → numbers_follow rule (node.Name name) ≡ true
unfolding numbers_follow
numbers_name rule name = ap (fold-Node Bool (numbers_layer rule)) (sym (node.rolls-Name name)) ∙ fold-roll-Node Bool (numbers_layer rule) (Node-F.Name name)

pub numbers_error : (rule : NumberRule) (error : Error) → numbers_follow rule (node.Error error) ≡ true
unfolding numbers_follow
numbers_error rule error = ap (fold-Node Bool (numbers_layer rule)) (sym (node.rolls-Error error)) ∙ fold-roll-Node Bool (numbers_layer rule) (Node-F.Error error)

pub numbers_parse_error : (rule : NumberRule) (text : List ℕ) → numbers_follow rule (node.ParseError text) ≡ true
unfolding numbers_follow
numbers_parse_error rule text = ap (fold-Node Bool (numbers_layer rule)) (sym (node.rolls-ParseError text)) ∙ fold-roll-Node Bool (numbers_layer rule) (Node-F.ParseError text)

pub numbers_empty_argument : (rule : NumberRule) → numbers_follow rule node.EmptyArgument ≡ true
unfolding numbers_follow
numbers_empty_argument rule = ap (fold-Node Bool (numbers_layer rule)) (sym (node.rolls-EmptyArgument)) ∙ fold-roll-Node Bool (numbers_layer rule) Node-F.EmptyArgument

pub numbers_spill : (rule : NumberRule) (a : Node) → numbers_follow rule (node.Spill a) ≡ numbers_follow rule a
unfolding numbers_follow
numbers_spill rule a = ap (fold-Node Bool (numbers_layer rule)) (sym (node.rolls-Spill a)) ∙ fold-roll-Node Bool (numbers_layer rule) (Node-F.Spill a)

pub numbers_lambda : (rule : NumberRule) (parameters : List Parameter) (a : Node) → numbers_follow rule (node.Lambda parameters a) ≡ numbers_follow rule a
unfolding numbers_follow
numbers_lambda rule parameters a = ap (fold-Node Bool (numbers_layer rule)) (sym (node.rolls-Lambda parameters a)) ∙ fold-roll-Node Bool (numbers_layer rule) (Node-F.Lambda parameters a)

pub numbers_lambda_call : (rule : NumberRule) (a : Node) (all : List Node) → numbers_follow rule (node.LambdaCall a all) ≡ numbers_follow rule a && list_all (numbers_follow rule) all
unfolding numbers_follow
numbers_lambda_call rule a all = ap (fold-Node Bool (numbers_layer rule)) (sym (node.rolls-LambdaCall a all)) ∙ fold-roll-Node Bool (numbers_layer rule) (Node-F.LambdaCall a all) ∙ ap (λ tests. numbers_follow rule a && tests) (list_all-map (λ test. test) (numbers_follow rule) all)

pub numbers_implicit_intersection : (rule : NumberRule) (a : Node) → numbers_follow rule (node.ImplicitIntersection a) ≡ numbers_follow rule a
unfolding numbers_follow
numbers_implicit_intersection rule a = ap (fold-Node Bool (numbers_layer rule)) (sym (node.rolls-ImplicitIntersection a)) ∙ fold-roll-Node Bool (numbers_layer rule) (Node-F.ImplicitIntersection a)

pub ruleset numberings = (numbers_boolean, numbers_number, numbers_text, numbers_reference, numbers_range, numbers_colon, numbers_concatenate, numbers_compare, numbers_sum, numbers_product, numbers_power, numbers_unary, numbers_call, numbers_named_call, numbers_array, numbers_name, numbers_error, numbers_parse_error, numbers_empty_argument, numbers_spill, numbers_lambda, numbers_lambda_call, numbers_implicit_intersection)
