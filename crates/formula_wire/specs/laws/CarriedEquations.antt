-- Whether bytes can carry the parts of each kind of node.
use Rattle.std.specs.Prelude.{◌≡◌, ℕ, ◌^◌, Bool, true, ◌&&◌, nat_lt, List, [], ◌∷◌, length, map, Option}
use Rattle.std.proofs.Common.{ap, sym, refl, suc, ◌∙◌}
use Rattle.std.specs.List.{list_all}
use Rattle.std.proofs.lemmas.List.Folds.{list_all-map}
use Rattle.base_decimal.specs.Canonical.{is_canonical}
use Rattle.base_decimal.specs.declared.Decimal.{Decimal}
use Rattle.base_tables.specs.declared.Error.{Error}
use Rattle.base_tables.specs.declared.Function.{Function}
use Rattle.formula_tree.specs.declared.ArrayItem.{ArrayItem}
use Rattle.formula_tree.specs.declared.Corner.{Corner}
use Rattle.formula_tree.specs.declared.CompareKind.{CompareKind}
use Rattle.formula_tree.specs.declared.SumKind.{SumKind}
use Rattle.formula_tree.specs.declared.ProductKind.{ProductKind}
use Rattle.formula_tree.specs.declared.UnaryKind.{UnaryKind}
use Rattle.formula_tree.specs.declared.Parameter.{Parameter}
use Rattle.formula_tree.specs.declared.Node.{Node}
use Rattle.formula_tree.specs.declared.Node.TheVariants as node
use Rattle.formula_tree.specs.declared.Node.TheOpen.{Node-F}
use Rattle.formula_tree.specs.declared.Node.TheFolds.{fold-Node, fold-roll-Node}
use Rattle.base_wire.specs.Forms.{if_passes, is_text, is_list}
use Rattle.formula_wire.specs.Carried.{is_corner, is_item, is_parameter, carried_layer, is_carried}

length_same : (all : List Node) → length (map is_carried all) ≡ length all
length_same [] = refl
length_same (a ∷ all) = ap suc (length_same all)

all_same : (all : List Node) → is_list (λ test. test) (map is_carried all) ≡ is_list is_carried all
all_same all = ap (λ (n : ℕ). nat_lt n (2 ^ 64) && list_all (λ test. test) (map is_carried all)) (length_same all) ∙ ap (λ (test : Bool). nat_lt (length all) (2 ^ 64) && test) (list_all-map (λ test. test) is_carried all)

pub carried_boolean : (value : Bool) → is_carried (node.Boolean value) ≡ true
unfolding is_carried
carried_boolean value = ap (fold-Node Bool carried_layer) (sym (node.rolls-Boolean value)) ∙ fold-roll-Node Bool carried_layer (Node-F.Boolean value)

pub carried_number : (value : Decimal) → is_carried (node.Number value) ≡ is_canonical value
unfolding is_carried
carried_number value = ap (fold-Node Bool carried_layer) (sym (node.rolls-Number value)) ∙ fold-roll-Node Bool carried_layer (Node-F.Number value)

pub carried_text : (text : List ℕ) → is_carried (node.Text text) ≡ is_text text
unfolding is_carried
carried_text text = ap (fold-Node Bool carried_layer) (sym (node.rolls-Text text)) ∙ fold-roll-Node Bool carried_layer (Node-F.Text text)

pub carried_reference : (sheet : Option (List ℕ)) (corner : Corner) → is_carried (node.Reference sheet corner) ≡ if_passes is_text sheet && is_corner corner
unfolding is_carried
carried_reference sheet corner = ap (fold-Node Bool carried_layer) (sym (node.rolls-Reference sheet corner)) ∙ fold-roll-Node Bool carried_layer (Node-F.Reference sheet corner)

pub carried_range : (sheet : Option (List ℕ)) (first second : Corner) → is_carried (node.Range sheet first second) ≡ if_passes is_text sheet && (is_corner first && is_corner second)
unfolding is_carried
carried_range sheet first second = ap (fold-Node Bool carried_layer) (sym (node.rolls-Range sheet first second)) ∙ fold-roll-Node Bool carried_layer (Node-F.Range sheet first second)

pub carried_colon : (a b : Node) → is_carried (node.Colon a b) ≡ is_carried a && is_carried b
unfolding is_carried
carried_colon a b = ap (fold-Node Bool carried_layer) (sym (node.rolls-Colon a b)) ∙ fold-roll-Node Bool carried_layer (Node-F.Colon a b)

pub carried_concatenate : (a b : Node) → is_carried (node.Concatenate a b) ≡ is_carried a && is_carried b
unfolding is_carried
carried_concatenate a b = ap (fold-Node Bool carried_layer) (sym (node.rolls-Concatenate a b)) ∙ fold-roll-Node Bool carried_layer (Node-F.Concatenate a b)

pub carried_compare : (kind : CompareKind) (a b : Node) → is_carried (node.Compare kind a b) ≡ is_carried a && is_carried b
unfolding is_carried
carried_compare kind a b = ap (fold-Node Bool carried_layer) (sym (node.rolls-Compare kind a b)) ∙ fold-roll-Node Bool carried_layer (Node-F.Compare kind a b)

pub carried_sum : (kind : SumKind) (a b : Node) → is_carried (node.Sum kind a b) ≡ is_carried a && is_carried b
unfolding is_carried
carried_sum kind a b = ap (fold-Node Bool carried_layer) (sym (node.rolls-Sum kind a b)) ∙ fold-roll-Node Bool carried_layer (Node-F.Sum kind a b)

pub carried_product : (kind : ProductKind) (a b : Node) → is_carried (node.Product kind a b) ≡ is_carried a && is_carried b
unfolding is_carried
carried_product kind a b = ap (fold-Node Bool carried_layer) (sym (node.rolls-Product kind a b)) ∙ fold-roll-Node Bool carried_layer (Node-F.Product kind a b)

pub carried_power : (a b : Node) → is_carried (node.Power a b) ≡ is_carried a && is_carried b
unfolding is_carried
carried_power a b = ap (fold-Node Bool carried_layer) (sym (node.rolls-Power a b)) ∙ fold-roll-Node Bool carried_layer (Node-F.Power a b)

pub carried_unary : (kind : UnaryKind) (a : Node) → is_carried (node.Unary kind a) ≡ is_carried a
unfolding is_carried
carried_unary kind a = ap (fold-Node Bool carried_layer) (sym (node.rolls-Unary kind a)) ∙ fold-roll-Node Bool carried_layer (Node-F.Unary kind a)

pub carried_call : (function : Function) (all : List Node) → is_carried (node.Call function all) ≡ is_list is_carried all
unfolding is_carried
carried_call function all = ap (fold-Node Bool carried_layer) (sym (node.rolls-Call function all)) ∙ fold-roll-Node Bool carried_layer (Node-F.Call function all) ∙ all_same all

pub carried_named_call : (name : List ℕ) (all : List Node) → is_carried (node.NamedCall name all) ≡ is_text name && is_list is_carried all
unfolding is_carried
carried_named_call name all = ap (fold-Node Bool carried_layer) (sym (node.rolls-NamedCall name all)) ∙ fold-roll-Node Bool carried_layer (Node-F.NamedCall name all) ∙ ap (λ (test : Bool). is_text name && test) (all_same all)

pub carried_array : (lines : List (List ArrayItem)) → is_carried (node.Array lines) ≡ is_list (is_list is_item) lines
unfolding is_carried
carried_array lines = ap (fold-Node Bool carried_layer) (sym (node.rolls-Array lines)) ∙ fold-roll-Node Bool carried_layer (Node-F.Array lines)

pub carried_name : (name : List ℕ) → is_carried (node.Name name) ≡ is_text name
unfolding is_carried
carried_name name = ap (fold-Node Bool carried_layer) (sym (node.rolls-Name name)) ∙ fold-roll-Node Bool carried_layer (Node-F.Name name)

pub carried_error : (error : Error) → is_carried (node.Error error) ≡ true
unfolding is_carried
carried_error error = ap (fold-Node Bool carried_layer) (sym (node.rolls-Error error)) ∙ fold-roll-Node Bool carried_layer (Node-F.Error error)

pub carried_parse_error : (text : List ℕ) → is_carried (node.ParseError text) ≡ is_text text
unfolding is_carried
carried_parse_error text = ap (fold-Node Bool carried_layer) (sym (node.rolls-ParseError text)) ∙ fold-roll-Node Bool carried_layer (Node-F.ParseError text)

pub carried_empty_argument : is_carried node.EmptyArgument ≡ true
unfolding is_carried
carried_empty_argument = ap (fold-Node Bool carried_layer) (sym (node.rolls-EmptyArgument)) ∙ fold-roll-Node Bool carried_layer Node-F.EmptyArgument

pub carried_spill : (a : Node) → is_carried (node.Spill a) ≡ is_carried a
unfolding is_carried
carried_spill a = ap (fold-Node Bool carried_layer) (sym (node.rolls-Spill a)) ∙ fold-roll-Node Bool carried_layer (Node-F.Spill a)

pub carried_lambda : (parameters : List Parameter) (a : Node) → is_carried (node.Lambda parameters a) ≡ is_list is_parameter parameters && is_carried a
unfolding is_carried
carried_lambda parameters a = ap (fold-Node Bool carried_layer) (sym (node.rolls-Lambda parameters a)) ∙ fold-roll-Node Bool carried_layer (Node-F.Lambda parameters a)

pub carried_lambda_call : (a : Node) (all : List Node) → is_carried (node.LambdaCall a all) ≡ is_carried a && is_list is_carried all
unfolding is_carried
carried_lambda_call a all = ap (fold-Node Bool carried_layer) (sym (node.rolls-LambdaCall a all)) ∙ fold-roll-Node Bool carried_layer (Node-F.LambdaCall a all) ∙ ap (λ (test : Bool). is_carried a && test) (all_same all)

pub carried_implicit_intersection : (a : Node) → is_carried (node.ImplicitIntersection a) ≡ is_carried a
unfolding is_carried
carried_implicit_intersection a = ap (fold-Node Bool carried_layer) (sym (node.rolls-ImplicitIntersection a)) ∙ fold-roll-Node Bool carried_layer (Node-F.ImplicitIntersection a)

pub ruleset carryings = (carried_boolean, carried_number, carried_text, carried_reference, carried_range, carried_colon, carried_concatenate, carried_compare, carried_sum, carried_product, carried_power, carried_unary, carried_call, carried_named_call, carried_array, carried_name, carried_error, carried_parse_error, carried_empty_argument, carried_spill, carried_lambda, carried_lambda_call, carried_implicit_intersection)
