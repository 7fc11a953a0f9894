-- What each kind of node is stored as, and the name that it declares.
use Rattle.std.specs.Prelude.{◌≡◌, ℕ, Bool, List, map, Option, Some, None}
use Rattle.std.proofs.Common.{ap, sym, ◌∙◌}
use Rattle.base_decimal.specs.declared.Decimal.{Decimal}
use Rattle.base_tables.specs.declared.Error.{Error}
use Rattle.base_tables.specs.declared.Function.{Function}
use Rattle.formula_tree.specs.declared.ArrayItem.{ArrayItem}
use Rattle.formula_tree.specs.declared.Corner.{Corner}
use Rattle.formula_tree.specs.declared.CompareKind.{CompareKind}
use Rattle.formula_tree.specs.declared.ProductKind.{ProductKind}
use Rattle.formula_tree.specs.declared.SumKind.{SumKind}
use Rattle.formula_tree.specs.declared.UnaryKind.{UnaryKind}
use Rattle.formula_tree.specs.declared.Parameter.{Parameter}
use Rattle.formula_tree.specs.declared.Node.{Node}
use Rattle.formula_tree.specs.declared.Node.TheVariants as node
use Rattle.formula_tree.specs.declared.Node.TheOpen.{Node-F}
use Rattle.formula_tree.specs.declared.Node.TheViews.{roll-Node}
use Rattle.formula_tree.specs.declared.Node.{map-Node}
use Rattle.formula_tree.specs.declared.Node.TheFolds.{fold-Node, fold-roll-Node}
use Rattle.formula_print.specs.declared.scope.Scope.{Scope}
use Rattle.formula_print.specs.Scope.{Scoped, scope_layer, scoped, stored, declares, used_name, stored_parameter, bind_parameters, all_within, call_arguments}

rolled : (layer : Node-F Node) (tree : Node) → roll-Node layer ≡ tree → scoped tree ≡ scope_layer (map-Node Node Scoped scoped layer)
unfolding scoped
rolled layer tree is = ap (fold-Node Scoped scope_layer) (sym is) ∙ fold-roll-Node Scoped scope_layer layer

pub stored_boolean : (scope : Scope) (value : Bool) → stored scope (node.Boolean value) ≡ node.Boolean value
unfolding stored
stored_boolean scope value = ap (λ (s : Scoped). s.within scope) (rolled (Node-F.Boolean value) (node.Boolean value) (node.rolls-Boolean value))

pub stored_number : (scope : Scope) (value : Decimal) → stored scope (node.Number value) ≡ node.Number value
unfolding stored
stored_number scope value = ap (λ (s : Scoped). s.within scope) (rolled (Node-F.Number value) (node.Number value) (node.rolls-Number value))

pub stored_text : (scope : Scope) (text : List ℕ) → stored scope (node.Text text) ≡ node.Text text
unfolding stored
stored_text scope text = ap (λ (s : Scoped). s.within scope) (rolled (Node-F.Text text) (node.Text text) (node.rolls-Text text))

pub stored_reference : (scope : Scope) (sheet : Option (List ℕ)) (corner : Corner) → stored scope (node.Reference sheet corner) ≡ node.Reference sheet corner
unfolding stored
stored_reference scope sheet corner = ap (λ (s : Scoped). s.within scope) (rolled (Node-F.Reference sheet corner) (node.Reference sheet corner) (node.rolls-Reference sheet corner))

pub stored_range : (scope : Scope) (sheet : Option (List ℕ)) (first second : Corner) → stored scope (node.Range sheet first second) ≡ node.Range sheet first second
unfolding stored
stored_range scope sheet first second = ap (λ (s : Scoped). s.within scope) (rolled (Node-F.Range sheet first second) (node.Range sheet first second) (node.rolls-Range sheet first second))

pub stored_colon : (scope : Scope) (a b : Node) → stored scope (node.Colon a b) ≡ node.Colon (stored scope a) (stored scope b)
unfolding stored
stored_colon scope a b = ap (λ (s : Scoped). s.within scope) (rolled (Node-F.Colon a b) (node.Colon a b) (node.rolls-Colon a b))

pub stored_concatenate : (scope : Scope) (a b : Node) → stored scope (node.Concatenate a b) ≡ node.Concatenate (stored scope a) (stored scope b)
unfolding stored
stored_concatenate scope a b = ap (λ (s : Scoped). s.within scope) (rolled (Node-F.Concatenate a b) (node.Concatenate a b) (node.rolls-Concatenate a b))

pub stored_compare : (scope : Scope) (kind : CompareKind) (a b : Node) → stored scope (node.Compare kind a b) ≡ node.Compare kind (stored scope a) (stored scope b)
unfolding stored
stored_compare scope kind a b = ap (λ (s : Scoped). s.within scope) (rolled (Node-F.Compare kind a b) (node.Compare kind a b) (node.rolls-Compare kind a b))

pub stored_sum : (scope : Scope) (kind : SumKind) (a b : Node) → stored scope (node.Sum kind a b) ≡ node.Sum kind (stored scope a) (stored scope b)
unfolding stored
stored_sum scope kind a b = ap (λ (s : Scoped). s.within scope) (rolled (Node-F.Sum kind a b) (node.Sum kind a b) (node.rolls-Sum kind a b))

pub stored_product : (scope : Scope) (kind : ProductKind) (a b : Node) → stored scope (node.Product kind a b) ≡ node.Product kind (stored scope a) (stored scope b)
unfolding stored
stored_product scope kind a b = ap (λ (s : Scoped). s.within scope) (rolled (Node-F.Product kind a b) (node.Product kind a b) (node.rolls-Product kind a b))

pub stored_power : (scope : Scope) (a b : Node) → stored scope (node.Power a b) ≡ node.Power (stored scope a) (stored scope b)
unfolding stored
stored_power scope a b = ap (λ (s : Scoped). s.within scope) (rolled (Node-F.Power a b) (node.Power a b) (node.rolls-Power a b))

pub stored_unary : (scope : Scope) (kind : UnaryKind) (a : Node) → stored scope (node.Unary kind a) ≡ node.Unary kind (stored scope a)
unfolding stored
stored_unary scope kind a = ap (λ (s : Scoped). s.within scope) (rolled (Node-F.Unary kind a) (node.Unary kind a) (node.rolls-Unary kind a))

pub stored_call : (scope : Scope) (function : Function) (all : List Node) → stored scope (node.Call function all) ≡ node.Call function (call_arguments function scope (map scoped all))
unfolding stored
stored_call scope function all = ap (λ (s : Scoped). s.within scope) (rolled (Node-F.Call function all) (node.Call function all) (node.rolls-Call function all))

pub stored_named_call : (scope : Scope) (name : List ℕ) (all : List Node) → stored scope (node.NamedCall name all) ≡ node.NamedCall (used_name scope name) (all_within scope (map scoped all))
unfolding stored
stored_named_call scope name all = ap (λ (s : Scoped). s.within scope) (rolled (Node-F.NamedCall name all) (node.NamedCall name all) (node.rolls-NamedCall name all))

pub stored_array : (scope : Scope) (lines : List (List ArrayItem)) → stored scope (node.Array lines) ≡ node.Array lines
unfolding stored
stored_array scope lines = ap (λ (s : Scoped). s.within scope) (rolled (Node-F.Array lines) (node.Array lines) (node.rolls-Array lines))

pub stored_name : (scope : Scope) (name : List ℕ) → stored scope (node.Name name) ≡ node.Name (used_name scope name)
unfolding stored
stored_name scope name = ap (λ (s : Scoped). s.within scope) (rolled (Node-F.Name name) (node.Name name) (node.rolls-Name name))

pub stored_error : (scope : Scope) (error : Error) → stored scope (node.Error error) ≡ node.Error error
unfolding stored
stored_error scope error = ap (λ (s : Scoped). s.within scope) (rolled (Node-F.Error error) (node.Error error) (node.rolls-Error error))

pub stored_parse_error : (scope : Scope) (text : List ℕ) → stored scope (node.ParseError text) ≡ node.ParseError text
unfolding stored
stored_parse_error scope text = ap (λ (s : Scoped). s.within scope) (rolled (Node-F.ParseError text) (node.ParseError text) (node.rolls-ParseError text))

pub stored_empty_argument : (scope : Scope) → stored scope node.EmptyArgument ≡ node.EmptyArgument
unfolding stored
stored_empty_argument scope = ap (λ (s : Scoped). s.within scope) (rolled Node-F.EmptyArgument node.EmptyArgument (node.rolls-EmptyArgument))

pub stored_spill : (scope : Scope) (a : Node) → stored scope (node.Spill a) ≡ node.Spill (stored scope a)
unfolding stored
stored_spill scope a = ap (λ (s : Scoped). s.within scope) (rolled (Node-F.Spill a) (node.Spill a) (node.rolls-Spill a))

pub stored_lambda : (scope : Scope) (parameters : List Parameter) (a : Node) → stored scope (node.Lambda parameters a) ≡ node.Lambda (map stored_parameter parameters) (stored (bind_parameters scope parameters) a)
unfolding stored
stored_lambda scope parameters a = ap (λ (s : Scoped). s.within scope) (rolled (Node-F.Lambda parameters a) (node.Lambda parameters a) (node.rolls-Lambda parameters a))

pub stored_lambda_call : (scope : Scope) (a : Node) (all : List Node) → stored scope (node.LambdaCall a all) ≡ node.LambdaCall (stored scope a) (all_within scope (map scoped all))
unfolding stored
stored_lambda_call scope a all = ap (λ (s : Scoped). s.within scope) (rolled (Node-F.LambdaCall a all) (node.LambdaCall a all) (node.rolls-LambdaCall a all))

pub stored_implicit_intersection : (scope : Scope) (a : Node) → stored scope (node.ImplicitIntersection a) ≡ node.ImplicitIntersection (stored scope a)
unfolding stored
stored_implicit_intersection scope a = ap (λ (s : Scoped). s.within scope) (rolled (Node-F.ImplicitIntersection a) (node.ImplicitIntersection a) (node.rolls-ImplicitIntersection a))

pub declares_boolean : (value : Bool) → declares (node.Boolean value) ≡ None
unfolding declares
declares_boolean value = ap (λ (s : Scoped). s.declares) (rolled (Node-F.Boolean value) (node.Boolean value) (node.rolls-Boolean value))

pub declares_number : (value : Decimal) → declares (node.Number value) ≡ None
unfolding declares
declares_number value = ap (λ (s : Scoped). s.declares) (rolled (Node-F.Number value) (node.Number value) (node.rolls-Number value))

pub declares_text : (text : List ℕ) → declares (node.Text text) ≡ None
unfolding declares
declares_text text = ap (λ (s : Scoped). s.declares) (rolled (Node-F.Text text) (node.Text text) (node.rolls-Text text))

pub declares_reference : (sheet : Option (List ℕ)) (corner : Corner) → declares (node.Reference sheet corner) ≡ None
unfolding declares
declares_reference sheet corner = ap (λ (s : Scoped). s.declares) (rolled (Node-F.Reference sheet corner) (node.Reference sheet corner) (node.rolls-Reference sheet corner))

pub declares_range : (sheet : Option (List ℕ)) (first second : Corner) → declares (node.Range sheet first second) ≡ None
unfolding declares
declares_range sheet first second = ap (λ (s : Scoped). s.declares) (rolled (Node-F.Range sheet first second) (node.Range sheet first second) (node.rolls-Range sheet first second))

pub declares_colon : (a b : Node) → declares (node.Colon a b) ≡ None
unfolding declares
declares_colon a b = ap (λ (s : Scoped). s.declares) (rolled (Node-F.Colon a b) (node.Colon a b) (node.rolls-Colon a b))

pub declares_concatenate : (a b : Node) → declares (node.Concatenate a b) ≡ None
unfolding declares
declares_concatenate a b = ap (λ (s : Scoped). s.declares) (rolled (Node-F.Concatenate a b) (node.Concatenate a b) (node.rolls-Concatenate a b))

pub declares_compare : (kind : CompareKind) (a b : Node) → declares (node.Compare kind a b) ≡ None
unfolding declares
declares_compare kind a b = ap (λ (s : Scoped). s.declares) (rolled (Node-F.Compare kind a b) (node.Compare kind a b) (node.rolls-Compare kind a b))

pub declares_sum : (kind : SumKind) (a b : Node) → declares (node.Sum kind a b) ≡ None
unfolding declares
declares_sum kind a b = ap (λ (s : Scoped). s.declares) (rolled (Node-F.Sum kind a b) (node.Sum kind a b) (node.rolls-Sum kind a b))

pub declares_product : (kind : ProductKind) (a b : Node) → declares (node.Product kind a b) ≡ None
unfolding declares
declares_product kind a b = ap (λ (s : Scoped). s.declares) (rolled (Node-F.Product kind a b) (node.Product kind a b) (node.rolls-Product kind a b))

pub declares_power : (a b : Node) → declares (node.Power a b) ≡ None
unfolding declares
declares_power a b = ap (λ (s : Scoped). s.declares) (rolled (Node-F.Power a b) (node.Power a b) (node.rolls-Power a b))

pub declares_unary : (kind : UnaryKind) (a : Node) → declares (node.Unary kind a) ≡ None
unfolding declares
declares_unary kind a = ap (λ (s : Scoped). s.declares) (rolled (Node-F.Unary kind a) (node.Unary kind a) (node.rolls-Unary kind a))

pub declares_call : (function : Function) (all : List Node) → declares (node.Call function all) ≡ None
unfolding declares
declares_call function all = ap (λ (s : Scoped). s.declares) (rolled (Node-F.Call function all) (node.Call function all) (node.rolls-Call function all))

pub declares_named_call : (name : List ℕ) (all : List Node) → declares (node.NamedCall name all) ≡ None
unfolding declares
declares_named_call name all = ap (λ (s : Scoped). s.declares) (rolled (Node-F.NamedCall name all) (node.NamedCall name all) (node.rolls-NamedCall name all))

pub declares_array : (lines : List (List ArrayItem)) → declares (node.Array lines) ≡ None
unfolding declares
declares_array lines = ap (λ (s : Scoped). s.declares) (rolled (Node-F.Array lines) (node.Array lines) (node.rolls-Array lines))

pub declares_name : (name : List ℕ) → declares (node.Name name) ≡ Some name
unfolding declares
declares_name name = ap (λ (s : Scoped). s.declares) (rolled (Node-F.Name name) (node.Name name) (node.rolls-Name name))

pub declares_error : (error : Error) → declares (node.Error error) ≡ None
unfolding declares
declares_error error = ap (λ (s : Scoped). s.declares) (rolled (Node-F.Error error) (node.Error error) (node.rolls-Error error))

pub declares_parse_error : (text : List ℕ) → declares (node.ParseError text) ≡ None
unfolding declares
declares_parse_error text = ap (λ (s : Scoped). s.declares) (rolled (Node-F.ParseError text) (node.ParseError text) (node.rolls-ParseError text))

pub declares_empty_argument : declares node.EmptyArgument ≡ None
unfolding declares
declares_empty_argument = ap (λ (s : Scoped). s.declares) (rolled Node-F.EmptyArgument node.EmptyArgument (node.rolls-EmptyArgument))

pub declares_spill : (a : Node) → declares (node.Spill a) ≡ None
unfolding declares
declares_spill a = ap (λ (s : Scoped). s.declares) (rolled (Node-F.Spill a) (node.Spill a) (node.rolls-Spill a))

pub declares_lambda : (parameters : List Parameter) (a : Node) → declares (node.Lambda parameters a) ≡ None
unfolding declares
declares_lambda parameters a = ap (λ (s : Scoped). s.declares) (rolled (Node-F.Lambda parameters a) (node.Lambda parameters a) (node.rolls-Lambda parameters a))

pub declares_lambda_call : (a : Node) (all : List Node) → declares (node.LambdaCall a all) ≡ None
unfolding declares
declares_lambda_call a all = ap (λ (s : Scoped). s.declares) (rolled (Node-F.LambdaCall a all) (node.LambdaCall a all) (node.rolls-LambdaCall a all))

pub declares_implicit_intersection : (a : Node) → declares (node.ImplicitIntersection a) ≡ None
unfolding declares
declares_implicit_intersection a = ap (λ (s : Scoped). s.declares) (rolled (Node-F.ImplicitIntersection a) (node.ImplicitIntersection a) (node.rolls-ImplicitIntersection a))

pub ruleset stores = (stored_boolean, stored_number, stored_text, stored_reference, stored_range, stored_colon, stored_concatenate, stored_compare, stored_sum, stored_product, stored_power, stored_unary, stored_call, stored_named_call, stored_array, stored_name, stored_error, stored_parse_error, stored_empty_argument, stored_spill, stored_lambda, stored_lambda_call, stored_implicit_intersection)

pub ruleset declarations = (declares_boolean, declares_number, declares_text, declares_reference, declares_range, declares_colon, declares_concatenate, declares_compare, declares_sum, declares_product, declares_power, declares_unary, declares_call, declares_named_call, declares_array, declares_name, declares_error, declares_parse_error, declares_empty_argument, declares_spill, declares_lambda, declares_lambda_call, declares_implicit_intersection)
