-- What naming other things makes of each kind of node.
use Rattle.std.specs.Prelude.{◌≡◌, ℕ, Bool, List, map, Option}
use Rattle.std.proofs.Common.{ap, sym, ◌∙◌}
use Rattle.base_decimal.specs.declared.Decimal.{Decimal}
use Rattle.base_tables.specs.declared.Error.{Error}
use Rattle.base_tables.specs.declared.Function.{Function}
use Rattle.formula_tree.specs.declared.ArrayItem.{ArrayItem}
use Rattle.formula_tree.specs.declared.Corner.{Corner}
use Rattle.formula_tree.specs.declared.CompareKind.{CompareKind}
use Rattle.formula_tree.specs.declared.ProductKind.{ProductKind}
use Rattle.formula_tree.specs.declared.SumKind.{SumKind}
use Rattle.formula_tree.specs.declared.UnaryKind.{UnaryKind}
use Rattle.formula_tree.specs.declared.Parameter.{Parameter}
use Rattle.formula_tree.specs.declared.Node.{Node}
use Rattle.formula_tree.specs.declared.Node.TheVariants as node
use Rattle.formula_tree.specs.declared.Node.TheOpen.{Node-F}
use Rattle.formula_tree.specs.declared.Node.TheFolds.{fold-Node, fold-roll-Node}
use Rattle.formula_names.specs.Named.{Naming, named, named_layer}

pub named_boolean : (f : Naming) (value : Bool) → named f (node.Boolean value) ≡ node.Boolean value
unfolding named
named_boolean f value = ap (fold-Node Node (named_layer f)) (sym (node.rolls-Boolean value)) ∙ fold-roll-Node Node (named_layer f) (Node-F.Boolean value)

pub named_number : (f : Naming) (value : Decimal) → named f (node.Number value) ≡ node.Number value
unfolding named
named_number f value = ap (fold-Node Node (named_layer f)) (sym (node.rolls-Number value)) ∙ fold-roll-Node Node (named_layer f) (Node-F.Number value)

pub named_text : (f : Naming) (text : List ℕ) → named f (node.Text text) ≡ node.Text text
unfolding named
named_text f text = ap (fold-Node Node (named_layer f)) (sym (node.rolls-Text text)) ∙ fold-roll-Node Node (named_layer f) (Node-F.Text text)

pub named_reference : (f : Naming) (sheet : Option (List ℕ)) (corner : Corner) → named f (node.Reference sheet corner) ≡ node.Reference (f.sheet sheet) corner
unfolding named
named_reference f sheet corner = ap (fold-Node Node (named_layer f)) (sym (node.rolls-Reference sheet corner)) ∙ fold-roll-Node Node (named_layer f) (Node-F.Reference sheet corner)

pub named_range : (f : Naming) (sheet : Option (List ℕ)) (first second : Corner) → named f (node.Range sheet first second) ≡ node.Range (f.sheet sheet) first second
unfolding named
named_range f sheet first second = ap (fold-Node Node (named_layer f)) (sym (node.rolls-Range sheet first second)) ∙ fold-roll-Node Node (named_layer f) (Node-F.Range sheet first second)

pub named_colon : (f : Naming) (a b : Node) → named f (node.Colon a b) ≡ node.Colon (named f a) (named f b)
unfolding named
named_colon f a b = ap (fold-Node Node (named_layer f)) (sym (node.rolls-Colon a b)) ∙ fold-roll-Node Node (named_layer f) (Node-F.Colon a b)

pub named_concatenate : (f : Naming) (a b : Node) → named f (node.Concatenate a b) ≡ node.Concatenate (named f a) (named f b)
unfolding named
named_concatenate f a b = ap (fold-Node Node (named_layer f)) (sym (node.rolls-Concatenate a b)) ∙ fold-roll-Node Node (named_layer f) (Node-F.Concatenate a b)

pub named_compare : (f : Naming) (kind : CompareKind) (a b : Node) → named f (node.Compare kind a b) ≡ node.Compare kind (named f a) (named f b)
unfolding named
named_compare f kind a b = ap (fold-Node Node (named_layer f)) (sym (node.rolls-Compare kind a b)) ∙ fold-roll-Node Node (named_layer f) (Node-F.Compare kind a b)

pub named_sum : (f : Naming) (kind : SumKind) (a b : Node) → named f (node.Sum kind a b) ≡ node.Sum kind (named f a) (named f b)
unfolding named
named_sum f kind a b = ap (fold-Node Node (named_layer f)) (sym (node.rolls-Sum kind a b)) ∙ fold-roll-Node Node (named_layer f) (Node-F.Sum kind a b)

pub named_product : (f : Naming) (kind : ProductKind) (a b : Node) → named f (node.Product kind a b) ≡ node.Product kind (named f a) (named f b)
unfolding named
named_product f kind a b = ap (fold-Node Node (named_layer f)) (sym (node.rolls-Product kind a b)) ∙ fold-roll-Node Node (named_layer f) (Node-F.Product kind a b)

pub named_power : (f : Naming) (a b : Node) → named f (node.Power a b) ≡ node.Power (named f a) (named f b)
unfolding named
named_power f a b = ap (fold-Node Node (named_layer f)) (sym (node.rolls-Power a b)) ∙ fold-roll-Node Node (named_layer f) (Node-F.Power a b)

pub named_unary : (f : Naming) (kind : UnaryKind) (a : Node) → named f (node.Unary kind a) ≡ node.Unary kind (named f a)
unfolding named
named_unary f kind a = ap (fold-Node Node (named_layer f)) (sym (node.rolls-Unary kind a)) ∙ fold-roll-Node Node (named_layer f) (Node-F.Unary kind a)

pub named_call : (f : Naming) (function : Function) (all : List Node) → named f (node.Call function all) ≡ node.Call function (map (named f) all)
unfolding named
named_call f function all = ap (fold-Node Node (named_layer f)) (sym (node.rolls-Call function all)) ∙ fold-roll-Node Node (named_layer f) (Node-F.Call function all)

pub named_named_call : (f : Naming) (name : List ℕ) (all : List Node) → named f (node.NamedCall name all) ≡ node.NamedCall name (map (named f) all)
unfolding named
named_named_call f name all = ap (fold-Node Node (named_layer f)) (sym (node.rolls-NamedCall name all)) ∙ fold-roll-Node Node (named_layer f) (Node-F.NamedCall name all)

pub named_array : (f : Naming) (lines : List (List ArrayItem)) → named f (node.Array lines) ≡ node.Array lines
unfolding named
named_array f lines = ap (fold-Node Node (named_layer f)) (sym (node.rolls-Array lines)) ∙ fold-roll-Node Node (named_layer f) (Node-F.Array lines)

pub named_name : (f : Naming) (name : List ℕ) → named f (node.Name name) ≡ node.Name (f.name name)
unfolding named
named_name f name = ap (fold-Node Node (named_layer f)) (sym (node.rolls-Name name)) ∙ fold-roll-Node Node (named_layer f) (Node-F.Name name)

pub named_error : (f : Naming) (error : Error) → named f (node.Error error) ≡ node.Error error
unfolding named
named_error f error = ap (fold-Node Node (named_layer f)) (sym (node.rolls-Error error)) ∙ fold-roll-Node Node (named_layer f) (Node-F.Error error)

pub named_parse_error : (f : Naming) (text : List ℕ) → named f (node.ParseError text) ≡ node.ParseError text
unfolding named
named_parse_error f text = ap (fold-Node Node (named_layer f)) (sym (node.rolls-ParseError text)) ∙ fold-roll-Node Node (named_layer f) (Node-F.ParseError text)

pub named_empty_argument : (f : Naming) → named f node.EmptyArgument ≡ node.EmptyArgument
unfolding named
named_empty_argument f = ap (fold-Node Node (named_layer f)) (sym (node.rolls-EmptyArgument)) ∙ fold-roll-Node Node (named_layer f) Node-F.EmptyArgument

pub named_spill : (f : Naming) (a : Node) → named f (node.Spill a) ≡ node.Spill (named f a)
unfolding named
named_spill f a = ap (fold-Node Node (named_layer f)) (sym (node.rolls-Spill a)) ∙ fold-roll-Node Node (named_layer f) (Node-F.Spill a)

pub named_lambda : (f : Naming) (parameters : List Parameter) (a : Node) → named f (node.Lambda parameters a) ≡ node.Lambda parameters (named f a)
unfolding named
named_lambda f parameters a = ap (fold-Node Node (named_layer f)) (sym (node.rolls-Lambda parameters a)) ∙ fold-roll-Node Node (named_layer f) (Node-F.Lambda parameters a)

pub named_lambda_call : (f : Naming) (a : Node) (all : List Node) → named f (node.LambdaCall a all) ≡ node.LambdaCall (named f a) (map (named f) all)
unfolding named
named_lambda_call f a all = ap (fold-Node Node (named_layer f)) (sym (node.rolls-LambdaCall a all)) ∙ fold-roll-Node Node (named_layer f) (Node-F.LambdaCall a all)

pub named_implicit_intersection : (f : Naming) (a : Node) → named f (node.ImplicitIntersection a) ≡ node.ImplicitIntersection (named f a)
unfolding named
named_implicit_intersection f a = ap (fold-Node Node (named_layer f)) (sym (node.rolls-ImplicitIntersection a)) ∙ fold-roll-Node Node (named_layer f) (Node-F.ImplicitIntersection a)

pub ruleset namings = (named_boolean, named_number, named_text, named_reference, named_range, named_colon, named_concatenate, named_compare, named_sum, named_product, named_power, named_unary, named_call, named_named_call, named_array, named_name, named_error, named_parse_error, named_empty_argument, named_spill, named_lambda, named_lambda_call, named_implicit_intersection)
