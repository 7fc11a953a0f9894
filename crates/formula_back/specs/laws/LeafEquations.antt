-- What is told of each kind of node.
use Rattle.std.specs.Prelude.{◌≡◌, ℕ, Bool, false, ◌||◌, List, [], ◌∷◌, map, Option}
use Rattle.std.proofs.Common.{refl, ap, sym, ◌∙◌}
use Rattle.std.specs.List.{list_any}
use Rattle.base_decimal.specs.declared.Decimal.{Decimal}
use Rattle.base_tables.specs.declared.Error.{Error}
use Rattle.base_tables.specs.declared.Function.{Function}
use Rattle.formula_tree.specs.declared.ArrayItem.{ArrayItem}
use Rattle.formula_tree.specs.declared.Corner.{Corner}
use Rattle.formula_tree.specs.declared.CompareKind.{CompareKind}
use Rattle.formula_tree.specs.declared.ProductKind.{ProductKind}
use Rattle.formula_tree.specs.declared.SumKind.{SumKind}
use Rattle.formula_tree.specs.declared.UnaryKind.{UnaryKind}
use Rattle.formula_tree.specs.declared.Parameter.{Parameter}
use Rattle.formula_tree.specs.declared.Node.{Node}
use Rattle.formula_tree.specs.declared.Node.TheVariants as node
use Rattle.formula_tree.specs.declared.Node.TheOpen.{Node-F}
use Rattle.formula_tree.specs.declared.Node.TheFolds.{fold-Node, fold-roll-Node}
use Rattle.formula_back.specs.Leaves.{LeafTests, has_leaf, leaf_layer}

list_any-map : {X Y : Type 0} (p : X → Bool) (h : Y → X) (ys : List Y) → list_any p (map h ys) ≡ list_any (λ y. p (h y)) ys
list_any-map p h [] = refl
list_any-map p h (y ∷ ys) = ap (λ b. p (h y) || b) (list_any-map p h ys)

pub leaf_boolean : (t : LeafTests) (value : Bool) → has_leaf t (node.Boolean value) ≡ false
unfolding has_leaf
leaf_boolean t value = ap (fold-Node Bool (leaf_layer t)) (sym (node.rolls-Boolean value)) ∙ fold-roll-Node Bool (leaf_layer t) (Node-F.Boolean value)

pub leaf_number : (t : LeafTests) (value : Decimal) → has_leaf t (node.Number value) ≡ false
unfolding has_leaf
leaf_number t value = ap (fold-Node Bool (leaf_layer t)) (sym (node.rolls-Number value)) ∙ fold-roll-Node Bool (leaf_layer t) (Node-F.Number value)

pub leaf_text : (t : LeafTests) (text : List ℕ) → has_leaf t (node.Text text) ≡ false
unfolding has_leaf
leaf_text t text = ap (fold-Node Bool (leaf_layer t)) (sym (node.rolls-Text text)) ∙ fold-roll-Node Bool (leaf_layer t) (Node-F.Text text)

pub leaf_reference : (t : LeafTests) (sheet : Option (List ℕ)) (corner : Corner) → has_leaf t (node.Reference sheet corner) ≡ t.reference sheet corner
unfolding has_leaf
leaf_reference t sheet corner = ap (fold-Node Bool (leaf_layer t)) (sym (node.rolls-Reference sheet corner))
    ∙ fold-roll-Node Bool (leaf_layer t) (Node-F.Reference sheet corner)

pub leaf_range : (t : LeafTests) (sheet : Option (List ℕ)) (first second : Corner) → has_leaf t (node.Range sheet first second) ≡ t.range sheet first second
unfolding has_leaf
leaf_range t sheet first second = ap (fold-Node Bool (leaf_layer t)) (sym (node.rolls-Range sheet first second))
    ∙ fold-roll-Node Bool (leaf_layer t) (Node-F.Range sheet first second)

pub leaf_colon : (t : LeafTests) (a b : Node) → has_leaf t (node.Colon a b) ≡ has_leaf t a || has_leaf t b
unfolding has_leaf
leaf_colon t a b = ap (fold-Node Bool (leaf_layer t)) (sym (node.rolls-Colon a b)) ∙ fold-roll-Node Bool (leaf_layer t) (Node-F.Colon a b)

pub leaf_concatenate : (t : LeafTests) (a b : Node) → has_leaf t (node.Concatenate a b) ≡ has_leaf t a || has_leaf t b
unfolding has_leaf
leaf_concatenate t a b = ap (fold-Node Bool (leaf_layer t)) (sym (node.rolls-Concatenate a b)) ∙ fold-roll-Node Bool (leaf_layer t) (Node-F.Concatenate a b)

pub leaf_compare : (t : LeafTests) (kind : CompareKind) (a b : Node) → has_leaf t (node.Compare kind a b) ≡ has_leaf t a || has_leaf t b
unfolding has_leaf
leaf_compare t kind a b = ap (fold-Node Bool (leaf_layer t)) (sym (node.rolls-Compare kind a b)) ∙ fold-roll-Node Bool (leaf_layer t) (Node-F.Compare kind a b)

pub leaf_sum : (t : LeafTests) (kind : SumKind) (a b : Node) → has_leaf t (node.Sum kind a b) ≡ has_leaf t a || has_leaf t b
unfolding has_leaf
leaf_sum t kind a b = ap (fold-Node Bool (leaf_layer t)) (sym (node.rolls-Sum kind a b)) ∙ fold-roll-Node Bool (leaf_layer t) (Node-F.Sum kind a b)

pub leaf_product : (t : LeafTests) (kind : ProductKind) (a b : Node) → has_leaf t (node.Product kind a b) ≡ has_leaf t a || has_leaf t b
unfolding has_leaf
leaf_product t kind a b = ap (fold-Node Bool (leaf_layer t)) (sym (node.rolls-Product kind a b)) ∙ fold-roll-Node Bool (leaf_layer t) (Node-F.Product kind a b)

pub leaf_power : (t : LeafTests) (a b : Node) → has_leaf t (node.Power a b) ≡ has_leaf t a || has_leaf t b
unfolding has_leaf
leaf_power t a b = ap (fold-Node Bool (leaf_layer t)) (sym (node.rolls-Power a b)) ∙ fold-roll-Node Bool (leaf_layer t) (Node-F.Power a b)

pub leaf_unary : (t : LeafTests) (kind : UnaryKind) (a : Node) → has_leaf t (node.Unary kind a) ≡ has_leaf t a
unfolding has_leaf
leaf_unary t kind a = ap (fold-Node Bool (leaf_layer t)) (sym (node.rolls-Unary kind a)) ∙ fold-roll-Node Bool (leaf_layer t) (Node-F.Unary kind a)

pub leaf_call : (t : LeafTests) (function : Function) (all : List Node) → has_leaf t (node.Call function all) ≡ list_any (has_leaf t) all
unfolding has_leaf
leaf_call t function all = ap (fold-Node Bool (leaf_layer t)) (sym (node.rolls-Call function all))
    ∙ fold-roll-Node Bool (leaf_layer t) (Node-F.Call function all) ∙ list_any-map (λ test. test) (has_leaf t) all

pub leaf_named_call : (t : LeafTests) (name : List ℕ) (all : List Node) → has_leaf t (node.NamedCall name all) ≡ list_any (has_leaf t) all
unfolding has_leaf
leaf_named_call t name all = ap (fold-Node Bool (leaf_layer t)) (sym (node.rolls-NamedCall name all))
    ∙ fold-roll-Node Bool (leaf_layer t) (Node-F.NamedCall name all) ∙ list_any-map (λ test. test) (has_leaf t) all

pub leaf_array : (t : LeafTests) (lines : List (List ArrayItem)) → has_leaf t (node.Array lines) ≡ false
unfolding has_leaf
leaf_array t lines = ap (fold-Node Bool (leaf_layer t)) (sym (node.rolls-Array lines)) ∙ fold-roll-Node Bool (leaf_layer t) (Node-F.Array lines)

pub leaf_name : (t : LeafTests) (name : List ℕ) → has_leaf t (node.Name name) ≡ t.name name
unfolding has_leaf
leaf_name t name = ap (fold-Node Bool (leaf_layer t)) (sym (node.rolls-Name name)) ∙ fold-roll-Node Bool (leaf_layer t) (Node-F.Name name)

pub leaf_error : (t : LeafTests) (error : Error) → has_leaf t (node.Error error) ≡ false
unfolding has_leaf
leaf_error t error = ap (fold-Node Bool (leaf_layer t)) (sym (node.rolls-Error error)) ∙ fold-roll-Node Bool (leaf_layer t) (Node-F.Error error)

pub leaf_parse_error : (t : LeafTests) (text : List ℕ) → has_leaf t (node.ParseError text) ≡ false
unfolding has_leaf
leaf_parse_error t text = ap (fold-Node Bool (leaf_layer t)) (sym (node.rolls-ParseError text)) ∙ fold-roll-Node Bool (leaf_layer t) (Node-F.ParseError text)

pub leaf_empty_argument : (t : LeafTests) → has_leaf t node.EmptyArgument ≡ false
unfolding has_leaf
leaf_empty_argument t = ap (fold-Node Bool (leaf_layer t)) (sym (node.rolls-EmptyArgument)) ∙ fold-roll-Node Bool (leaf_layer t) Node-F.EmptyArgument

pub leaf_spill : (t : LeafTests) (a : Node) → has_leaf t (node.Spill a) ≡ has_leaf t a
unfolding has_leaf
leaf_spill t a = ap (fold-Node Bool (leaf_layer t)) (sym (node.rolls-Spill a)) ∙ fold-roll-Node Bool (leaf_layer t) (Node-F.Spill a)

pub leaf_lambda : (t : LeafTests) (parameters : List Parameter) (a : Node) → has_leaf t (node.Lambda parameters a) ≡ has_leaf t a
unfolding has_leaf
leaf_lambda t parameters a = ap (fold-Node Bool (leaf_layer t)) (sym (node.rolls-Lambda parameters a))
    ∙ fold-roll-Node Bool (leaf_layer t) (Node-F.Lambda parameters a)

pub leaf_lambda_call : (t : LeafTests) (a : Node) (all : List Node) → has_leaf t (node.LambdaCall a all) ≡ has_leaf t a || list_any (has_leaf t) all
unfolding has_leaf
leaf_lambda_call t a all = ap (fold-Node Bool (leaf_layer t)) (sym (node.rolls-LambdaCall a all))
    ∙ fold-roll-Node Bool (leaf_layer t) (Node-F.LambdaCall a all) ∙ ap (λ tests. has_leaf t a || tests) (list_any-map (λ test. test) (has_leaf t) all)

pub leaf_implicit_intersection : (t : LeafTests) (a : Node) → has_leaf t (node.ImplicitIntersection a) ≡ has_leaf t a
unfolding has_leaf
leaf_implicit_intersection t a = ap (fold-Node Bool (leaf_layer t)) (sym (node.rolls-ImplicitIntersection a))
    ∙ fold-roll-Node Bool (leaf_layer t) (Node-F.ImplicitIntersection a)

pub ruleset leaves = (
  leaf_boolean,
  leaf_number,
  leaf_text,
  leaf_reference,
  leaf_range,
  leaf_colon,
  leaf_concatenate,
  leaf_compare,
  leaf_sum,
  leaf_product,
  leaf_power,
  leaf_unary,
  leaf_call,
  leaf_named_call,
  leaf_array,
  leaf_name,
  leaf_error,
  leaf_parse_error,
  leaf_empty_argument,
  leaf_spill,
  leaf_lambda,
  leaf_lambda_call,
  leaf_implicit_intersection,
)
