-- What holds of every tree: a case for each kind of node.
use Rattle.std.specs.Prelude.{ℕ, Bool, List, [], ◌∷◌, map, Option}
use Rattle.std.proofs.Common.{subst, sym}
use Rattle.std.specs.List.{AllByRecursion}
use Rattle.base_decimal.specs.declared.Decimal.{Decimal}
use Rattle.base_tables.specs.declared.Error.{Error}
use Rattle.base_tables.specs.declared.Function.{Function}
use Rattle.formula_tree.specs.declared.array_item.ArrayItem.{ArrayItem}
use Rattle.formula_tree.specs.declared.corner.Corner.{Corner}
use Rattle.formula_tree.specs.declared.operator.CompareKind.{CompareKind}
use Rattle.formula_tree.specs.declared.operator.ProductKind.{ProductKind}
use Rattle.formula_tree.specs.declared.operator.SumKind.{SumKind}
use Rattle.formula_tree.specs.declared.operator.UnaryKind.{UnaryKind}
use Rattle.formula_tree.specs.declared.parameter.Parameter.{Parameter}
use Rattle.formula_tree.specs.declared.node.Node.{Node, map-Node}
use Rattle.formula_tree.specs.declared.node.Node.TheVariants as node
use Rattle.formula_tree.specs.declared.node.Node.TheOpen.{Node-F}
use Rattle.formula_tree.specs.declared.node.Node.TheFolds.{ind-Node}
use Rattle.formula_tree.specs.declared.node.Node.TheViews.{roll-Node}

-- a fact of trees, for each kind of node where it holds of the children
pub record Cases (P : Node → Type 0) : Type 0 where
  pub boolean : (value : Bool) → P (node.Boolean value)
  pub number : (value : Decimal) → P (node.Number value)
  pub text : (text : List ℕ) → P (node.Text text)
  pub reference : (sheet : Option (List ℕ)) (corner : Corner) → P (node.Reference sheet corner)
  pub range : (sheet : Option (List ℕ)) (first second : Corner) → P (node.Range sheet first second)
  pub colon : (a b : Node) → P a → P b → P (node.Colon a b)
  pub concatenate : (a b : Node) → P a → P b → P (node.Concatenate a b)
  pub compare : (kind : CompareKind) (a b : Node) → P a → P b → P (node.Compare kind a b)
  pub sum : (kind : SumKind) (a b : Node) → P a → P b → P (node.Sum kind a b)
  pub product : (kind : ProductKind) (a b : Node) → P a → P b → P (node.Product kind a b)
  pub power : (a b : Node) → P a → P b → P (node.Power a b)
  pub unary : (kind : UnaryKind) (a : Node) → P a → P (node.Unary kind a)
  pub call : (function : Function) (all : List Node) → AllByRecursion P all → P (node.Call function all)
  pub named_call : (name : List ℕ) (all : List Node) → AllByRecursion P all → P (node.NamedCall name all)
  pub array : (lines : List (List ArrayItem)) → P (node.Array lines)
  pub name : (name : List ℕ) → P (node.Name name)
  pub error : (error : Error) → P (node.Error error)
  pub parse_error : (text : List ℕ) → P (node.ParseError text)
  pub empty_argument : P node.EmptyArgument
  pub spill : (a : Node) → P a → P (node.Spill a)
  pub lambda : (parameters : List Parameter) (a : Node) → P a → P (node.Lambda parameters a)
  pub lambda_call : (a : Node) (all : List Node) → P a → AllByRecursion P all → P (node.LambdaCall a all)
  pub implicit_intersection : (a : Node) → P a → P (node.ImplicitIntersection a)

each : (P : Node → Type 0) (all : List ((n : Node) × P n)) → AllByRecursion P (map (λ e. e.0) all)
each P [] = tt
each P (e ∷ all) = (e.1, each P all)

layer : (P : Node → Type 0) → Cases P → (y : Node-F ((n : Node) × P n)) → P (roll-Node (map-Node ((n : Node) × P n) Node (λ e. e.0) y))
layer P c (Node-F.Boolean value) = subst P (sym (node.rolls-Boolean value)) (c.boolean value)
layer P c (Node-F.Number value) = subst P (sym (node.rolls-Number value)) (c.number value)
layer P c (Node-F.Text text) = subst P (sym (node.rolls-Text text)) (c.text text)
layer P c (Node-F.Reference sheet corner) = subst P (sym (node.rolls-Reference sheet corner)) (c.reference sheet corner)
layer P c (Node-F.Range sheet first second) = subst P (sym (node.rolls-Range sheet first second)) (c.range sheet first second)
layer P c (Node-F.Colon a b) = subst P (sym (node.rolls-Colon a.0 b.0)) (c.colon a.0 b.0 a.1 b.1)
layer P c (Node-F.Concatenate a b) = subst P (sym (node.rolls-Concatenate a.0 b.0)) (c.concatenate a.0 b.0 a.1 b.1)
layer P c (Node-F.Compare kind a b) = subst P (sym (node.rolls-Compare kind a.0 b.0)) (c.compare kind a.0 b.0 a.1 b.1)
layer P c (Node-F.Sum kind a b) = subst P (sym (node.rolls-Sum kind a.0 b.0)) (c.sum kind a.0 b.0 a.1 b.1)
layer P c (Node-F.Product kind a b) = subst P (sym (node.rolls-Product kind a.0 b.0)) (c.product kind a.0 b.0 a.1 b.1)
layer P c (Node-F.Power a b) = subst P (sym (node.rolls-Power a.0 b.0)) (c.power a.0 b.0 a.1 b.1)
layer P c (Node-F.Unary kind a) = subst P (sym (node.rolls-Unary kind a.0)) (c.unary kind a.0 a.1)
layer P c (Node-F.Call function all) = subst P (sym (node.rolls-Call function (map (λ e. e.0) all))) (c.call function (map (λ e. e.0) all) (each P all))
layer P c (Node-F.NamedCall name all) = subst P (sym (node.rolls-NamedCall name (map (λ e. e.0) all))) (c.named_call name (map (λ e. e.0) all) (each P all))
layer P c (Node-F.Array lines) = subst P (sym (node.rolls-Array lines)) (c.array lines)
layer P c (Node-F.Name name) = subst P (sym (node.rolls-Name name)) (c.name name)
layer P c (Node-F.Error error) = subst P (sym (node.rolls-Error error)) (c.error error)
layer P c (Node-F.ParseError text) = subst P (sym (node.rolls-ParseError text)) (c.parse_error text)
layer P c Node-F.EmptyArgument = subst P (sym (node.rolls-EmptyArgument)) (c.empty_argument)
layer P c (Node-F.Spill a) = subst P (sym (node.rolls-Spill a.0)) (c.spill a.0 a.1)
layer P c (Node-F.Lambda parameters a) = subst P (sym (node.rolls-Lambda parameters a.0)) (c.lambda parameters a.0 a.1)
layer P c (Node-F.LambdaCall a all) = subst P (sym (node.rolls-LambdaCall a.0 (map (λ e. e.0) all))) (c.lambda_call a.0 (map (λ e. e.0) all) a.1 (each P all))
layer P c (Node-F.ImplicitIntersection a) = subst P (sym (node.rolls-ImplicitIntersection a.0)) (c.implicit_intersection a.0 a.1)

-- a fact that each kind of node has from its children holds of every tree
pub induct : (P : Node → Type 0) → Cases P → (n : Node) → P n
induct P c = ind-Node P (λ x y is. subst (λ z. P (roll-Node z)) is (layer P c y))
