-- A bound on the depth of a tree, kind by kind.
use Rattle.std.specs.Prelude.{◌≡◌, ℕ, ◌+◌, max, Bool, true, false, ◌&&◌, nat_le, nat_lt, List, [], ◌∷◌, map, Option}
use Rattle.std.proofs.Common.{ap, ◌∙◌, arith}
use Rattle.std.proofs.lemmas.Bool.Decides.{nat_tests}
use Rattle.std.specs.List.{list_all}
use Rattle.base_decimal.specs.declared.Decimal.{Decimal}
use Rattle.base_tables.specs.declared.Error.{Error}
use Rattle.base_tables.specs.declared.Function.{Function}
use Rattle.formula_tree.specs.declared.array_item.ArrayItem.{ArrayItem}
use Rattle.formula_tree.specs.declared.corner.Corner.{Corner}
use Rattle.formula_tree.specs.declared.operator.CompareKind.{CompareKind}
use Rattle.formula_tree.specs.declared.operator.ProductKind.{ProductKind}
use Rattle.formula_tree.specs.declared.operator.SumKind.{SumKind}
use Rattle.formula_tree.specs.declared.operator.UnaryKind.{UnaryKind}
use Rattle.formula_tree.specs.declared.parameter.Parameter.{Parameter}
use Rattle.formula_tree.specs.declared.node.Node.{Node}
use Rattle.formula_tree.specs.declared.node.Node.TheVariants as node
use Rattle.formula_tree.specs.Depth.{depth_of, greatest, is_within}
use Rattle.formula_tree.specs.laws.DepthEquations.{depth_boolean, depth_number, depth_text, depth_reference, depth_range, depth_colon, depth_concatenate, depth_compare, depth_sum, depth_product, depth_power, depth_unary, depth_call, depth_named_call, depth_array, depth_name, depth_error, depth_parse_error, depth_empty_argument, depth_spill, depth_lambda, depth_lambda_call, depth_implicit_intersection}
use Rattle.formula_tree.specs.laws.DepthLaws.{depth_positive}

leaf : (depth rest : ℕ) → depth ≡ 1 → nat_le depth (rest + 1) ≡ true
leaf depth rest same = grind (arith, nat_tests)

pair : (depth rest : ℕ) → depth ≡ 2 → nat_le depth (rest + 1) ≡ nat_lt 0 rest
pair depth rest same = grind (arith, nat_tests)

above : (depth child rest : ℕ) → depth ≡ child + 1 → nat_le depth (rest + 1) ≡ nat_le child rest
above depth child rest same = grind (arith, nat_tests)

pub of_two : (a b most : ℕ) → nat_le (max a b) most ≡ nat_le a most && nat_le b most
of_two a b most = grind (arith, nat_tests)

above_two : (depth a b rest : ℕ) → depth ≡ max a b + 1 → nat_le depth (rest + 1) ≡ nat_le a rest && nat_le b rest
above_two depth a b rest same = above depth (max a b) rest same ∙ of_two a b rest

nothing : (most : ℕ) → nat_le 0 most ≡ true
nothing most = grind (arith, nat_tests)

-- the deepest of some trees is at most so deep where each of them is
all_within : (all : List Node) (most : ℕ) → nat_le (greatest (map depth_of all)) most ≡ list_all (is_within most) all
unfolding is_within
all_within [] most = nothing most
all_within (n ∷ all) most = of_two (depth_of n) (greatest (map depth_of all)) most ∙ ap (λ rest. nat_le (depth_of n) most && rest) (all_within all most)

-- no tree is at most 0 deep
pub within_nothing : (most : ℕ) (n : Node) → most ≡ 0 → is_within most n ≡ false
unfolding is_within
within_nothing most n none = let positive = depth_positive n in grind (arith, nat_tests)

pub within_boolean : (rest : ℕ) (value : Bool) → is_within (rest + 1) (node.Boolean value) ≡ true
unfolding is_within
within_boolean rest value = leaf (depth_of (node.Boolean value)) rest (depth_boolean value)

pub within_number : (rest : ℕ) (value : Decimal) → is_within (rest + 1) (node.Number value) ≡ true
unfolding is_within
within_number rest value = leaf (depth_of (node.Number value)) rest (depth_number value)

pub within_text : (rest : ℕ) (text : List ℕ) → is_within (rest + 1) (node.Text text) ≡ true
unfolding is_within
within_text rest text = leaf (depth_of (node.Text text)) rest (depth_text text)

pub within_reference : (rest : ℕ) (sheet : Option (List ℕ)) (corner : Corner) → is_within (rest + 1) (node.Reference sheet corner) ≡ true
unfolding is_within
within_reference rest sheet corner = leaf (depth_of (node.Reference sheet corner)) rest (depth_reference sheet corner)

pub within_range : (rest : ℕ) (sheet : Option (List ℕ)) (first second : Corner) → is_within (rest + 1) (node.Range sheet first second) ≡ nat_lt 0 rest
unfolding is_within
within_range rest sheet first second = pair (depth_of (node.Range sheet first second)) rest (depth_range sheet first second)

pub within_colon : (rest : ℕ) (a b : Node) → is_within (rest + 1) (node.Colon a b) ≡ is_within rest a && is_within rest b
unfolding is_within
within_colon rest a b = above_two (depth_of (node.Colon a b)) (depth_of a) (depth_of b) rest (depth_colon a b)

pub within_concatenate : (rest : ℕ) (a b : Node) → is_within (rest + 1) (node.Concatenate a b) ≡ is_within rest a && is_within rest b
unfolding is_within
within_concatenate rest a b = above_two (depth_of (node.Concatenate a b)) (depth_of a) (depth_of b) rest (depth_concatenate a b)

pub within_compare : (rest : ℕ) (kind : CompareKind) (a b : Node) → is_within (rest + 1) (node.Compare kind a b) ≡ is_within rest a && is_within rest b
unfolding is_within
within_compare rest kind a b = above_two (depth_of (node.Compare kind a b)) (depth_of a) (depth_of b) rest (depth_compare kind a b)

pub within_sum : (rest : ℕ) (kind : SumKind) (a b : Node) → is_within (rest + 1) (node.Sum kind a b) ≡ is_within rest a && is_within rest b
unfolding is_within
within_sum rest kind a b = above_two (depth_of (node.Sum kind a b)) (depth_of a) (depth_of b) rest (depth_sum kind a b)

pub within_product : (rest : ℕ) (kind : ProductKind) (a b : Node) → is_within (rest + 1) (node.Product kind a b) ≡ is_within rest a && is_within rest b
unfolding is_within
within_product rest kind a b = above_two (depth_of (node.Product kind a b)) (depth_of a) (depth_of b) rest (depth_product kind a b)

pub within_power : (rest : ℕ) (a b : Node) → is_within (rest + 1) (node.Power a b) ≡ is_within rest a && is_within rest b
unfolding is_within
within_power rest a b = above_two (depth_of (node.Power a b)) (depth_of a) (depth_of b) rest (depth_power a b)

pub within_unary : (rest : ℕ) (kind : UnaryKind) (a : Node) → is_within (rest + 1) (node.Unary kind a) ≡ is_within rest a
unfolding is_within
within_unary rest kind a = above (depth_of (node.Unary kind a)) (depth_of a) rest (depth_unary kind a)

pub within_call : (rest : ℕ) (function : Function) (all : List Node) → is_within (rest + 1) (node.Call function all) ≡ list_all (is_within rest) all
unfolding is_within
within_call rest function all = above (depth_of (node.Call function all)) (greatest (map depth_of all)) rest (depth_call function all) ∙ all_within all rest

pub within_named_call : (rest : ℕ) (name : List ℕ) (all : List Node) → is_within (rest + 1) (node.NamedCall name all) ≡ list_all (is_within rest) all
unfolding is_within
within_named_call rest name all = above (depth_of (node.NamedCall name all)) (greatest (map depth_of all)) rest (depth_named_call name all) ∙ all_within all rest

pub within_array : (rest : ℕ) (lines : List (List ArrayItem)) → is_within (rest + 1) (node.Array lines) ≡ true
unfolding is_within
within_array rest lines = leaf (depth_of (node.Array lines)) rest (depth_array lines)

pub within_name : (rest : ℕ) (name : List ℕ) → is_within (rest + 1) (node.Name name) ≡ true
unfolding is_within
within_name rest name = leaf (depth_of (node.Name name)) rest (depth_name name)

pub within_error : (rest : ℕ) (error : Error) → is_within (rest + 1) (node.Error error) ≡ true
unfolding is_within
within_error rest error = leaf (depth_of (node.Error error)) rest (depth_error error)

pub within_parse_error : (rest : ℕ) (text : List ℕ) → is_within (rest + 1) (node.ParseError text) ≡ true
unfolding is_within
within_parse_error rest text = leaf (depth_of (node.ParseError text)) rest (depth_parse_error text)

pub within_empty_argument : (rest : ℕ) → is_within (rest + 1) node.EmptyArgument ≡ true
unfolding is_within
within_empty_argument rest = leaf (depth_of node.EmptyArgument) rest depth_empty_argument

pub within_spill : (rest : ℕ) (a : Node) → is_within (rest + 1) (node.Spill a) ≡ is_within rest a
unfolding is_within
within_spill rest a = above (depth_of (node.Spill a)) (depth_of a) rest (depth_spill a)

pub within_lambda : (rest : ℕ) (parameters : List Parameter) (a : Node) → is_within (rest + 1) (node.Lambda parameters a) ≡ is_within rest a
unfolding is_within
within_lambda rest parameters a = above (depth_of (node.Lambda parameters a)) (depth_of a) rest (depth_lambda parameters a)

pub within_lambda_call : (rest : ℕ) (a : Node) (all : List Node) → is_within (rest + 1) (node.LambdaCall a all) ≡ is_within rest a && list_all (is_within rest) all
unfolding is_within
within_lambda_call rest a all = above_two (depth_of (node.LambdaCall a all)) (depth_of a) (greatest (map depth_of all)) rest (depth_lambda_call a all) ∙ ap (λ tests. nat_le (depth_of a) rest && tests) (all_within all rest)

pub within_implicit_intersection : (rest : ℕ) (a : Node) → is_within (rest + 1) (node.ImplicitIntersection a) ≡ is_within rest a
unfolding is_within
within_implicit_intersection rest a = above (depth_of (node.ImplicitIntersection a)) (depth_of a) rest (depth_implicit_intersection a)

pub ruleset bounds = (within_boolean, within_number, within_text, within_reference, within_range, within_colon, within_concatenate, within_compare, within_sum, within_product, within_power, within_unary, within_call, within_named_call, within_array, within_name, within_error, within_parse_error, within_empty_argument, within_spill, within_lambda, within_lambda_call, within_implicit_intersection)
