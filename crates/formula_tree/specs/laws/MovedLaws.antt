-- Moving corners keeps a tree's depth.
use Rattle.std.specs.Prelude.{◌≡◌, ℕ, ◌+◌, max, List, [], ◌∷◌, map, Option, Some, None}
use Rattle.std.proofs.Common.{refl, ap, sym, ◌∙◌}
use Rattle.std.specs.List.{AllByRecursion}
use Rattle.base_values.specs.declared.Position.{Position}
use Rattle.base_tables.specs.declared.Error.TheVariants.{Ref}
use Rattle.formula_tree.specs.declared.corner.Corner.{Corner}
use Rattle.formula_tree.specs.declared.node.Node.{Node}
use Rattle.formula_tree.specs.declared.node.Node.TheVariants as node
use Rattle.formula_tree.specs.laws.Induction.{induct}
use Rattle.formula_tree.specs.Corners.{lower_corner, higher_corner}
use Rattle.formula_tree.specs.Depth.{depth_of, greatest}
use Rattle.formula_tree.specs.laws.DepthEquations.{depth_reference, depth_range, depth_colon, depth_concatenate, depth_compare, depth_sum, depth_product, depth_power, depth_unary, depth_call, depth_named_call, depth_error, depth_spill, depth_lambda, depth_lambda_call, depth_implicit_intersection}
use Rattle.formula_tree.specs.Moved.{Mapping, moved, reference_to, range_to}
use Rattle.formula_tree.specs.laws.MovedEquations.{moved_boolean, moved_number, moved_text, moved_reference, moved_range, moved_colon, moved_concatenate, moved_compare, moved_sum, moved_product, moved_power, moved_unary, moved_call, moved_named_call, moved_array, moved_name, moved_error, moved_parse_error, moved_empty_argument, moved_spill, moved_lambda, moved_lambda_call, moved_implicit_intersection}

depth-reference_to : (sheet : Option (List ℕ)) (corner : Option Corner) → depth_of (reference_to sheet corner) ≡ 1
unfolding reference_to
depth-reference_to sheet (Some corner) = depth_reference sheet corner
depth-reference_to sheet None = depth_error Ref

apart : (sheet : Option (List ℕ)) (first second : Option Corner) → depth_of (node.Colon (reference_to sheet first) (reference_to sheet second)) ≡ 2
apart sheet first second = depth_colon (reference_to sheet first) (reference_to sheet second) ∙ (λ i. max (depth-reference_to sheet first i) (depth-reference_to sheet second i) + 1)

-- `:` of what is left of a range is as deep as the range
depth-range_to : (to : Position) (sheet : Option (List ℕ)) (first second : Option Corner) → depth_of (range_to to sheet first second) ≡ 2
unfolding range_to
depth-range_to to sheet (Some first) (Some second) = depth_range sheet (lower_corner to first second) (higher_corner to first second)
depth-range_to to sheet (Some first) None = apart sheet (Some first) None
depth-range_to to sheet None second = apart sheet None second

same_depths : (to : Position) (m : Mapping) (all : List Node) → AllByRecursion (λ n. depth_of (moved to m n) ≡ depth_of n) all
    → greatest (map depth_of (map (moved to m) all)) ≡ greatest (map depth_of all)
same_depths to m [] same = refl
same_depths to m (n ∷ all) same = λ i. max (same.0 i) (same_depths to m all same.1 i)

-- a tree whose corners move is as deep as it was
pub depth-moved : (to : Position) (m : Mapping) (n : Node) → depth_of (moved to m n) ≡ depth_of n
depth-moved to m = induct (λ n. depth_of (moved to m n) ≡ depth_of n) (record {
  boolean = λ value. ap depth_of (moved_boolean to m value);
  number = λ value. ap depth_of (moved_number to m value);
  text = λ text. ap depth_of (moved_text to m text);
  reference = λ sheet corner. ap depth_of (moved_reference to m sheet corner) ∙ depth-reference_to sheet (m.reference sheet corner) ∙ sym (depth_reference sheet corner);
  range = λ sheet first second. ap depth_of (moved_range to m sheet first second) ∙ depth-range_to to sheet (m.first sheet first second) (m.second sheet first second) ∙ sym (depth_range sheet first second);
  colon = λ a b same_a same_b. ap depth_of (moved_colon to m a b) ∙ depth_colon (moved to m a) (moved to m b) ∙ (λ i. max (same_a i) (same_b i) + 1) ∙ sym (depth_colon a b);
  concatenate = λ a b same_a same_b. ap depth_of (moved_concatenate to m a b) ∙ depth_concatenate (moved to m a) (moved to m b) ∙ (λ i. max (same_a i) (same_b i) + 1) ∙ sym (depth_concatenate a b);
  compare = λ kind a b same_a same_b. ap depth_of (moved_compare to m kind a b) ∙ depth_compare kind (moved to m a) (moved to m b) ∙ (λ i. max (same_a i) (same_b i) + 1) ∙ sym (depth_compare kind a b);
  sum = λ kind a b same_a same_b. ap depth_of (moved_sum to m kind a b) ∙ depth_sum kind (moved to m a) (moved to m b) ∙ (λ i. max (same_a i) (same_b i) + 1) ∙ sym (depth_sum kind a b);
  product = λ kind a b same_a same_b. ap depth_of (moved_product to m kind a b) ∙ depth_product kind (moved to m a) (moved to m b) ∙ (λ i. max (same_a i) (same_b i) + 1) ∙ sym (depth_product kind a b);
  power = λ a b same_a same_b. ap depth_of (moved_power to m a b) ∙ depth_power (moved to m a) (moved to m b) ∙ (λ i. max (same_a i) (same_b i) + 1) ∙ sym (depth_power a b);
  unary = λ kind a same_a. ap depth_of (moved_unary to m kind a) ∙ depth_unary kind (moved to m a) ∙ (λ i. same_a i + 1) ∙ sym (depth_unary kind a);
  call = λ function all same_all. ap depth_of (moved_call to m function all) ∙ depth_call function (map (moved to m) all) ∙ (λ i. same_depths to m all same_all i + 1) ∙ sym (depth_call function all);
  named_call = λ name all same_all. ap depth_of (moved_named_call to m name all) ∙ depth_named_call name (map (moved to m) all) ∙ (λ i. same_depths to m all same_all i + 1) ∙ sym (depth_named_call name all);
  array = λ lines. ap depth_of (moved_array to m lines);
  name = λ name. ap depth_of (moved_name to m name);
  error = λ error. ap depth_of (moved_error to m error);
  parse_error = λ text. ap depth_of (moved_parse_error to m text);
  empty_argument = ap depth_of (moved_empty_argument to m);
  spill = λ a same_a. ap depth_of (moved_spill to m a) ∙ depth_spill (moved to m a) ∙ (λ i. same_a i + 1) ∙ sym (depth_spill a);
  lambda = λ parameters a same_a. ap depth_of (moved_lambda to m parameters a) ∙ depth_lambda parameters (moved to m a) ∙ (λ i. same_a i + 1) ∙ sym (depth_lambda parameters a);
  lambda_call = λ a all same_a same_all. ap depth_of (moved_lambda_call to m a all) ∙ depth_lambda_call (moved to m a) (map (moved to m) all) ∙ (λ i. max (same_a i) (same_depths to m all same_all i) + 1) ∙ sym (depth_lambda_call a all);
  implicit_intersection = λ a same_a. ap depth_of (moved_implicit_intersection to m a) ∙ depth_implicit_intersection (moved to m a) ∙ (λ i. same_a i + 1) ∙ sym (depth_implicit_intersection a);
})
