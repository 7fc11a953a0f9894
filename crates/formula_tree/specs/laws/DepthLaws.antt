-- Every tree is at least 1 deep.
use Rattle.std.specs.Prelude.{◌≡◌, ℕ, ◌+◌, ◌≤◌}
use Rattle.std.proofs.Common.{arith}
use Rattle.formula_tree.specs.declared.node.Node.{Node}
use Rattle.formula_tree.specs.laws.Induction.{induct}
use Rattle.formula_tree.specs.Depth.{depth_of}
use Rattle.formula_tree.specs.laws.DepthEquations.{depth_boolean, depth_number, depth_text, depth_reference, depth_range, depth_colon, depth_concatenate, depth_compare, depth_sum, depth_product, depth_power, depth_unary, depth_call, depth_named_call, depth_array, depth_name, depth_error, depth_parse_error, depth_empty_argument, depth_spill, depth_lambda, depth_lambda_call, depth_implicit_intersection}

one : {n : ℕ} → n ≡ 1 → 1 ≤ n
one e = omega arith

more : {n : ℕ} (m : ℕ) → n ≡ m + 1 → 1 ≤ n
more m e = omega arith

two : {n : ℕ} → n ≡ 2 → 1 ≤ n
two e = omega arith

pub depth_positive : (n : Node) → 1 ≤ depth_of n
depth_positive = induct (λ n. 1 ≤ depth_of n) (record {
  boolean = λ value. one (depth_boolean value);
  number = λ value. one (depth_number value);
  text = λ text. one (depth_text text);
  reference = λ sheet corner. one (depth_reference sheet corner);
  range = λ sheet first second. two (depth_range sheet first second);
  colon = λ a b _ _. more _ (depth_colon a b);
  concatenate = λ a b _ _. more _ (depth_concatenate a b);
  compare = λ kind a b _ _. more _ (depth_compare kind a b);
  sum = λ kind a b _ _. more _ (depth_sum kind a b);
  product = λ kind a b _ _. more _ (depth_product kind a b);
  power = λ a b _ _. more _ (depth_power a b);
  unary = λ kind a _. more _ (depth_unary kind a);
  call = λ function all _. more _ (depth_call function all);
  named_call = λ name all _. more _ (depth_named_call name all);
  array = λ lines. one (depth_array lines);
  name = λ name. one (depth_name name);
  error = λ error. one (depth_error error);
  parse_error = λ text. one (depth_parse_error text);
  empty_argument = one depth_empty_argument;
  spill = λ a _. more _ (depth_spill a);
  lambda = λ parameters a _. more _ (depth_lambda parameters a);
  lambda_call = λ a all _ _. more _ (depth_lambda_call a all);
  implicit_intersection = λ a _. more _ (depth_implicit_intersection a);
})
