-- Moving corners keeps a tree's numbers, by each rule.
use Rattle.std.specs.Prelude.{◌≡◌, ℕ, true, ◌&&◌, List, [], ◌∷◌, map, Option, Some, None}
use Rattle.std.proofs.Common.{refl, ap, sym, ◌∙◌}
use Rattle.std.specs.List.{AllByRecursion, list_all}
use Rattle.base_values.specs.declared.Position.{Position}
use Rattle.base_tables.specs.declared.Error.TheVariants.{Ref}
use Rattle.formula_tree.specs.declared.Corner.{Corner}
use Rattle.formula_tree.specs.declared.Node.{Node}
use Rattle.formula_tree.specs.declared.Node.TheVariants as node
use Rattle.formula_tree.specs.laws.Induction.{induct}
use Rattle.formula_tree.specs.Corners.{lower_corner, higher_corner}
use Rattle.formula_tree.specs.declared.numbers.NumberRule.{NumberRule}
use Rattle.formula_tree.specs.Numbers.{numbers_follow}
use Rattle.formula_tree.specs.laws.NumbersEquations.{numbers_reference, numbers_range, numbers_colon, numbers_concatenate, numbers_compare}
use Rattle.formula_tree.specs.laws.NumbersEquations.{numbers_sum, numbers_product, numbers_power, numbers_unary, numbers_call, numbers_named_call}
use Rattle.formula_tree.specs.laws.NumbersEquations.{numbers_error, numbers_spill, numbers_lambda, numbers_lambda_call, numbers_implicit_intersection}
use Rattle.formula_tree.specs.Moved.{Mapping, moved, reference_to, range_to}
use Rattle.formula_tree.specs.laws.MovedEquations.{moved_boolean, moved_number, moved_text, moved_reference, moved_range, moved_colon}
use Rattle.formula_tree.specs.laws.MovedEquations.{moved_concatenate, moved_compare, moved_sum, moved_product, moved_power, moved_unary, moved_call}
use Rattle.formula_tree.specs.laws.MovedEquations.{moved_named_call, moved_array, moved_name, moved_error, moved_parse_error, moved_empty_argument}
use Rattle.formula_tree.specs.laws.MovedEquations.{moved_spill, moved_lambda, moved_lambda_call, moved_implicit_intersection}

module _ (rule : NumberRule) where
  numbers-reference_to : (sheet : Option (List ℕ)) (corner : Option Corner) → numbers_follow rule (reference_to sheet corner) ≡ true
  unfolding reference_to
  numbers-reference_to sheet (Some corner) = numbers_reference rule sheet corner
  numbers-reference_to sheet None = numbers_error rule Ref

  apart : (sheet : Option (List ℕ)) (first second : Option Corner) → numbers_follow rule (node.Colon (reference_to sheet first) (reference_to sheet second))
      ≡ true
  apart sheet first second = numbers_colon rule (reference_to sheet first) (reference_to sheet second)
      ∙ (λ i. numbers-reference_to sheet first i && numbers-reference_to sheet second i)

  numbers-range_to : (to : Position) (sheet : Option (List ℕ)) (first second : Option Corner) → numbers_follow rule (range_to to sheet first second) ≡ true
  unfolding range_to
  numbers-range_to to sheet (Some first) (Some second) = numbers_range rule sheet (lower_corner to first second) (higher_corner to first second)
  numbers-range_to to sheet (Some first) None = apart sheet (Some first) None
  numbers-range_to to sheet None second = apart sheet None second

  same_numbers : (to : Position) (m : Mapping) (all : List Node) → AllByRecursion (λ n. numbers_follow rule (moved to m n) ≡ numbers_follow rule n) all
      → list_all (numbers_follow rule) (map (moved to m) all) ≡ list_all (numbers_follow rule) all
  same_numbers to m [] same = refl
  same_numbers to m (n ∷ all) same = λ i. same.0 i && same_numbers to m all same.1 i

  -- the numbers of a tree whose corners move follow a rule where they did
  pub numbers-moved : (to : Position) (m : Mapping) (n : Node) → numbers_follow rule (moved to m n) ≡ numbers_follow rule n
  numbers-moved to m = induct (λ n. numbers_follow rule (moved to m n) ≡ numbers_follow rule n) (record {
    boolean = λ value. ap (numbers_follow rule) (moved_boolean to m value);
    number = λ value. ap (numbers_follow rule) (moved_number to m value);
    text = λ text. ap (numbers_follow rule) (moved_text to m text);
    reference = λ sheet corner. ap (numbers_follow rule) (moved_reference to m sheet corner) ∙ numbers-reference_to sheet (m.reference sheet corner)
        ∙ sym (numbers_reference rule sheet corner);
    range = λ sheet first second. ap (numbers_follow rule) (moved_range to m sheet first second)
        ∙ numbers-range_to to sheet (m.first sheet first second) (m.second sheet first second) ∙ sym (numbers_range rule sheet first second);
    colon = λ a b same_a same_b. ap (numbers_follow rule) (moved_colon to m a b) ∙ numbers_colon rule (moved to m a) (moved to m b)
        ∙ (λ i. same_a i && same_b i) ∙ sym (numbers_colon rule a b);
    concatenate = λ a b same_a same_b. ap (numbers_follow rule) (moved_concatenate to m a b) ∙ numbers_concatenate rule (moved to m a) (moved to m b)
        ∙ (λ i. same_a i && same_b i) ∙ sym (numbers_concatenate rule a b);
    compare = λ kind a b same_a same_b. ap (numbers_follow rule) (moved_compare to m kind a b) ∙ numbers_compare rule kind (moved to m a) (moved to m b)
        ∙ (λ i. same_a i && same_b i) ∙ sym (numbers_compare rule kind a b);
    sum = λ kind a b same_a same_b. ap (numbers_follow rule) (moved_sum to m kind a b) ∙ numbers_sum rule kind (moved to m a) (moved to m b)
        ∙ (λ i. same_a i && same_b i) ∙ sym (numbers_sum rule kind a b);
    product = λ kind a b same_a same_b. ap (numbers_follow rule) (moved_product to m kind a b) ∙ numbers_product rule kind (moved to m a) (moved to m b)
        ∙ (λ i. same_a i && same_b i) ∙ sym (numbers_product rule kind a b);
    power = λ a b same_a same_b. ap (numbers_follow rule) (moved_power to m a b) ∙ numbers_power rule (moved to m a) (moved to m b)
        ∙ (λ i. same_a i && same_b i) ∙ sym (numbers_power rule a b);
    unary = λ kind a same_a. ap (numbers_follow rule) (moved_unary to m kind a) ∙ numbers_unary rule kind (moved to m a) ∙ same_a
        ∙ sym (numbers_unary rule kind a);
    call = λ function all same_all. ap (numbers_follow rule) (moved_call to m function all) ∙ numbers_call rule function (map (moved to m) all)
        ∙ same_numbers to m all same_all ∙ sym (numbers_call rule function all);
    named_call = λ name all same_all. ap (numbers_follow rule) (moved_named_call to m name all) ∙ numbers_named_call rule name (map (moved to m) all)
        ∙ same_numbers to m all same_all ∙ sym (numbers_named_call rule name all);
    array = λ lines. ap (numbers_follow rule) (moved_array to m lines);
    name = λ name. ap (numbers_follow rule) (moved_name to m name);
    error = λ error. ap (numbers_follow rule) (moved_error to m error);
    parse_error = λ text. ap (numbers_follow rule) (moved_parse_error to m text);
    empty_argument = ap (numbers_follow rule) (moved_empty_argument to m);
    spill = λ a same_a. ap (numbers_follow rule) (moved_spill to m a) ∙ numbers_spill rule (moved to m a) ∙ same_a ∙ sym (numbers_spill rule a);
    lambda = λ parameters a same_a. ap (numbers_follow rule) (moved_lambda to m parameters a) ∙ numbers_lambda rule parameters (moved to m a) ∙ same_a
        ∙ sym (numbers_lambda rule parameters a);
    lambda_call = λ a all same_a same_all. ap (numbers_follow rule) (moved_lambda_call to m a all)
        ∙ numbers_lambda_call rule (moved to m a) (map (moved to m) all) ∙ (λ i. same_a i && same_numbers to m all same_all i)
        ∙ sym (numbers_lambda_call rule a all);
    implicit_intersection = λ a same_a. ap (numbers_follow rule) (moved_implicit_intersection to m a) ∙ numbers_implicit_intersection rule (moved to m a)
        ∙ same_a ∙ sym (numbers_implicit_intersection rule a);
  })
