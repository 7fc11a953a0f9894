-- Whether the numbers of each kind of node are canonical.
use Rattle.formula_tree.specs.laws.NumbersEquations.{numbers_boolean, numbers_number, numbers_text, numbers_reference, numbers_range, numbers_colon, numbers_concatenate, numbers_compare, numbers_sum, numbers_product, numbers_power, numbers_unary, numbers_call, numbers_named_call, numbers_name, numbers_error, numbers_parse_error, numbers_empty_argument, numbers_spill, numbers_lambda, numbers_lambda_call, numbers_implicit_intersection}
use Rattle.formula_wire.specs.laws.CanonicalArrays.{canonical_array}

pub ruleset canonical = (canonical_array, numbers_boolean, numbers_number, numbers_text, numbers_reference, numbers_range, numbers_colon, numbers_concatenate, numbers_compare, numbers_sum, numbers_product, numbers_power, numbers_unary, numbers_call, numbers_named_call, numbers_name, numbers_error, numbers_parse_error, numbers_empty_argument, numbers_spill, numbers_lambda, numbers_lambda_call, numbers_implicit_intersection)
