use Rattle.std.proofs.Common.{rules}
use Rattle.formula_back.specs.laws.LeafEquations.{leaf_boolean, leaf_number, leaf_text, leaf_reference, leaf_range, leaf_colon, leaf_concatenate, leaf_compare, leaf_sum, leaf_product, leaf_power, leaf_unary, leaf_call, leaf_named_call, leaf_array, leaf_name, leaf_error, leaf_parse_error, leaf_empty_argument, leaf_spill, leaf_lambda, leaf_lambda_call, leaf_implicit_intersection}
use Rattle.formula_back.proofs.leaves.+leaves.Goals as goal

pub has_leaf-returns-in-Boolean : goal.has_leaf-returns-in-Boolean
has_leaf-returns-in-Boolean g t c = search (rules, leaf_boolean)

pub has_leaf-returns-in-Number : goal.has_leaf-returns-in-Number
has_leaf-returns-in-Number g t c = search (rules, leaf_number)

pub has_leaf-returns-in-Text : goal.has_leaf-returns-in-Text
has_leaf-returns-in-Text g t c = search (rules, leaf_text)

pub has_leaf-returns-in-Reference : goal.has_leaf-returns-in-Reference
has_leaf-returns-in-Reference g t c = search (rules, leaf_reference)

pub has_leaf-returns-in-Range : goal.has_leaf-returns-in-Range
has_leaf-returns-in-Range g t c = search (rules, leaf_range)

pub has_leaf-returns-then-has_child_leaf : goal.has_leaf-returns-then-has_child_leaf
has_leaf-returns-then-has_child_leaf g t c = search (rules, leaf_colon)

pub has_leaf-returns-else-has_child_leaf : goal.has_leaf-returns-else-has_child_leaf
has_leaf-returns-else-has_child_leaf g t c = search (rules, leaf_colon)

pub has_leaf-returns-then-has_child_leaf-2 : goal.has_leaf-returns-then-has_child_leaf-2
has_leaf-returns-then-has_child_leaf-2 g t c = search (rules, leaf_concatenate)

pub has_leaf-returns-else-has_child_leaf-2 : goal.has_leaf-returns-else-has_child_leaf-2
has_leaf-returns-else-has_child_leaf-2 g t c = search (rules, leaf_concatenate)

pub has_leaf-returns-then-has_child_leaf-3 : goal.has_leaf-returns-then-has_child_leaf-3
has_leaf-returns-then-has_child_leaf-3 g t c = search (rules, leaf_compare)

pub has_leaf-returns-else-has_child_leaf-3 : goal.has_leaf-returns-else-has_child_leaf-3
has_leaf-returns-else-has_child_leaf-3 g t c = search (rules, leaf_compare)

pub has_leaf-returns-then-has_child_leaf-4 : goal.has_leaf-returns-then-has_child_leaf-4
has_leaf-returns-then-has_child_leaf-4 g t c = search (rules, leaf_sum)

pub has_leaf-returns-else-has_child_leaf-4 : goal.has_leaf-returns-else-has_child_leaf-4
has_leaf-returns-else-has_child_leaf-4 g t c = search (rules, leaf_sum)

pub has_leaf-returns-then-has_child_leaf-5 : goal.has_leaf-returns-then-has_child_leaf-5
has_leaf-returns-then-has_child_leaf-5 g t c = search (rules, leaf_product)

pub has_leaf-returns-else-has_child_leaf-5 : goal.has_leaf-returns-else-has_child_leaf-5
has_leaf-returns-else-has_child_leaf-5 g t c = search (rules, leaf_product)

pub has_leaf-returns-then-has_child_leaf-6 : goal.has_leaf-returns-then-has_child_leaf-6
has_leaf-returns-then-has_child_leaf-6 g t c = search (rules, leaf_power)

pub has_leaf-returns-else-has_child_leaf-6 : goal.has_leaf-returns-else-has_child_leaf-6
has_leaf-returns-else-has_child_leaf-6 g t c = search (rules, leaf_power)

pub has_leaf-returns-in-Unary : goal.has_leaf-returns-in-Unary
has_leaf-returns-in-Unary g t c = search (rules, leaf_unary)

pub has_leaf-returns-in-Call : goal.has_leaf-returns-in-Call
has_leaf-returns-in-Call g t c = search (rules, leaf_call)

pub has_leaf-returns-in-NamedCall : goal.has_leaf-returns-in-NamedCall
has_leaf-returns-in-NamedCall g t c = search (rules, leaf_named_call)

pub has_leaf-returns-in-Array : goal.has_leaf-returns-in-Array
has_leaf-returns-in-Array g t c = search (rules, leaf_array)

pub has_leaf-returns-in-Name : goal.has_leaf-returns-in-Name
has_leaf-returns-in-Name g t c = search (rules, leaf_name)

pub has_leaf-returns-in-Error : goal.has_leaf-returns-in-Error
has_leaf-returns-in-Error g t c = search (rules, leaf_error)

pub has_leaf-returns-in-ParseError : goal.has_leaf-returns-in-ParseError
has_leaf-returns-in-ParseError g t c = search (rules, leaf_parse_error)

pub has_leaf-returns-in-EmptyArgument : goal.has_leaf-returns-in-EmptyArgument
has_leaf-returns-in-EmptyArgument g t c = search (rules, leaf_empty_argument)

pub has_leaf-returns-in-Spill : goal.has_leaf-returns-in-Spill
has_leaf-returns-in-Spill g t c = search (rules, leaf_spill)

pub has_leaf-returns-in-Lambda : goal.has_leaf-returns-in-Lambda
has_leaf-returns-in-Lambda g t c = search (rules, leaf_lambda)

pub has_leaf-returns-then-has_child_leaf-7 : goal.has_leaf-returns-then-has_child_leaf-7
has_leaf-returns-then-has_child_leaf-7 g t c = search (rules, leaf_lambda_call)

pub has_leaf-returns-else-has_child_leaf-7 : goal.has_leaf-returns-else-has_child_leaf-7
has_leaf-returns-else-has_child_leaf-7 g t c = search (rules, leaf_lambda_call)

pub has_leaf-returns-in-ImplicitIntersection : goal.has_leaf-returns-in-ImplicitIntersection
has_leaf-returns-in-ImplicitIntersection g t c = search (rules, leaf_implicit_intersection)
