use Rattle.std.proofs.Common.{rules}
use Rattle.formula_tree.specs.laws.PlacedEquations.{placed_boolean, placed_number, placed_text, placed_reference, placed_range, placed_colon, placed_concatenate, placed_compare, placed_sum, placed_product, placed_power, placed_unary, placed_call, placed_named_call, placed_array, placed_name, placed_error, placed_parse_error, placed_empty_argument, placed_spill, placed_lambda, placed_lambda_call, placed_implicit_intersection}
use Rattle.formula_tree.proofs.placed.+placed.Goals as goal

pub is_placed-returns-in-Boolean : goal.is_placed-returns-in-Boolean
is_placed-returns-in-Boolean t c = search (rules, placed_boolean)

pub is_placed-returns-in-Number : goal.is_placed-returns-in-Number
is_placed-returns-in-Number t c = search (rules, placed_number)

pub is_placed-returns-in-Text : goal.is_placed-returns-in-Text
is_placed-returns-in-Text t c = search (rules, placed_text)

pub is_placed-returns-in-Reference : goal.is_placed-returns-in-Reference
is_placed-returns-in-Reference t c = search (rules, placed_reference)

pub is_placed-returns-in-Range : goal.is_placed-returns-in-Range
is_placed-returns-in-Range t c = search (rules, placed_range)

pub is_placed-returns-then-is_child_placed : goal.is_placed-returns-then-is_child_placed
is_placed-returns-then-is_child_placed t c = search (rules, placed_colon)

pub is_placed-returns-else-is_child_placed : goal.is_placed-returns-else-is_child_placed
is_placed-returns-else-is_child_placed t c = search (rules, placed_colon)

pub is_placed-returns-then-is_child_placed-2 : goal.is_placed-returns-then-is_child_placed-2
is_placed-returns-then-is_child_placed-2 t c = search (rules, placed_concatenate)

pub is_placed-returns-else-is_child_placed-2 : goal.is_placed-returns-else-is_child_placed-2
is_placed-returns-else-is_child_placed-2 t c = search (rules, placed_concatenate)

pub is_placed-returns-then-is_child_placed-3 : goal.is_placed-returns-then-is_child_placed-3
is_placed-returns-then-is_child_placed-3 t c = search (rules, placed_compare)

pub is_placed-returns-else-is_child_placed-3 : goal.is_placed-returns-else-is_child_placed-3
is_placed-returns-else-is_child_placed-3 t c = search (rules, placed_compare)

pub is_placed-returns-then-is_child_placed-4 : goal.is_placed-returns-then-is_child_placed-4
is_placed-returns-then-is_child_placed-4 t c = search (rules, placed_sum)

pub is_placed-returns-else-is_child_placed-4 : goal.is_placed-returns-else-is_child_placed-4
is_placed-returns-else-is_child_placed-4 t c = search (rules, placed_sum)

pub is_placed-returns-then-is_child_placed-5 : goal.is_placed-returns-then-is_child_placed-5
is_placed-returns-then-is_child_placed-5 t c = search (rules, placed_product)

pub is_placed-returns-else-is_child_placed-5 : goal.is_placed-returns-else-is_child_placed-5
is_placed-returns-else-is_child_placed-5 t c = search (rules, placed_product)

pub is_placed-returns-then-is_child_placed-6 : goal.is_placed-returns-then-is_child_placed-6
is_placed-returns-then-is_child_placed-6 t c = search (rules, placed_power)

pub is_placed-returns-else-is_child_placed-6 : goal.is_placed-returns-else-is_child_placed-6
is_placed-returns-else-is_child_placed-6 t c = search (rules, placed_power)

pub is_placed-returns-in-Unary : goal.is_placed-returns-in-Unary
is_placed-returns-in-Unary t c = search (rules, placed_unary)

pub is_placed-returns-in-Call : goal.is_placed-returns-in-Call
is_placed-returns-in-Call t c = search (rules, placed_call)

pub is_placed-returns-in-NamedCall : goal.is_placed-returns-in-NamedCall
is_placed-returns-in-NamedCall t c = search (rules, placed_named_call)

pub is_placed-returns-in-Array : goal.is_placed-returns-in-Array
is_placed-returns-in-Array t c = search (rules, placed_array)

pub is_placed-returns-in-Name : goal.is_placed-returns-in-Name
is_placed-returns-in-Name t c = search (rules, placed_name)

pub is_placed-returns-in-Error : goal.is_placed-returns-in-Error
is_placed-returns-in-Error t c = search (rules, placed_error)

pub is_placed-returns-in-ParseError : goal.is_placed-returns-in-ParseError
is_placed-returns-in-ParseError t c = search (rules, placed_parse_error)

pub is_placed-returns-in-EmptyArgument : goal.is_placed-returns-in-EmptyArgument
is_placed-returns-in-EmptyArgument t c = search (rules, placed_empty_argument)

pub is_placed-returns-in-Spill : goal.is_placed-returns-in-Spill
is_placed-returns-in-Spill t c = search (rules, placed_spill)

pub is_placed-returns-in-Lambda : goal.is_placed-returns-in-Lambda
is_placed-returns-in-Lambda t c = search (rules, placed_lambda)

pub is_placed-returns-then-is_child_placed-7 : goal.is_placed-returns-then-is_child_placed-7
is_placed-returns-then-is_child_placed-7 t c = search (rules, placed_lambda_call)

pub is_placed-returns-else-is_child_placed-7 : goal.is_placed-returns-else-is_child_placed-7
is_placed-returns-else-is_child_placed-7 t c = search (rules, placed_lambda_call)

pub is_placed-returns-in-ImplicitIntersection : goal.is_placed-returns-in-ImplicitIntersection
is_placed-returns-in-ImplicitIntersection t c = search (rules, placed_implicit_intersection)
