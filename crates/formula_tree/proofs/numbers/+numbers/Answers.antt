use Rattle.std.proofs.Common.{rules}
use Rattle.formula_tree.specs.laws.NumbersEquations.{numbers_boolean, numbers_number, numbers_text, numbers_reference, numbers_range, numbers_colon, numbers_concatenate, numbers_compare, numbers_sum, numbers_product, numbers_power, numbers_unary, numbers_call, numbers_named_call, numbers_array, numbers_name, numbers_error, numbers_parse_error, numbers_empty_argument, numbers_spill, numbers_lambda, numbers_lambda_call, numbers_implicit_intersection}
use Rattle.formula_tree.proofs.numbers.+numbers.Goals as goal

pub numbers_follow-returns-in-Boolean : goal.numbers_follow-returns-in-Boolean
numbers_follow-returns-in-Boolean t c = search (rules, numbers_boolean)

pub numbers_follow-returns-in-Number : goal.numbers_follow-returns-in-Number
numbers_follow-returns-in-Number t c = search (rules, numbers_number)

pub numbers_follow-returns-in-Text : goal.numbers_follow-returns-in-Text
numbers_follow-returns-in-Text t c = search (rules, numbers_text)

pub numbers_follow-returns-in-Reference : goal.numbers_follow-returns-in-Reference
numbers_follow-returns-in-Reference t c = search (rules, numbers_reference)

pub numbers_follow-returns-in-Range : goal.numbers_follow-returns-in-Range
numbers_follow-returns-in-Range t c = search (rules, numbers_range)

pub numbers_follow-returns-then-child_follows : goal.numbers_follow-returns-then-child_follows
numbers_follow-returns-then-child_follows t c = search (rules, numbers_colon)

pub numbers_follow-returns-else-child_follows : goal.numbers_follow-returns-else-child_follows
numbers_follow-returns-else-child_follows t c = search (rules, numbers_colon)

pub numbers_follow-returns-then-child_follows-2 : goal.numbers_follow-returns-then-child_follows-2
numbers_follow-returns-then-child_follows-2 t c = search (rules, numbers_concatenate)

pub numbers_follow-returns-else-child_follows-2 : goal.numbers_follow-returns-else-child_follows-2
numbers_follow-returns-else-child_follows-2 t c = search (rules, numbers_concatenate)

pub numbers_follow-returns-then-child_follows-3 : goal.numbers_follow-returns-then-child_follows-3
numbers_follow-returns-then-child_follows-3 t c = search (rules, numbers_compare)

pub numbers_follow-returns-else-child_follows-3 : goal.numbers_follow-returns-else-child_follows-3
numbers_follow-returns-else-child_follows-3 t c = search (rules, numbers_compare)

pub numbers_follow-returns-then-child_follows-4 : goal.numbers_follow-returns-then-child_follows-4
numbers_follow-returns-then-child_follows-4 t c = search (rules, numbers_sum)

pub numbers_follow-returns-else-child_follows-4 : goal.numbers_follow-returns-else-child_follows-4
numbers_follow-returns-else-child_follows-4 t c = search (rules, numbers_sum)

pub numbers_follow-returns-then-child_follows-5 : goal.numbers_follow-returns-then-child_follows-5
numbers_follow-returns-then-child_follows-5 t c = search (rules, numbers_product)

pub numbers_follow-returns-else-child_follows-5 : goal.numbers_follow-returns-else-child_follows-5
numbers_follow-returns-else-child_follows-5 t c = search (rules, numbers_product)

pub numbers_follow-returns-then-child_follows-6 : goal.numbers_follow-returns-then-child_follows-6
numbers_follow-returns-then-child_follows-6 t c = search (rules, numbers_power)

pub numbers_follow-returns-else-child_follows-6 : goal.numbers_follow-returns-else-child_follows-6
numbers_follow-returns-else-child_follows-6 t c = search (rules, numbers_power)

pub numbers_follow-returns-in-Unary : goal.numbers_follow-returns-in-Unary
numbers_follow-returns-in-Unary t c = search (rules, numbers_unary)

pub numbers_follow-returns-in-Call : goal.numbers_follow-returns-in-Call
numbers_follow-returns-in-Call t c = search (rules, numbers_call)

pub numbers_follow-returns-in-NamedCall : goal.numbers_follow-returns-in-NamedCall
numbers_follow-returns-in-NamedCall t c = search (rules, numbers_named_call)

pub numbers_follow-returns-in-Array : goal.numbers_follow-returns-in-Array
numbers_follow-returns-in-Array t c = search (rules, numbers_array)

pub numbers_follow-returns-in-Name : goal.numbers_follow-returns-in-Name
numbers_follow-returns-in-Name t c = search (rules, numbers_name)

pub numbers_follow-returns-in-Error : goal.numbers_follow-returns-in-Error
numbers_follow-returns-in-Error t c = search (rules, numbers_error)

pub numbers_follow-returns-in-ParseError : goal.numbers_follow-returns-in-ParseError
numbers_follow-returns-in-ParseError t c = search (rules, numbers_parse_error)

pub numbers_follow-returns-in-EmptyArgument : goal.numbers_follow-returns-in-EmptyArgument
numbers_follow-returns-in-EmptyArgument t c = search (rules, numbers_empty_argument)

pub numbers_follow-returns-in-Spill : goal.numbers_follow-returns-in-Spill
numbers_follow-returns-in-Spill t c = search (rules, numbers_spill)

pub numbers_follow-returns-in-Lambda : goal.numbers_follow-returns-in-Lambda
numbers_follow-returns-in-Lambda t c = search (rules, numbers_lambda)

pub numbers_follow-returns-then-child_follows-7 : goal.numbers_follow-returns-then-child_follows-7
numbers_follow-returns-then-child_follows-7 t c = search (rules, numbers_lambda_call)

pub numbers_follow-returns-else-child_follows-7 : goal.numbers_follow-returns-else-child_follows-7
numbers_follow-returns-else-child_follows-7 t c = search (rules, numbers_lambda_call)

pub numbers_follow-returns-in-ImplicitIntersection : goal.numbers_follow-returns-in-ImplicitIntersection
numbers_follow-returns-in-ImplicitIntersection t c = search (rules, numbers_implicit_intersection)
