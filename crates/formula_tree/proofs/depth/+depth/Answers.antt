use Rattle.std.proofs.Common.{rules}
use Rattle.formula_tree.specs.laws.DepthBounds.{within_boolean, within_number, within_text, within_reference, within_range, within_colon, within_concatenate, within_compare, within_sum, within_product, within_power, within_unary, within_call, within_named_call, within_array, within_name, within_error, within_parse_error, within_empty_argument, within_spill, within_lambda, within_lambda_call, within_implicit_intersection}
use Rattle.formula_tree.proofs.depth.+depth.Goals as goal

pub has_room-returns-in-Boolean : goal.has_room-returns-in-Boolean
has_room-returns-in-Boolean t c = search (rules, within_boolean)

pub has_room-returns-in-Number : goal.has_room-returns-in-Number
has_room-returns-in-Number t c = search (rules, within_number)

pub has_room-returns-in-Text : goal.has_room-returns-in-Text
has_room-returns-in-Text t c = search (rules, within_text)

pub has_room-returns-in-Reference : goal.has_room-returns-in-Reference
has_room-returns-in-Reference t c = search (rules, within_reference)

pub has_room-returns-in-Range : goal.has_room-returns-in-Range
has_room-returns-in-Range t c = search (rules, within_range)

pub has_room-returns-then-is_within : goal.has_room-returns-then-is_within
has_room-returns-then-is_within t c = search (rules, within_colon)

pub has_room-returns-else-is_within : goal.has_room-returns-else-is_within
has_room-returns-else-is_within t c = search (rules, within_colon)

pub has_room-returns-then-is_within-2 : goal.has_room-returns-then-is_within-2
has_room-returns-then-is_within-2 t c = search (rules, within_concatenate)

pub has_room-returns-else-is_within-2 : goal.has_room-returns-else-is_within-2
has_room-returns-else-is_within-2 t c = search (rules, within_concatenate)

pub has_room-returns-then-is_within-3 : goal.has_room-returns-then-is_within-3
has_room-returns-then-is_within-3 t c = search (rules, within_compare)

pub has_room-returns-else-is_within-3 : goal.has_room-returns-else-is_within-3
has_room-returns-else-is_within-3 t c = search (rules, within_compare)

pub has_room-returns-then-is_within-4 : goal.has_room-returns-then-is_within-4
has_room-returns-then-is_within-4 t c = search (rules, within_sum)

pub has_room-returns-else-is_within-4 : goal.has_room-returns-else-is_within-4
has_room-returns-else-is_within-4 t c = search (rules, within_sum)

pub has_room-returns-then-is_within-5 : goal.has_room-returns-then-is_within-5
has_room-returns-then-is_within-5 t c = search (rules, within_product)

pub has_room-returns-else-is_within-5 : goal.has_room-returns-else-is_within-5
has_room-returns-else-is_within-5 t c = search (rules, within_product)

pub has_room-returns-then-is_within-6 : goal.has_room-returns-then-is_within-6
has_room-returns-then-is_within-6 t c = search (rules, within_power)

pub has_room-returns-else-is_within-6 : goal.has_room-returns-else-is_within-6
has_room-returns-else-is_within-6 t c = search (rules, within_power)

pub has_room-returns-in-Unary : goal.has_room-returns-in-Unary
has_room-returns-in-Unary t c = search (rules, within_unary)

pub has_room-returns-in-Call : goal.has_room-returns-in-Call
has_room-returns-in-Call t c = search (rules, within_call)

pub has_room-returns-in-NamedCall : goal.has_room-returns-in-NamedCall
has_room-returns-in-NamedCall t c = search (rules, within_named_call)

pub has_room-returns-in-Array : goal.has_room-returns-in-Array
has_room-returns-in-Array t c = search (rules, within_array)

pub has_room-returns-in-Name : goal.has_room-returns-in-Name
has_room-returns-in-Name t c = search (rules, within_name)

pub has_room-returns-in-Error : goal.has_room-returns-in-Error
has_room-returns-in-Error t c = search (rules, within_error)

pub has_room-returns-in-ParseError : goal.has_room-returns-in-ParseError
has_room-returns-in-ParseError t c = search (rules, within_parse_error)

pub has_room-returns-in-EmptyArgument : goal.has_room-returns-in-EmptyArgument
has_room-returns-in-EmptyArgument t c = search (rules, within_empty_argument)

pub has_room-returns-in-Spill : goal.has_room-returns-in-Spill
has_room-returns-in-Spill t c = search (rules, within_spill)

pub has_room-returns-in-Lambda : goal.has_room-returns-in-Lambda
has_room-returns-in-Lambda t c = search (rules, within_lambda)

pub has_room-returns-then-is_within-7 : goal.has_room-returns-then-is_within-7
has_room-returns-then-is_within-7 t c = search (rules, within_lambda_call)

pub has_room-returns-else-is_within-7 : goal.has_room-returns-else-is_within-7
has_room-returns-else-is_within-7 t c = search (rules, within_lambda_call)

pub has_room-returns-in-ImplicitIntersection : goal.has_room-returns-in-ImplicitIntersection
has_room-returns-in-ImplicitIntersection t c = search (rules, within_implicit_intersection)
