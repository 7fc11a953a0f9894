use Rattle.std.proofs.Common.{rules}
use Rattle.formula_tree.specs.laws.ParseErrorEquations.{parse_error_boolean, parse_error_number, parse_error_text, parse_error_reference, parse_error_range, parse_error_colon, parse_error_concatenate, parse_error_compare, parse_error_sum, parse_error_product, parse_error_power, parse_error_unary, parse_error_call, parse_error_named_call, parse_error_array, parse_error_name, parse_error_error, parse_error_parse_error, parse_error_empty_argument, parse_error_spill, parse_error_lambda, parse_error_lambda_call, parse_error_implicit_intersection}
use Rattle.formula_tree.proofs.parse_error.is_parse_error.Goals as goal

pub returns-in-Boolean : goal.returns-in-Boolean
returns-in-Boolean c = search (rules, parse_error_boolean)

pub returns-in-Number : goal.returns-in-Number
returns-in-Number c = search (rules, parse_error_number)

pub returns-in-Text : goal.returns-in-Text
returns-in-Text c = search (rules, parse_error_text)

pub returns-in-Reference : goal.returns-in-Reference
returns-in-Reference c = search (rules, parse_error_reference)

pub returns-in-Range : goal.returns-in-Range
returns-in-Range c = search (rules, parse_error_range)

pub returns-in-Colon : goal.returns-in-Colon
returns-in-Colon c = search (rules, parse_error_colon)

pub returns-in-Concatenate : goal.returns-in-Concatenate
returns-in-Concatenate c = search (rules, parse_error_concatenate)

pub returns-in-Compare : goal.returns-in-Compare
returns-in-Compare c = search (rules, parse_error_compare)

pub returns-in-Sum : goal.returns-in-Sum
returns-in-Sum c = search (rules, parse_error_sum)

pub returns-in-Product : goal.returns-in-Product
returns-in-Product c = search (rules, parse_error_product)

pub returns-in-Power : goal.returns-in-Power
returns-in-Power c = search (rules, parse_error_power)

pub returns-in-Unary : goal.returns-in-Unary
returns-in-Unary c = search (rules, parse_error_unary)

pub returns-in-Call : goal.returns-in-Call
returns-in-Call c = search (rules, parse_error_call)

pub returns-in-NamedCall : goal.returns-in-NamedCall
returns-in-NamedCall c = search (rules, parse_error_named_call)

pub returns-in-Array : goal.returns-in-Array
returns-in-Array c = search (rules, parse_error_array)

pub returns-in-Name : goal.returns-in-Name
returns-in-Name c = search (rules, parse_error_name)

pub returns-in-Error : goal.returns-in-Error
returns-in-Error c = search (rules, parse_error_error)

pub returns-in-ParseError : goal.returns-in-ParseError
returns-in-ParseError c = search (rules, parse_error_parse_error)

pub returns-in-EmptyArgument : goal.returns-in-EmptyArgument
returns-in-EmptyArgument c = search (rules, parse_error_empty_argument)

pub returns-in-Spill : goal.returns-in-Spill
returns-in-Spill c = search (rules, parse_error_spill)

pub returns-in-Lambda : goal.returns-in-Lambda
returns-in-Lambda c = search (rules, parse_error_lambda)

pub returns-in-LambdaCall : goal.returns-in-LambdaCall
returns-in-LambdaCall c = search (rules, parse_error_lambda_call)

pub returns-in-ImplicitIntersection : goal.returns-in-ImplicitIntersection
returns-in-ImplicitIntersection c = search (rules, parse_error_implicit_intersection)
