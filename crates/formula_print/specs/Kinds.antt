-- How tightly each kind of tree holds together, and what stands without parentheses.
use Rattle.std.specs.Prelude.{ℕ, ◌+◌, Bool, true, false, not, ◌&&◌, ◌||◌, nat_le, nat_lt}
use Rattle.formula_print.specs.declared.kind.Kind.{Kind}
use Rattle.formula_print.specs.declared.kind.Kind.TheVariants as k
use Rattle.formula_print.specs.declared.kind.Need.{Need}
use Rattle.formula_print.specs.declared.kind.Need.TheVariants as need
use Rattle.formula_tree.specs.declared.infix.Infix.{Infix}
use Rattle.formula_tree.specs.declared.infix.Infix.TheVariants as op
use Rattle.formula_tree.specs.declared.postfix.Postfix.TheVariants as postfix
use Rattle.formula_tree.specs.declared.prefix.Prefix.TheVariants as prefix
use Rattle.formula_tree.specs.Levels.{infix_level, prefix_level, postfix_level, operand_level}
use Rattle.formula_tree.specs.declared.SumKind.TheVariants.{Add}

-- by the table of operators; above them all that is no operator
abbrev pub level_of : Kind → ℕ
level_of (k.Infix operator) = infix_level operator
level_of (k.Prefix operator) = prefix_level operator
level_of (k.Postfix operator) = postfix_level operator
level_of _ = operand_level

-- a boolean, number, text, reference, range or name
abbrev pub is_simple : Kind → Bool
is_simple k.Number = true
is_simple k.Name = true
is_simple k.Reference = true
is_simple k.Value = true
is_simple _ = false

abbrev pub is_percent : Kind → Bool
is_percent (k.Postfix postfix.Percent) = true
is_percent _ = false

-- a minus or a percent
abbrev pub is_sign : Kind → Bool
is_sign (k.Prefix prefix.Minus) = true
is_sign (k.Postfix postfix.Percent) = true
is_sign _ = false

abbrev pub is_number_or_name : Kind → Bool
is_number_or_name k.Number = true
is_number_or_name k.Name = true
is_number_or_name _ = false

abbrev pub is_reference : Kind → Bool
is_reference k.Reference = true
is_reference _ = false

-- a lambda or a call of one
abbrev pub is_lambda : Kind → Bool
is_lambda k.Lambda = true
is_lambda _ = false

-- what stands without parentheses. A percent has them under a minus. On the left of `:` a number or a name would be read with what follows
-- as whole rows or columns, and a reference before a cell as one range
abbrev pub fits : Need → Kind → Bool
fits (need.Level least) kind = nat_le least (level_of kind)
fits need.Negated kind = nat_le (prefix_level prefix.Minus) (level_of kind) && not (is_percent kind)
fits need.Base kind = is_simple kind || is_sign kind
fits need.Exponent kind = is_simple kind
fits (need.LeftOfColon cell_follows) kind = (nat_lt (infix_level op.Colon) (level_of kind) && not (is_number_or_name kind)) && not (cell_follows && is_reference kind)
fits need.Callee kind = is_lambda kind

-- what the left operand needs: an operator of its own level stands there without parentheses, since operators group to the left. That of `:` needs more
abbrev pub left_need : Infix → Need
left_need op.Power = need.Base
left_need operator = need.Level (infix_level operator)

-- what the right operand needs: a sum stands there without parentheses only behind `+`
abbrev pub right_need : Infix → Need
right_need op.Power = need.Exponent
right_need (op.Sum Add) = need.Level (infix_level (op.Sum Add))
right_need operator = need.Level (infix_level operator + 1)
