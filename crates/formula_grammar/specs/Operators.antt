-- The operators of expressions: how many levels are tighter than that of each, and its token.
use Rattle.std.specs.Prelude.{ℕ}
use Rattle.formula_tree.specs.declared.operator.CompareKind.{CompareKind}
use Rattle.formula_tree.specs.declared.operator.CompareKind.TheVariants as compare_kind
use Rattle.formula_tree.specs.declared.operator.ProductKind.{ProductKind}
use Rattle.formula_tree.specs.declared.operator.ProductKind.TheVariants as product_kind
use Rattle.formula_tree.specs.declared.operator.SumKind.{SumKind}
use Rattle.formula_tree.specs.declared.operator.SumKind.TheVariants as sum_kind
use Rattle.formula_tree.specs.declared.infix.Infix.{Infix}
use Rattle.formula_tree.specs.declared.infix.Infix.TheVariants as between
use Rattle.formula_tree.specs.declared.postfix.Postfix.{Postfix}
use Rattle.formula_tree.specs.declared.postfix.Postfix.TheVariants as postfix
use Rattle.formula_tree.specs.declared.prefix.Prefix.{Prefix}
use Rattle.formula_tree.specs.declared.prefix.Prefix.TheVariants as prefix
use Rattle.formula_tree.specs.Levels.{tighter, infix_level, prefix_level, postfix_level}
use Rattle.formula_grammar.specs.declared.token.Token.{Token}
use Rattle.formula_grammar.specs.declared.token.Token.TheVariants as t

-- ---- how many levels are tighter

abbrev pub infix_under : Infix → ℕ
infix_under op = tighter (infix_level op)

abbrev pub prefix_under : Prefix → ℕ
prefix_under op = tighter (prefix_level op)

abbrev pub postfix_under : Postfix → ℕ
postfix_under op = tighter (postfix_level op)

-- ---- tokens

abbrev pub compare_token : CompareKind → Token
compare_token compare_kind.Equal = t.Equal
compare_token compare_kind.NotEqual = t.NotEqual
compare_token compare_kind.Less = t.Less
compare_token compare_kind.LessOrEqual = t.LessOrEqual
compare_token compare_kind.Greater = t.Greater
compare_token compare_kind.GreaterOrEqual = t.GreaterOrEqual

abbrev pub sum_token : SumKind → Token
sum_token sum_kind.Add = t.Plus
sum_token sum_kind.Subtract = t.Minus

abbrev pub product_token : ProductKind → Token
product_token product_kind.Multiply = t.Times
product_token product_kind.Divide = t.Divide

abbrev pub infix_token : Infix → Token
infix_token (between.Compare kind) = compare_token kind
infix_token between.Concatenate = t.Ampersand
infix_token (between.Sum kind) = sum_token kind
infix_token (between.Product kind) = product_token kind
infix_token between.Power = t.Power
infix_token between.Colon = t.Colon

abbrev pub prefix_token : Prefix → Token
prefix_token prefix.Minus = t.Minus
prefix_token prefix.Plus = t.Plus
prefix_token prefix.At = t.At

abbrev pub postfix_token : Postfix → Token
postfix_token postfix.Percent = t.Percent
postfix_token postfix.Spill = t.Hash
