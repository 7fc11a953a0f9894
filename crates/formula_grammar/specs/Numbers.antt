-- Whether the numbers of tokens are as they should be.
use Rattle.std.specs.Prelude.{Bool, true, List}
use Rattle.std.specs.List.{list_all}
use Rattle.formula_tree.specs.declared.numbers.NumberRule.{NumberRule}
use Rattle.formula_tree.specs.Numbers.{number_follows}
use Rattle.formula_grammar.specs.declared.token.Token.{Token}
use Rattle.formula_grammar.specs.declared.token.Token.TheVariants as t

-- a number follows the rule, and any other token does
abbrev pub token_follows : NumberRule → Token → Bool
token_follows rule (t.Number value) = number_follows rule value
token_follows rule _ = true

-- each number of the tokens follows the rule
abbrev pub tokens_follow : NumberRule → List Token → Bool
tokens_follow rule tokens = list_all (token_follows rule) tokens
