-- Signs before a tree, counted.
use Rattle.std.specs.Prelude.{ℕ, zero, suc, ◌==◌, if◌then◌else◌, List, [], ◌∷◌, Option, Some, None, option_and_then}
use Rattle.formula_tree.specs.declared.prefix.Prefix.{Prefix}
use Rattle.formula_tree.specs.declared.prefix.Prefix.TheVariants.{Minus, Plus, At}
use Rattle.formula_tree.specs.Levels.{prefix_node}
use Rattle.formula_tree.specs.declared.node.Node.{Node}
use Rattle.formula_grammar.specs.declared.token.Token.{Token}
use Rattle.formula_grammar.specs.Operators.{prefix_under}
use Rattle.formula_grammar.specs.laws.Reading.{shallow_tree, sign_at}

-- what a token adds to the count, where it is a sign
abbrev pub counted : List Token → ℕ × List Token → Option Prefix → ℕ × List Token
counted ts more None = (0, ts)
counted ts more (Some Plus) = more
counted ts more (Some op) = (suc more.0, more.1)

-- how many signs with this level under them stand here that make a node, and what follows all signs
abbrev pub signs : ℕ → List Token → ℕ × List Token
signs under [] = (0, [])
signs under (x ∷ ts) = counted (x ∷ ts) (signs under ts) (sign_at under x)

-- which sign each of them is
abbrev pub making : ℕ → Prefix
making under = if under == prefix_under At then At else Minus

-- so many signs before the tree
abbrev pub wrapped : Prefix → ℕ → Node → Option Node
wrapped op zero tree = Some tree
wrapped op (suc k) tree = option_and_then (wrapped op k) (shallow_tree (prefix_node op tree))
