-- The table of operators: how tightly each binds, and what it makes. Level 1 is the loosest, 10 the tightest; all that is no operator binds tighter than these.
use Rattle.std.specs.Prelude.{ℕ, ◌-◌}
use Rattle.formula_tree.specs.declared.node.Node.{Node}
use Rattle.formula_tree.specs.declared.node.Node.TheVariants as n
use Rattle.formula_tree.specs.declared.operator.UnaryKind.TheVariants as unary
use Rattle.formula_tree.specs.declared.infix.Infix.{Infix}
use Rattle.formula_tree.specs.declared.infix.Infix.TheVariants as between
use Rattle.formula_tree.specs.declared.postfix.Postfix.{Postfix}
use Rattle.formula_tree.specs.declared.postfix.Postfix.TheVariants as postfix
use Rattle.formula_tree.specs.declared.prefix.Prefix.{Prefix}
use Rattle.formula_tree.specs.declared.prefix.Prefix.TheVariants as prefix

-- ---- levels

abbrev pub infix_level : Infix → ℕ
infix_level (between.Compare kind) = 1
infix_level between.Concatenate = 2
infix_level (between.Sum kind) = 3
infix_level (between.Product kind) = 4
infix_level between.Power = 5
infix_level between.Colon = 9

abbrev pub prefix_level : Prefix → ℕ
prefix_level prefix.Minus = 6
prefix_level prefix.Plus = 6
prefix_level prefix.At = 8

abbrev pub postfix_level : Postfix → ℕ
postfix_level postfix.Percent = 7
postfix_level postfix.Spill = 10

-- what is no operator
abbrev pub operand_level : ℕ
operand_level = 11

-- how many levels of operators are tighter than this one
abbrev pub tighter : ℕ → ℕ
tighter level = 10 - level

-- ---- nodes

abbrev pub infix_node : Infix → Node → Node → Node
infix_node (between.Compare kind) a b = n.Compare kind a b
infix_node between.Concatenate a b = n.Concatenate a b
infix_node (between.Sum kind) a b = n.Sum kind a b
infix_node (between.Product kind) a b = n.Product kind a b
infix_node between.Power a b = n.Power a b
infix_node between.Colon a b = n.Colon a b

-- a plus sign makes none
abbrev pub prefix_node : Prefix → Node → Node
prefix_node prefix.Minus a = n.Unary unary.Minus a
prefix_node prefix.Plus a = a
prefix_node prefix.At a = n.ImplicitIntersection a

abbrev pub postfix_node : Postfix → Node → Node
postfix_node postfix.Percent a = n.Unary unary.Percent a
postfix_node postfix.Spill a = n.Spill a
