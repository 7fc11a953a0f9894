-- Whether the numbers of a tree are as they should be: its number nodes, and the constants of its arrays.
use Rattle.std.specs.Prelude.{pos, Bool, true, ◌&&◌, int_le, List}
use Rattle.std.specs.List.{list_all}
use Rattle.base_decimal.specs.declared.Decimal.{Decimal}
use Rattle.base_decimal.specs.Canonical.{is_canonical}
use Rattle.formula_tree.specs.declared.array_item.ArrayItem.{ArrayItem}
use Rattle.formula_tree.specs.declared.array_item.ArrayItem.TheVariants as item
use Rattle.formula_tree.specs.declared.node.Node.{Node, fold-Node}
use Rattle.formula_tree.specs.declared.node.Node.TheOpen.{Node-F}
use Rattle.formula_tree.specs.declared.node.Node.TheOpen as layer
use Rattle.formula_tree.specs.declared.numbers.NumberRule.{NumberRule}
use Rattle.formula_tree.specs.declared.numbers.NumberRule.TheVariants as rule

-- the number of a node follows a rule
abbrev pub number_follows : NumberRule → Decimal → Bool
number_follows rule.Canonical value = is_canonical value
number_follows rule.NotNegative value = int_le (pos 0) value.mantissa

-- the constant of an array follows a rule: it may be negative
abbrev pub constant_follows : NumberRule → ArrayItem → Bool
constant_follows rule.Canonical (item.Number value) = is_canonical value
constant_follows rule.Canonical (item.Boolean value) = true
constant_follows rule.Canonical (item.Text text) = true
constant_follows rule.Canonical (item.Error error) = true
constant_follows rule.NotNegative constant = true

-- the constants of an array follow a rule
abbrev pub lines_follow : NumberRule → List (List ArrayItem) → Bool
lines_follow r lines = list_all (list_all (constant_follows r)) lines

-- one node, whose children are tested
abbrev pub numbers_layer : NumberRule → Node-F Bool → Bool
numbers_layer r (layer.Boolean value) = true
numbers_layer r (layer.Number value) = number_follows r value
numbers_layer r (layer.Text text) = true
numbers_layer r (layer.Reference sheet corner) = true
numbers_layer r (layer.Range sheet first second) = true
numbers_layer r (layer.Colon a b) = a && b
numbers_layer r (layer.Concatenate a b) = a && b
numbers_layer r (layer.Compare kind a b) = a && b
numbers_layer r (layer.Sum kind a b) = a && b
numbers_layer r (layer.Product kind a b) = a && b
numbers_layer r (layer.Power a b) = a && b
numbers_layer r (layer.Unary kind a) = a
numbers_layer r (layer.Call function all) = list_all (λ test. test) all
numbers_layer r (layer.NamedCall name all) = list_all (λ test. test) all
numbers_layer r (layer.Array lines) = lines_follow r lines
numbers_layer r (layer.Name name) = true
numbers_layer r (layer.Error error) = true
numbers_layer r (layer.ParseError text) = true
numbers_layer r layer.EmptyArgument = true
numbers_layer r (layer.Spill a) = a
numbers_layer r (layer.Lambda parameters a) = a
numbers_layer r (layer.LambdaCall a all) = a && list_all (λ test. test) all
numbers_layer r (layer.ImplicitIntersection a) = a

-- the numbers of a tree follow a rule
unfoldable pub numbers_follow : NumberRule → Node → Bool
numbers_follow r = fold-Node Bool (numbers_layer r)

-- each number of the tree, also in its arrays, is canonical
abbrev pub has_canonical_numbers : Node → Bool
has_canonical_numbers = numbers_follow rule.Canonical

-- no number node is negative: a minus sign is a node of its own. The constants of arrays may be negative
abbrev pub has_no_negative_number : Node → Bool
has_no_negative_number = numbers_follow rule.NotNegative
