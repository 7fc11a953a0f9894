-- Whether a tree is the text of no formula.
use Rattle.std.specs.Prelude.{Bool, true, false}
use Rattle.formula_tree.specs.declared.node.Node.{Node}
use Rattle.formula_tree.specs.declared.node.Node.TheOpen.{Node-F}
use Rattle.formula_tree.specs.declared.node.Node.TheOpen as layer
use Rattle.formula_tree.specs.declared.node.Node.TheViews.{out-Node}

-- one node
abbrev pub is_parse_error_layer : Node-F Node → Bool
is_parse_error_layer (layer.ParseError text) = true
is_parse_error_layer _ = false

-- the tree is a text that is no formula
unfoldable pub is_parse_error : Node → Bool
is_parse_error tree = is_parse_error_layer (out-Node tree)
