-- A content is a shape and maybe a tree: how the tree is seen, and how another one is put in its place.
use Rattle.std.specs.Prelude.{Option, Some, None}
use Rattle.std.specs.Option.{option_map_or}
use Rattle.formula_tree.specs.declared.Node.{Node}
use Rattle.cell_content.specs.declared.content.Content.{Content}
use Rattle.cell_content.specs.declared.content.Content.TheVariants.{Empty, Number, Boolean, Error, Text, Formula, Dynamic, Array}

-- the tree of a formula; any other content has none
abbrev pub tree_of : Content → Option Node
tree_of Empty = None
tree_of (Number number) = None
tree_of (Boolean truth) = None
tree_of (Error error) = None
tree_of (Text text) = None
tree_of (Formula tree) = Some tree
tree_of (Dynamic tree) = Some tree
tree_of (Array tree width height) = Some tree

-- the content with that tree in place of its own; one without a tree stays
abbrev pub with_tree : Content → Node → Content
with_tree Empty tree = Empty
with_tree (Number number) tree = Number number
with_tree (Boolean truth) tree = Boolean truth
with_tree (Error error) tree = Error error
with_tree (Text text) tree = Text text
with_tree (Formula own) tree = Formula tree
with_tree (Dynamic own) tree = Dynamic tree
with_tree (Array own width height) tree = Array tree width height

-- the content whose tree, if it has one, is changed so
abbrev pub content_changed : (Node → Node) → Content → Content
content_changed change content = option_map_or (λ tree. with_tree content (change tree)) (tree_of content) content
