-- What cells hold, carried along with them: a formula's tree follows, all else stays.
use Rattle.std.specs.Prelude.{Option, IfSome}
use Rattle.formula_tree.specs.declared.Node.{Node}
use Rattle.cell_content.specs.declared.Content.{Content}
use Rattle.cell_content.specs.Lens.{content_changed, tree_of, with_tree}
use Rattle.sheet_grid.specs.declared.Cell.{Cell}
use Rattle.base_maps.specs.Carried.{if_there}
use Rattle.line_routes.specs.Trees.{tree_carried, tree_part, TreeInside}
use Rattle.line_routes.specs.RouteModel.{RouteModel}

-- a content whose tree, if it has one, is carried along
abbrev pub content_carried : RouteModel → Content → Content
content_carried w content = content_changed (tree_carried w) content

-- what is kept of it
abbrev pub content_part : RouteModel → Content → Option Node
content_part w content = if_there (tree_of content) (tree_part w)

abbrev pub ContentInside : RouteModel → Content → Type 0
ContentInside w content = IfSome (tree_of content) (TreeInside w)

-- a cell: its content is carried along, and its style stays
abbrev pub cell_carried : RouteModel → Cell → Cell
cell_carried w cell = record cell { content = content_carried w cell.content }

abbrev pub cell_part : RouteModel → Cell → Option Node
cell_part w cell = content_part w cell.content

-- a cell with that tree in place of its own
abbrev pub cell_restored : Cell → Node → Cell
cell_restored cell tree = record cell { content = with_tree cell.content tree }

abbrev pub CellInside : RouteModel → Cell → Type 0
CellInside w cell = ContentInside w cell.content
