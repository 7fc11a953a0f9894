-- The law of followers for what cells hold, and for cells.
use Rattle.std.proofs.Common.{◌≡◌, Option, Some, None, refl, ap, sym, ◌∙◌}
use Rattle.formula_tree.specs.declared.Node.{Node}
use Rattle.cell_content.specs.declared.Content.{Content}
use Rattle.cell_content.specs.Lens.{tree_of, with_tree}
use Rattle.cell_content.specs.laws.ChangedLaws.{changed_back, changed_tree, put_back, unchanged}
use Rattle.sheet_grid.specs.declared.Cell.{Cell}
use Rattle.base_maps.specs.Carried.{if_there}
use Rattle.line_map.specs.Contents.{content_carried, content_part, ContentInside, cell_carried, cell_part, cell_restored, CellInside}
use Rattle.line_routes.specs.Trees.{tree_carried, tree_part, TreeInside}
use Rattle.line_routes.specs.RouteModel.{RouteModel, IsRoute, back}
use Rattle.line_routes.specs.laws.TreeLaws.{tree_stays, tree_comes_back, tree_restores}

-- a content stays whose tree does
pub unchanged_content : (w : RouteModel) (content : Content) (tree : Node) → tree_of content ≡ Some tree → tree_carried w tree ≡ tree →
    content_carried w content ≡ content
unchanged_content w content tree h stays = unchanged (tree_carried w) content tree h stays

pub content_stays : (w : RouteModel) → IsRoute w → (content : Content) → ContentInside w content → ContentInside (back w) (content_carried w content)
content_stays w is content lies = changed_tree (tree_carried w) content (TreeInside (back w)) (λ tree h. tree_stays w is tree)

pub content_comes_back : (w : RouteModel) (content : Content) → content_part w content ≡ None → content_carried (back w) (content_carried w content) ≡ content
content_comes_back w content none = changed_back (tree_carried w) (tree_carried (back w)) content
    (λ tree h. tree_comes_back w tree (sym (ap (λ o. if_there o (tree_part w)) h) ∙ none))

restored_at : (w : RouteModel) (content : Content) (o : Option Node) → tree_of content ≡ o → (part : Node) → if_there o (tree_part w) ≡ Some part →
    with_tree (content_carried w content) part ≡ content
restored_at w content None h part some = absurd (cc)
restored_at w content (Some tree) h part some =
    ap (with_tree (content_carried w content)) (tree_restores w tree part some) ∙ put_back (tree_carried w) content tree h

pub content_restores : (w : RouteModel) (content : Content) (part : Node) → content_part w content ≡ Some part → with_tree (content_carried w content) part ≡ content
content_restores w content part h = restored_at w content _ refl part h

pub cell_stays : (w : RouteModel) → IsRoute w → (cell : Cell) → CellInside w cell → CellInside (back w) (cell_carried w cell)
cell_stays w is cell lies = content_stays w is cell.content lies

pub cell_comes_back : (w : RouteModel) (cell : Cell) → cell_part w cell ≡ None → cell_carried (back w) (cell_carried w cell) ≡ cell
cell_comes_back w cell h = λ i. record cell { content = content_comes_back w cell.content h i }

pub cell_restores : (w : RouteModel) (cell : Cell) (part : Node) → cell_part w cell ≡ Some part → cell_restored (cell_carried w cell) part ≡ cell
cell_restores w cell part h = λ i. record cell { content = content_restores w cell.content part h i }
