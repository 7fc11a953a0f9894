use Rattle.std.proofs.Common.{not, ap, ◌∙◌}
use Rattle.std.proofs.lemmas.Bool.Decides.{Decides-at}
use Rattle.line_routes.specs.MustKeep.{must_keep_tree}
use Rattle.line_routes.specs.TreeAt.{tree_at}
use Rattle.line_routes.specs.laws.KeptAloneLaws.{kept_alone}
use Rattle.line_routes.proofs.keeping.must_keep.Goals as goal

pub returns-clause-value : goal.returns-clause-value
returns-clause-value g c =
    let a = c.args in
    c.must_keep_tree.ensures ∙ ap (λ v. must_keep_tree v (tree_at a.node.now a.sheet.now a.place a.edited.now)) c.edit_route.ensures

pub returns-clause-exact : goal.returns-clause-exact
returns-clause-exact g c =
    let a = c.args in
    Decides-at _ _ (ap not (returns-clause-value g c))
    (kept_alone g.A.Axis.along g.met.A.Axis.lawful a.edit.now.kind c.requires.valid (tree_at a.node.now a.sheet.now a.place a.edited.now)
    (record { place = c.requires.place; corners = c.requires.corners }) c.requires.survives)
