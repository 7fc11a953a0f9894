use Rattle.std.proofs.Common.{◌≡◌, Option, Some, None, ap, sym, ◌∙◌}
use Rattle.std.specs.Prelude.{if◌then◌else◌}
use Rattle.std.proofs.lemmas.Result.{IfOk-weaker}
use Rattle.formula_tree.specs.declared.Node.{Node}
use Rattle.line_routes.specs.MustKeep.{must_keep}
use Rattle.line_routes.specs.Trees.{tree_part}
use Rattle.line_routes.specs.RouteModel.{route_model}
use Rattle.line_routes.specs.laws.MustKeepLaws.{part_by_corners}
use Rattle.line_routes.proofs.tree.tree_part.Goals as goal

pub returns-clause-part : goal.returns-clause-part
returns-clause-part g c =
    let w = route_model c.args.route.now in
    let tree = c.args.tree.now in
    let Kept : Option Node → Type 0 = λ part. part ≡ (if c.must_keep_along.result then Some tree else None) in
    let IsPart : Option Node → Type 0 = λ part. part ≡ tree_part w tree in
    let told : c.must_keep_along.result ≡ must_keep w tree = c.must_keep_along.ensures ∙ ap (must_keep w) c.get.ensures in
    let e : (if c.must_keep_along.result then Some tree else None) ≡ tree_part w tree =
    ap (λ b. if b then Some tree else None) told ∙ sym (part_by_corners w c.is_route.ensures tree c.requires) in
    IfOk-weaker c.kept_where.result Kept IsPart (λ part is. is ∙ e) c.kept_where.ensures.part
