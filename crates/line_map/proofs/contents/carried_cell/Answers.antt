use Rattle.std.proofs.Common.{sym, ◌∙◌}
use Rattle.std.proofs.lemmas.Result.{IfOk-weaker}
use Rattle.line_map.specs.laws.ContentLaws.{unchanged_content}
use Rattle.line_routes.specs.RouteModel.{route_model}
use Rattle.line_map.proofs.contents.carried_cell.Goals as goal

pub returns-then-stays-clause-cell : goal.returns-then-stays-clause-cell
returns-then-stays-clause-cell g c =
    let cell = c.args.cell.now in
    let same = unchanged_content (route_model c.args.route.now) cell.content c.args.tree.now c.requires (c.stays.ensures.0 c.if-stays.true) in
    IfOk-weaker c.copy_of.result _ _ (λ copy is. is ∙ (λ i. record cell { content = sym same i })) c.copy_of.ensures.copy
