use Rattle.std.proofs.Common.{ap, subst, sym, ◌∙◌}
use Rattle.std.proofs.lemmas.Result.{IfOk-weaker}
use Rattle.std.specs.Cmp.{int_cmp_total}
use Rattle.std.specs.FinMap.{int_cmp-IsAntisymmetric}
use Rattle.base_values.specs.Places.{IsLine}
use Rattle.base_maps.specs.Carried.{moved_map, overlaid}
use Rattle.line_map.specs.Attributes.{line_goes}
use Rattle.line_map.specs.Keys.{KeysAre}
use Rattle.line_map.specs.laws.AttributeLaws.{same_last}
use Rattle.line_map.specs.laws.HeirLaws.{both_of}
use Rattle.line_map.specs.laws.UnderLaws.{rekeyed_own}
use Rattle.line_routes.specs.RouteModel.{back, is_along, route_model}
use Rattle.line_map.specs.Maps.{lost_along}
use Rattle.sheet_lines.proofs.parts.lines_back.Goals as goal

pub restored_map-requires-clause-inside : goal.restored_map-requires-clause-inside
restored_map-requires-clause-inside g c = λ along.
    let w = route_model c.args.on.now.route in
    let lines = c.args.kept.now.lines in
    subst (λ last. KeysAre (IsLine last) lines)
    (same_last g.A.Axis.along g.B.Axis.along g.met.A.Axis.lawful g.met.B.Axis.lawful (both_of w.is_edited (is_along w.along g.B.Axis.along)
    (sym c.goes_along-along.ensures ∙ along)).1)
    c.requires.inside

pub returns-clause-lines : goal.returns-clause-lines
returns-clause-lines g c =
    let w = route_model c.args.on.now.route in
    let kept = c.args.kept.now.lines in
    IfOk-weaker c.restored_map.result _ _ (λ output is. is ∙ ap (λ l. overlaid l (moved_map (line_goes g.B.Axis.along (back w)) (line_goes g.B.Axis.along w)
    c.args.lines.now)) (rekeyed_own int_cmp_total int_cmp-IsAntisymmetric (lost_along c.goes_along-along.result kept)
    ∙ ap (λ along. lost_along along kept) c.goes_along-along.ensures)) c.restored_map.ensures.map
