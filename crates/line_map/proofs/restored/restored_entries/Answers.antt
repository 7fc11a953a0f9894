use Rattle.std.proofs.Common.{ap, ◌++◌, [], ◌∙◌}
use Rattle.std.proofs.lemmas.Result.{IfOk-weaker}
use Rattle.std.specs.List.{cons_option}
use Rattle.base_maps.specs.laws.Inverses.{turned_inverse}
use Rattle.base_maps.specs.laws.Listed.{listed_held, listed_on, listed_all}
use Rattle.line_routes.specs.RouteModel.{back, route_model}
use Rattle.line_routes.specs.laws.RouteLaws.{back_is_route}
use Rattle.line_map.proofs.restored.restored_entries.Goals as goal

pub restored_entry-requires-clause-inside : goal.restored_entry-requires-clause-inside
restored_entry-requires-clause-inside g c =
    let keys = g.met.K.RouteKeys.are_keys in
    c.requires.lie.places _ _ (listed_held keys.total keys.exact c.loop-to.invariant c.next.new.self
    (c.in-Some.to, c.in-Some.item) c.in-Some.is c.next.ensures.steps)

pub restored_entry-requires-clause-lies : goal.restored_entry-requires-clause-lies
restored_entry-requires-clause-lies g c =
    let keys = g.met.K.RouteKeys.are_keys in
    λ from there. c.requires.lie.items _ from _ (listed_held keys.total keys.exact c.loop-to.invariant c.next.new.self
    (c.in-Some.to, c.in-Some.item) c.in-Some.is c.next.ensures.steps) there

pub loop-to-preserved : goal.loop-to-preserved
loop-to-preserved g c =
    let w = route_model c.args.route.now in
    let keys = g.met.K.RouteKeys.are_keys in
    let inside = c.requires.lie.places _ _ (listed_held keys.total keys.exact c.loop-to.invariant c.next.new.self
    (c.in-Some.to, c.in-Some.item) c.in-Some.is c.next.ensures.steps) in
    listed_on keys.total keys.exact c.loop-to.invariant (c.in-Some.to, c.in-Some.item) c.in-Some.is c.next.ensures.steps
    (λ q there. keys.lands (back w) (back_is_route w c.is_route.ensures) c.in-Some.to.now q inside there)
    (c.in_ok-put_last.ensures.items ∙ ap (λ o. c.loop-to.output ++ cons_option o []) c.in_ok-entry.ensures.entry)

pub of_entries-requires : goal.of_entries-requires
of_entries-requires g c = record { inside = c.loop-to.invariant.inside }

pub returns-clause-map : goal.returns-clause-map
returns-clause-map g c =
    let w = route_model c.args.route.now in
    let keys = g.met.K.RouteKeys.are_keys in
    IfOk-weaker c.of_entries.result _ _
    (λ output is. is ∙ listed_all keys.total keys.exact c.loop-to.invariant
    (turned_inverse (keys.inverse w c.is_route.ensures)) c.next.new.self c.in-None.is c.next.ensures.steps)
    c.of_entries.ensures.map
