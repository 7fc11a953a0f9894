use Rattle.std.proofs.Common.{ap, ◌++◌, [], ◌∙◌, sym}
use Rattle.std.specs.List.{cons_option}
use Rattle.line_routes.specs.RouteModel.{route_model}
use Rattle.base_maps.specs.laws.Listed.{listed_held, listed_on, listed_all}
use Rattle.line_map.proofs.carried.carried_map.Goals as goal

pub carried_entry-requires-clause-inside : goal.carried_entry-requires-clause-inside
carried_entry-requires-clause-inside g c =
    let keys = g.met.K.RouteKeys.are_keys in
    c.requires.places _ _ (listed_held keys.total keys.exact c.loop-from.invariant c.next.new.self
    (c.in-Some.from, c.in-Some.item) c.in-Some.is c.next.ensures.steps)

pub carried_entry-requires-clause-lies : goal.carried_entry-requires-clause-lies
carried_entry-requires-clause-lies g c =
    let keys = g.met.K.RouteKeys.are_keys in
    λ to there. c.requires.items _ to _ (listed_held keys.total keys.exact c.loop-from.invariant c.next.new.self
    (c.in-Some.from, c.in-Some.item) c.in-Some.is c.next.ensures.steps) there

pub loop-from-preserved : goal.loop-from-preserved
loop-from-preserved g c =
    let keys = g.met.K.RouteKeys.are_keys in
    let inside = c.requires.places _ _ (listed_held keys.total keys.exact c.loop-from.invariant c.next.new.self
    (c.in-Some.from, c.in-Some.item) c.in-Some.is c.next.ensures.steps) in
    listed_on keys.total keys.exact c.loop-from.invariant (c.in-Some.from, c.in-Some.item) c.in-Some.is c.next.ensures.steps
    (λ q there. keys.lands (route_model c.args.route.now) c.is_route.ensures c.in-Some.from.now q inside there)
    (c.in_ok-put_last.ensures.items ∙ ap (λ o. c.loop-from.output ++ cons_option o []) c.in_ok-carried_entry.ensures.entry)

pub returns-clause-map : goal.returns-clause-map
returns-clause-map g c =
    let w = route_model c.args.route.now in
    let keys = g.met.K.RouteKeys.are_keys in
    c.in_ok-bring.ensures.carried ∙ ap (g.K.RouteKeys.with_brought w c.args.map.now)
    (sym (g.K.MapKey.model_seen c.in_ok-carried.carried) ∙ ap g.K.MapKey.model (c.in_ok-carried.ensures.map
    ∙ listed_all keys.total keys.exact c.loop-from.invariant (keys.inverse w c.is_route.ensures) c.next.new.self c.in-None.is c.next.ensures.steps))
