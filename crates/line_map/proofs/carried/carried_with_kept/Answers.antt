use Rattle.std.proofs.Common.{rules, ap, ◌++◌, [], sym, ◌∙◌}
use Rattle.std.specs.List.{cons_option}
use Rattle.base_maps.specs.laws.Gathering.{lost_gathered, with_made}
use Rattle.base_maps.specs.laws.Inverses.{own_inverse}
use Rattle.base_maps.specs.laws.Loops.{made_on, made_all}
use Rattle.base_maps.specs.laws.Listed.{listed_held, listed_on, listed_all}
use Rattle.line_map.specs.Keys.{rekeyed}
use Rattle.line_map.specs.laws.UnderLaws.{rekeyed_made, rekeyed_none}
use Rattle.line_routes.specs.RouteModel.{route_model}
use Rattle.line_map.proofs.carried.carried_with_kept.Goals as goal

pub carried_and_kept-requires-clause-inside : goal.carried_and_kept-requires-clause-inside
carried_and_kept-requires-clause-inside g c =
    let keys = g.met.K.RouteKeys.are_keys in
    c.requires.places _ _ (listed_held keys.total keys.exact c.loop-from.invariant.0 c.next.new.self
    (c.in-Some.from, c.in-Some.item) c.in-Some.is c.next.ensures.steps)

pub carried_and_kept-requires-clause-lies : goal.carried_and_kept-requires-clause-lies
carried_and_kept-requires-clause-lies g c =
    let keys = g.met.K.RouteKeys.are_keys in
    λ to there. c.requires.items _ to _ (listed_held keys.total keys.exact c.loop-from.invariant.0 c.next.new.self
    (c.in-Some.from, c.in-Some.item) c.in-Some.is c.next.ensures.steps) there

pub loop-from-init : goal.loop-from-init
loop-from-init g c =
    let keys = g.met.K.RouteKeys.are_keys in
    let own = g.met.K.MapKey.ordered in
    let listed = c.into_iter-from-iterator.ensures.into_iter_gives ∙ c.iter-from-items.ensures.entries in (
      search rules,
      (
        record { all = listed; now = ap rekeyed c.new-lost.ensures ∙ rekeyed_none keys.total keys.exact own g.met.K.Lost.MapKey.ordered },
        record { all = listed; now = ap rekeyed c.new-parts.ensures ∙ rekeyed_none keys.total keys.exact own g.met.K.Parts.MapKey.ordered },
      ),
    )

pub loop-from-preserved : goal.loop-from-preserved
loop-from-preserved g c =
    let keys = g.met.K.RouteKeys.are_keys in
    let own = g.met.K.MapKey.ordered in
    let inside = c.requires.places _ _ (listed_held keys.total keys.exact c.loop-from.invariant.0 c.next.new.self
    (c.in-Some.from, c.in-Some.item) c.in-Some.is c.next.ensures.steps) in (
      listed_on keys.total keys.exact c.loop-from.invariant.0 (c.in-Some.from, c.in-Some.item) c.in-Some.is c.next.ensures.steps
          (λ q there. keys.lands (route_model c.args.route.now) c.is_route.ensures c.in-Some.from.now q inside there)
          (c.in_ok-put_last.ensures.items ∙ ap (λ o. c.loop-from.output ++ cons_option o []) c.in_ok-moved.ensures.carried),
      (
        made_on keys.total keys.exact c.loop-from.invariant.1.0 own_inverse (c.in-Some.from, c.in-Some.item) c.in-Some.is c.next.ensures.steps
            (ap rekeyed (c.in_ok-put_made.ensures.map ∙ ap (λ e. with_made e (g.K.Lost.MapKey.seen c.loop-from.lost)) c.in_ok-moved.ensures.lost)
            ∙ rekeyed_made keys.total keys.exact own g.met.K.Lost.MapKey.ordered _ (g.K.Lost.MapKey.seen c.loop-from.lost)),
        made_on keys.total keys.exact c.loop-from.invariant.1.1 own_inverse (c.in-Some.from, c.in-Some.item) c.in-Some.is c.next.ensures.steps
            (ap rekeyed (c.in_ok-put_made-2.ensures.map ∙ ap (λ e. with_made e (g.K.Parts.MapKey.seen c.loop-from.parts)) c.in_ok-moved.ensures.part)
            ∙ rekeyed_made keys.total keys.exact own g.met.K.Parts.MapKey.ordered _ (g.K.Parts.MapKey.seen c.loop-from.parts)),
      ),
    )

pub returns-clause-carried : goal.returns-clause-carried
returns-clause-carried g c =
    let w = route_model c.args.route.now in
    let keys = g.met.K.RouteKeys.are_keys in
    c.in_ok-bring.ensures.carried ∙ ap (g.K.RouteKeys.with_brought w c.args.map.now)
    (sym (g.K.MapKey.model_seen c.in_ok-carried.carried) ∙ ap g.K.MapKey.model (c.in_ok-carried.ensures.map
    ∙ listed_all keys.total keys.exact c.loop-from.invariant.0 (keys.inverse w c.is_route.ensures) c.next.new.self c.in-None.is c.next.ensures.steps))

pub returns-clause-lost : goal.returns-clause-lost
returns-clause-lost g c =
    let keys = g.met.K.RouteKeys.are_keys in
    made_all keys.total keys.exact c.loop-from.invariant.1.0 own_inverse c.next.new.self c.in-None.is c.next.ensures.steps
    ∙ lost_gathered g.K.MapKey.order keys.total keys.exact (g.K.RouteKeys.goes (route_model c.args.route.now)) (g.K.MapKey.seen c.args.map.now)

pub returns-clause-parts : goal.returns-clause-parts
returns-clause-parts g c =
    let keys = g.met.K.RouteKeys.are_keys in
    made_all keys.total keys.exact c.loop-from.invariant.1.1 own_inverse c.next.new.self c.in-None.is c.next.ensures.steps
