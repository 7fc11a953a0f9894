use Rattle.std.proofs.Common.{rules, ◌≡◌, ◌+◌, [], ◌∷◌, ◌++◌, arith, take}
use Rattle.base_maps.specs.Carried.{settled}
use Rattle.line_map.specs.Lists.{items_restored}
use Rattle.line_routes.specs.RouteModel.{back, route_model}
use Rattle.base_maps.specs.laws.Lists.{zip_more, zip_all}
use Rattle.line_map.proofs.list.ItemsFollower.restore.Goals as goal

pub loop-i-preserved : goal.loop-i-preserved
loop-i-preserved g c =
    let carry = g.F.Follower.carry_of (back (route_model c.args.route.now)) in
    let restore = g.F.Follower.restore_of (route_model c.args.route.now) in
    let items = c.as_slice-items.result.now in
    let parts = c.as_slice-parts.result.now in
    let i = c.loop-i.i in
    let more : items_restored carry restore (take (i + 1) items) (take (i + 1) parts) ≡ items_restored carry restore (take i items) (take i parts) ++
    (settled carry restore c.index-parts-i.result c.index-items-i.result ∷ []) =
    zip_more (λ x part. settled carry restore part x) items parts i _ _ (omega arith) (omega arith) c.index-items-i.is c.index-parts-i.is in
    search (rules, more)

pub returns-clause-value : goal.returns-clause-value
returns-clause-value g c =
    let carry = g.F.Follower.carry_of (back (route_model c.args.route.now)) in
    let restore = g.F.Follower.restore_of (route_model c.args.route.now) in
    let items = c.as_slice-items.result.now in
    let parts = c.as_slice-parts.result.now in
    let all : items_restored carry restore (take c.loop-i.i items) (take c.loop-i.i parts) ≡ items_restored carry restore items parts =
    zip_all _ items parts c.loop-i.i (omega arith) in
    search (rules, all)
