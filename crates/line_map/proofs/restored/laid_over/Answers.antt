use Rattle.std.proofs.Common.{sym, ◌∙◌}
use Rattle.base_maps.specs.laws.Gathering.{nothing_overlaid}
use Rattle.base_maps.specs.laws.Loops.{laid_held, laid_on, laid_all}
use Rattle.line_map.specs.laws.UnderLaws.{rekeyed_found, rekeyed_listed}
use Rattle.line_map.proofs.restored.laid_over.Goals as goal

pub put_copy-requires : goal.put_copy-requires
put_copy-requires g c =
    let keys = g.met.K.RouteKeys.are_keys in
    c.requires _ _ (sym (rekeyed_found keys.total keys.exact g.met.K.MapKey.ordered g.met.K.Lost.MapKey.ordered (g.K.Lost.MapKey.seen c.args.over.now) _)
    ∙ laid_held keys.total keys.exact c.loop-key.invariant c.next.new.self (c.in-Some.key, c.in-Some.item) c.in-Some.is c.next.ensures.steps)

pub loop-key-init : goal.loop-key-init
loop-key-init g c =
    let keys = g.met.K.RouteKeys.are_keys in record {
      all = c.into_iter-key-iterator.ensures.into_iter_gives ∙ c.iter-key-items.ensures.entries ∙ sym
          (rekeyed_listed keys.total keys.exact g.met.K.MapKey.ordered g.met.K.Lost.MapKey.ordered (g.K.Lost.MapKey.seen c.args.over.now));
      now = sym (nothing_overlaid g.K.MapKey.order keys.total keys.exact (g.K.MapKey.seen c.args.map));
    }

pub loop-key-preserved : goal.loop-key-preserved
loop-key-preserved g c =
    let keys = g.met.K.RouteKeys.are_keys in
    laid_on keys.total keys.exact c.loop-key.invariant (c.in-Some.key, c.in-Some.item) c.in-Some.is c.next.ensures.steps c.in_ok-put_copy.ensures.map

pub returns-clause-map : goal.returns-clause-map
returns-clause-map g c =
    let keys = g.met.K.RouteKeys.are_keys in
    laid_all keys.total keys.exact c.loop-key.invariant c.next.new.self c.in-None.is c.next.ensures.steps
