use Rattle.std.specs.FinMap.{entries}
use Rattle.base_wire.specs.laws.KeyOrder.{order_total, order_exact}
use Rattle.base_wire.specs.laws.MapFits.{keys_more, written_fits}
use Rattle.base_wire.proofs.map_writing.put_map.Goals as goal

pub returns-clause-fits : goal.returns-clause-fits
returns-clause-fits g c = λ known values.
    let same = g.met.X.MapKey.ordered in
    let map = g.X.MapKey.seen c.args.map.now in
    written_fits g.K.Part.Known g.P.Part.Known g.K.Part.Fits g.P.Part.Fits (order_total same g.met.X.Key.Ord.total) (order_exact same g.met.X.Key.Exact.equals g.met.X.Key.Ord.matches_eq) map c.iter.result c.iter.ensures.entries
    c.in_ok-put_entries.ensures.short c.in_ok-put_entries.ensures.each
    (keys_more g.X.MapKey.fits g.K.Part.Known known c.iter.result (entries map) c.iter.ensures.entries c.iter.ensures.inside) values
