use Rattle.sheet_grid.proofs.Canonicals.{indexed_after}
use Rattle.sheet_grid.proofs.cell_map.CellMap.put.Goals as goal

pub invariant_of-self : goal.invariant_of-self
invariant_of-self c =
    indexed_after c.put_both.result c.self.inside.cells c.put_both.new.cells c.self.inside.arrays c.put_both.new.arrays c.args.place c.args.entry
    c.self.invariant c.requires.canonical c.put_both.ensures.cells c.put_both.ensures.arrays c.put_both.ensures.cells_stay c.put_both.ensures.arrays_stay
