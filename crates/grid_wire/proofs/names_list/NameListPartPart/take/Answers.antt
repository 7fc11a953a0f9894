use Rattle.grid_wire.specs.laws.KnownLaws.{canonical_names_from_fit}
use Rattle.grid_wire.proofs.names_list.NameListPartPart.take.Goals as goal

pub new-requires : goal.new-requires
new-requires c = canonical_names_from_fit c.in_ok-items.items c.in_ok-items.ensures.fits
