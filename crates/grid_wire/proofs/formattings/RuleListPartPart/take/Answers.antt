use Rattle.grid_wire.specs.laws.KnownLaws.{canonical_rules_from_fit}
use Rattle.grid_wire.proofs.formattings.RuleListPartPart.take.Goals as goal

pub new-requires : goal.new-requires
new-requires c = canonical_rules_from_fit c.in_ok-items.items c.in_ok-items.ensures.fits
