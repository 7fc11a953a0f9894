use Rattle.std.proofs.Common.{subst, ◌∙◌}
use Rattle.formula_print.specs.FirstPlaces.{HoldsFirstPlaces, DropsPlace}
use Rattle.formula_print.proofs.FirstPlaces.{holds_popped}
use Rattle.formula_print.proofs.bound_names.BoundNames.pop.Goals as goal

pub invariant_of-self : goal.invariant_of-self
invariant_of-self c =
    holds_popped c.self.inside.first_places c.drop_place.new.places c.pop.new.self.items c.in-Some.name
    (subst (HoldsFirstPlaces c.self.inside.first_places) c.in-Some.ensures.items c.self.invariant)
    (subst (DropsPlace c.self.inside.first_places c.drop_place.new.places c.in-Some.name) (c.len.ensures ∙ c.pop.new.self.ok.0) c.drop_place.ensures)
