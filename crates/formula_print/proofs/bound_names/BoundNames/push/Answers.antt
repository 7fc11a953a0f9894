use Rattle.std.proofs.Common.{◌++◌, ◌∷◌, [], sym, ap, subst, ◌∙◌}
use Rattle.formula_print.specs.FirstPlaces.{HoldsFirstPlaces, NotesPlace}
use Rattle.formula_print.proofs.FirstPlaces.{holds_pushed}
use Rattle.formula_print.proofs.bound_names.BoundNames.push.Goals as goal

pub invariant_of-self-in-Ok : goal.invariant_of-self-in-Ok
invariant_of-self-in-Ok c =
    subst (HoldsFirstPlaces c.note_place.new.places) (sym (c.in_ok-push.ensures.items ∙ ap (λ name. c.self.inside.names.items ++ name ∷ []) c.in_ok-clone.ensures))
    (holds_pushed c.self.inside.first_places c.note_place.new.places c.self.inside.names.items c.args.name.now c.self.invariant
    (subst (NotesPlace c.self.inside.first_places c.note_place.new.places c.args.name.now) (c.len-at.ensures ∙ c.self.inside.names.ok.0) c.in-Ok.ensures.ok))
