use Rattle.std.proofs.Common.{sym, ◌∙◌}
use Rattle.name_edits.specs.laws.Lists.{place_within}
use Rattle.name_edits.proofs.edits.known_place.Goals as goal

pub returns-in-Some-clause-within : goal.returns-in-Some-clause-within
returns-in-Some-clause-within c = place_within c.args.scope c.args.text.now c.args.names.now c.in-Some.place (sym c.place_of.ensures ∙ c.in-Some.is)
