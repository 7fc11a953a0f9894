use Rattle.std.proofs.Common.{ap, sym, ◌∙◌}
use Rattle.std.specs.List.{list_all}
use Rattle.base_values.specs.Places.{is_place}
use Rattle.sheet_rules.specs.laws.InsideLaws.{places_pass}
use Rattle.sheet_rules.proofs.rules.are_places.Goals as goal

pub returns : goal.returns
returns g c = sym (ap (list_all (λ entry. is_place entry.0)) (sym c.iter.ensures.entries) ∙ places_pass _ c.iter.ensures.inside)
