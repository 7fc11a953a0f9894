use Rattle.std.proofs.Common.{ap, ◌∙◌}
use Rattle.std.specs.Prelude.{is_some}
use Rattle.std.specs.List.{list_any}
use Rattle.std.specs.BTreeMap.{get_by_text}
use Rattle.base_tables.specs.Tables.{same_text}
use Rattle.formula_print.proofs.FirstPlaces.{is_some-position}
use Rattle.formula_print.proofs.bound_names.BoundNames.contains.Goals as goal

pub returns : goal.returns
returns c =
    c.contains_key.ensures
    ∙ ap (λ bs. is_some (get_by_text c.self.inside.first_places bs)) c.as_str.ensures
    ∙ ap is_some (c.self.invariant c.args.name.now)
    ∙ is_some-position (same_text c.args.name.now) c.self.inside.names.items
    ∙ ap (list_any (same_text c.args.name.now)) c.self.view_is
