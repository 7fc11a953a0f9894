use Rattle.std.proofs.Common.{sym, ap, ◌∙◌}
use Rattle.std.specs.Prelude.{is_some}
use Rattle.std.specs.String.{string_bytes}
use Rattle.std.specs.BTreeMap.{get_by_text}
use Rattle.formula_print.proofs.FirstPlaces.{notes_new}
use Rattle.formula_print.proofs.bound_names.note_place.Goals as goal

pub returns-in_ok-insert-clause-ok : goal.returns-in_ok-insert-clause-ok
returns-in_ok-insert-clause-ok c =
    notes_new c.args.places.now c.insert.new.self c.args.name.now c.args.at (string_bytes c.in_ok-from_str.field-0) (c.in_ok-from_str.ensures.ok ∙ c.as_str-then-not-contains_key.ensures)
    (sym (ap (λ bs. is_some (get_by_text c.args.places.now bs)) c.as_str.ensures) ∙ sym c.contains_key.ensures ∙ c.if-not-contains_key.true) c.in_ok-insert.ensures.updates
