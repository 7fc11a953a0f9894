use Rattle.std.proofs.Common.{ap, ◌∙◌, Some}
use Rattle.std.specs.Prelude.{nat_eq}
use Rattle.std.specs.Option.{option_eq}
use Rattle.std.specs.BTreeMap.{get_by_text}
use Rattle.formula_print.proofs.bound_names.stands_first.Goals as goal

pub returns-in-Some : goal.returns-in-Some
returns-in-Some c = ap (λ found. option_eq nat_eq found (Some c.args.at)) (c.in-Some.ensures.value ∙ ap (get_by_text c.args.places.now) c.as_str.ensures)

pub returns-in-None : goal.returns-in-None
returns-in-None c = ap (λ found. option_eq nat_eq found (Some c.args.at)) (c.in-None.ensures.value ∙ ap (get_by_text c.args.places.now) c.as_str.ensures)
