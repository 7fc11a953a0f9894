use Rattle.std.proofs.Common.{ap, sym, ◌∙◌}
use Rattle.std.specs.List.{list_all}
use Rattle.base_values.specs.Places.{is_line}
use Rattle.sheet_rules.specs.laws.InsideLaws.{lines_pass}
use Rattle.sheet_rules.proofs.rules.are_lines.Goals as goal

pub returns : goal.returns
returns g c = sym (ap (list_all (λ entry. is_line g.A.Axis.along.last entry.0)) (sym c.iter.ensures.entries) ∙ lines_pass _ _ c.iter.ensures.inside)
