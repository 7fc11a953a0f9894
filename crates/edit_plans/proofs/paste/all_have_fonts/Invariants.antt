use Rattle.std.proofs.Common.{◌≡◌, Vec, Global, true, take}
use Rattle.std.specs.List.{list_all}
use Rattle.base_styles.specs.declared.Style.{Style}
use Rattle.sheet_rules.specs.WellFormed.{has_font}
use Rattle.edit_plans.proofs.paste.all_have_fonts.Given as goal

abbrev pub invariant-loop-row : goal.invariant-loop-row
invariant-loop-row l = list_all (λ (row : Vec Style Global). list_all has_font row.items) (take l.row-index l.styles) ≡ true
