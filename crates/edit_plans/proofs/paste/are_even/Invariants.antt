use Rattle.std.proofs.Common.{◌≡◌, Vec, Global, true, length, take}
use Rattle.std.specs.Prelude.{◌==◌}
use Rattle.std.specs.List.{list_all}
use Rattle.base_styles.specs.declared.Style.{Style}
use Rattle.edit_plans.proofs.paste.are_even.Given as goal

abbrev pub invariant-loop-row : goal.invariant-loop-row
invariant-loop-row l = list_all (λ (row : Vec Style Global). length row.items == l.width) (take l.row-index l.styles) ≡ true
