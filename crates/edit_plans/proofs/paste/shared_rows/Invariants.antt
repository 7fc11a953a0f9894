use Rattle.std.proofs.Common.{◌≡◌, Vec, Global, map, take}
use Rattle.base_styles.specs.declared.Style.{Style}
use Rattle.edit_plans.proofs.paste.shared_rows.Given as goal

abbrev pub invariant-loop-row : goal.invariant-loop-row
invariant-loop-row l = l.rows ≡ map (λ (row : Vec Style Global). row.items) (take l.row-index l.styles)
