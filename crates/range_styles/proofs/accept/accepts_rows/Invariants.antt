use Rattle.std.proofs.Common.{◌≡◌}
use Rattle.planned_maps.specs.laws.PlanWalks.{rows_all}
use Rattle.range_styles.specs.Styled.{place_accepts}
use Rattle.range_styles.proofs.accept.accepts_rows.Given as goal

-- the places of the rows passed decide so far
abbrev pub invariant-loop-index : goal.invariant-loop-index
invariant-loop-index g l = l.all ≡ rows_all (place_accepts l.range (g.C.StyleChange.takes l.change) l.sheet) l.range.area l.index
