use Rattle.std.proofs.Common.{◌≡◌, ◌≤◌}
use Rattle.sheet_fill.specs.laws.FillWalks.{targets_put}
use Rattle.sheet_fill.specs.Plans.{CanonicalFill}
use Rattle.sheet_fill.specs.Targets.{open_count, place_filled, place_linked}
use Rattle.sheet_fill.proofs.cross_line.put_targets.Given as goal

-- the targets passed are planned, and those of them that are not covered are counted
abbrev pub invariant-loop-index : goal.invariant-loop-index
invariant-loop-index g l = record {
  cells : (l.cells ≡ targets_put (place_filled g.A.Axis.along l.fill.range l.fill.locale l.fill.language l.fill.sheet.now) g.A.Axis.along l.fill.range l.initial.cells l.at l.index);
  links : (l.links ≡ targets_put (place_linked g.A.Axis.along l.fill.range l.fill.sheet.now) g.A.Axis.along l.fill.range l.initial.links l.at l.index);
  counted : (l.number ≡ open_count g.A.Axis.along l.fill.range l.fill.sheet.now l.at l.index);
  few : (l.number ≤ l.index);
  canonical : CanonicalFill l.cells;
}
