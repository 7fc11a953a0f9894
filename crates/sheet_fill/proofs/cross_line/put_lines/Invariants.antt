use Rattle.std.proofs.Common.{◌≡◌}
use Rattle.sheet_fill.specs.laws.FillWalks.{across_put}
use Rattle.sheet_fill.specs.Plans.{CanonicalFill}
use Rattle.sheet_fill.specs.Targets.{place_filled, place_linked}
use Rattle.sheet_fill.proofs.cross_line.put_lines.Given as goal

-- the targets of the cross lines passed are planned
abbrev pub invariant-loop-index : goal.invariant-loop-index
invariant-loop-index g l = record {
  cells : (l.cells ≡ across_put (place_filled g.A.Axis.along l.fill.range l.fill.locale l.fill.language l.fill.sheet.now) g.A.Axis.along l.fill.range l.index);
  links : (l.links ≡ across_put (place_linked g.A.Axis.along l.fill.range l.fill.sheet.now) g.A.Axis.along l.fill.range l.index);
  canonical : CanonicalFill l.cells;
}
