use Rattle.std.proofs.Common.{sym, subst}
use Rattle.sheet_fill.specs.Plans.{CanonicalFill}
use Rattle.sheet_fill.proofs.CanonicalFills.{canonical_none}
use Rattle.sheet_fill.proofs.cross_line.fill_places.Goals as goal

pub put_lines-requires-clause-canonical : goal.put_lines-requires-clause-canonical
put_lines-requires-clause-canonical g c = subst CanonicalFill (sym c.requires.cells) canonical_none
