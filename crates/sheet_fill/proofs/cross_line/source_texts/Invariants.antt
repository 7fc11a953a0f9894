use Rattle.std.proofs.Common.{◌≡◌, map}
use Rattle.std.specs.Prelude.{string_bytes}
use Rattle.sheet_fill.specs.Targets.{texts}
use Rattle.sheet_fill.proofs.cross_line.source_texts.Given as goal

-- the texts of the places passed
abbrev pub invariant-loop-index : goal.invariant-loop-index
invariant-loop-index g l = map string_bytes l.texts.items ≡ texts g.A.Axis.along l.fill.range l.fill.locale l.fill.language l.fill.sheet.now l.at l.index
