use Rattle.std.proofs.Common.{sym, subst}
use Rattle.std.specs.Prelude.{IfSome}
use Rattle.script_lines.specs.CommandFits.{IsNamed}
use Rattle.script_lines.proofs.Fitting.{reference_fits}
use Rattle.script_lines.proofs.reference.read_reference.Goals as goal

pub returns-clause-named : goal.returns-clause-named
returns-clause-named c =
    subst (λ found. IfSome found (λ place. IsNamed place.row place.column)) (sym c.reference_of.ensures) (reference_fits c.args.bytes.now)
