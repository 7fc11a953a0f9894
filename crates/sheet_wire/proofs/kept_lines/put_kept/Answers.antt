use Rattle.base_wire.specs.laws.MapFits.{any_option}
use Rattle.sheet_wire.proofs.kept_lines.put_kept.Goals as goal

pub returns-clause-fits : goal.returns-clause-fits
returns-clause-fits c = λ known. record {
  cells = c.in_ok-put.ensures.fits (record { keys = λ key. tt; values = known.cells });
  links = c.in_ok-put-2.ensures.fits (record { keys = λ key. tt; values = λ place. any_option _ });
  lines = c.in_ok-put-3.ensures.fits (record { keys = λ key. tt; values = known.lines });
  formulas = c.in_ok-put-4.ensures.fits (record { keys = λ key. tt; values = known.formulas });
  merges = c.in_ok-put_kept_merges.ensures.fits;
  formattings = c.in_ok-put-5.ensures.fits (record { keys = λ key. tt; values = known.formattings });
}
