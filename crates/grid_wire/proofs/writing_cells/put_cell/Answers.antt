use Rattle.std.proofs.Common.{subst}
use Rattle.grid_wire.specs.StyleBytes.{FitsStyle}
use Rattle.grid_wire.proofs.writing_cells.put_cell.Goals as goal

pub returns-clause-fits : goal.returns-clause-fits
returns-clause-fits c = λ known. record {
  content = c.in_ok-put_content.ensures.fits known.canonical known.shallow;
  style = subst FitsStyle c.get.ensures c.in_ok-put_style.ensures.fits;
}
