use Rattle.std.proofs.Common.{◌≡◌, ◌++◌, subst}
use Rattle.std.specs.Prelude.{OnOk}
use Rattle.sheet_grid.specs.declared.Cell.{Cell}
use Rattle.script_dump.specs.Dump.{cell_line}
use Rattle.script_dump.proofs.dump.push_cell.Goals as goal

pub returns-clause-text : goal.returns-clause-text
returns-clause-text c =
    subst (λ (cell : Cell). OnOk c.push_cell_line.result (c.push_cell_line.new.out.items ≡ c.args.out.now.items ++ cell_line (c.args.place, cell))) c.get.ensures c.push_cell_line.ensures.text
