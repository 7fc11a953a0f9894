use Rattle.sheet_rules.specs.laws.WellFormedLaws.{distinct_ids_from_well_formed}
use Rattle.sheet_lines.specs.Followed.{book_route}
use Rattle.sheet_lines.specs.laws.Stays.{edit_is_route}
use Rattle.sheet_ids.specs.Ids.{name_of, sheet_of}
use Rattle.sheet_actions.specs.laws.KeptFormulas.{keeps_exactly}
use Rattle.sheet_actions.specs.laws.Placed.{placed_from_well_formed}
use Rattle.sheet_actions.proofs.laws.formulas_are_kept.Goals as goal

pub returns : goal.returns
returns g c =
    let a = g.A.Axis.along in
    let book = c.args.workbook.now in
    record {
      kept = keeps_exactly (book_route a c.args.edit.now.kind c.args.sheet_id book)
          (edit_is_route a g.met.A.Axis.lawful c.args.edit.now.kind c.requires.valid c.args.sheet_id (name_of (sheet_of book c.args.sheet_id)))
          book (placed_from_well_formed book c.requires.rules) (distinct_ids_from_well_formed book c.requires.rules);
    }
