use Rattle.std.proofs.Common.{◌≡◌, true, rules}
use Rattle.sheet_history.specs.declared.diff.DiffType.TheVariants.{Undo}
use Rattle.sheet_history.specs.Untested.{keeps_rules}
use Rattle.sheet_history.specs.laws.TestedLaws.{book_before-untested_before}
use Rattle.sheet_history.proofs.follow.follow_back.Goals as goal

pub returns-then-keeps_rules : goal.returns-then-keeps_rules
returns-then-keeps_rules c =
    let keeps : keeps_rules Undo c.args.workbook.now c.args.list.now ≡ true = search rules in
    rw (book_before-untested_before c.args.workbook.now c.args.list.now keeps c.requires.rules) c.back_in_place.ensures
