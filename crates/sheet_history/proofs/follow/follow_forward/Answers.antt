use Rattle.std.proofs.Common.{◌≡◌, true, rules}
use Rattle.sheet_history.specs.declared.diff.DiffType.TheVariants.{Redo}
use Rattle.sheet_history.specs.Untested.{keeps_rules}
use Rattle.sheet_history.specs.laws.TestedLaws.{book_after-untested_after}
use Rattle.sheet_history.proofs.follow.follow_forward.Goals as goal

pub returns-then-keeps_rules : goal.returns-then-keeps_rules
returns-then-keeps_rules c =
    let keeps : keeps_rules Redo c.args.workbook.now c.args.list.now ≡ true = search rules in
    rw (book_after-untested_after c.args.workbook.now c.args.list.now keeps c.requires.rules) c.forward_in_place.ensures
