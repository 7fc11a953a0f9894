use Rattle.std.proofs.Common.{subst}
use Rattle.base_values.specs.Answers.{Edits}
use Rattle.open_book.proofs.Recording.{untested}
use Rattle.open_book.proofs.install.follow.Goals as goal

pub returns-then-known : goal.returns-then-known
returns-then-known c =
    subst (Edits c.follow_untested.result c.args.workbook.now c.follow_untested.new.workbook) (untested c.args.kind c.args.workbook.now c.args.list.now (c.requires.works c.if-known.true)) c.follow_untested.ensures
