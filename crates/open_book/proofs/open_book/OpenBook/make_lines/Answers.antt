use Rattle.std.proofs.Common.{sym, subst}
use Rattle.base_values.specs.Answers.{Edits}
use Rattle.line_edits.specs.Edit.{IsValid}
use Rattle.sheet_history.specs.declared.Diff.TheVariants.{Lines as LinesDiff}
use Rattle.sheet_history.specs.laws.Depth.{AreShallowLines}
use Rattle.sheet_history.specs.LineDiffs.{along_of}
use Rattle.sheet_wire.specs.laws.Fitting.{IsKeptOfLines}
use Rattle.sheet_wire.specs.laws.Fitting.{known_diff}
use Rattle.sheet_history.specs.laws.LineRecords.{along_lawful}
use Rattle.sheet_history.specs.laws.LineLaws.{kept_shallow}
use Rattle.sheet_actions.specs.laws.Placed.{placed_from_well_formed}
use Rattle.open_book.specs.Opened.{document_in}
use Rattle.open_book.specs.Encodable.{AreEncodable}
use Rattle.open_book.proofs.KeptLines.{kept_of_lines}
use Rattle.open_book.proofs.LinePlans.{sheet_there}
use Rattle.open_book.proofs.LineSteps.{kept_along, list_is, installed_document}
use Rattle.open_book.proofs.Moving.{on_ok}
use Rattle.open_book.proofs.open_book.OpenBook.make_lines.Goals as goal

pub line_edit-requires-clause-valid : goal.line_edit-requires-clause-valid
line_edit-requires-clause-valid g c = subst (λ a. IsValid a.last c.args.edit.now.kind) (sym c.requires.along) c.requires.edit.valid

pub line_edit-requires-clause-there : goal.line_edit-requires-clause-there
line_edit-requires-clause-there g c = sheet_there (along_of c.args.axis) c.args.edit.now.kind _ c.requires.edit.there

pub line_edit-requires-clause-placed : goal.line_edit-requires-clause-placed
line_edit-requires-clause-placed g c = placed_from_well_formed c.args.self.now.workbook c.requires.edit.rules

pub lines_change-requires-clause-canonical : goal.lines_change-requires-clause-canonical
lines_change-requires-clause-canonical g c = (c.in_ok-later.ensures {u = _}).numbers

pub lines_change-requires-clause-known : goal.lines_change-requires-clause-known
lines_change-requires-clause-known g c =
    let it = c.in_ok-later.ensures {u = _} in
    let a = along_of c.args.axis in
    let kind = c.args.edit.now.kind in
    let book = c.args.self.now.workbook in
    let kept_is = sym (kept_along _ c.args.axis c.requires.along kind c.args.id c.in_ok-later.kept book it.kept) in
    known_diff (LinesDiff c.args.id c.args.axis kind c.in_ok-later.kept) it.numbers
    (subst AreShallowLines kept_is (kept_shallow a (along_lawful c.args.axis) kind c.requires.edit.valid c.args.id book c.requires.edit.rules))
    (subst IsKeptOfLines kept_is (kept_of_lines a kind c.args.id book c.requires.edit.rules))

pub returns-clause-document : goal.returns-clause-document
returns-clause-document g c =
    let it = c.in_ok-later.ensures {u = _} in
    let doc = document_in c.args.self.now in
    let kind = c.args.edit.now.kind in
    let record_is =
    list_is _ c.args.axis c.requires.along kind c.args.id c.in_ok-later.kept c.args.self.now.workbook it.kept c.in_ok-list.list (c.in_ok-list.ensures {u = _}).output.done in
    subst (Edits c.put_later.result doc (document_in c.put_later.new.self))
    (installed_document _ c.args.axis c.requires.along kind c.args.id doc c.in_ok-later.later c.in_ok-list.list it.workbook record_is) c.put_later.ensures.document

pub returns-clause-encodable : goal.returns-clause-encodable
returns-clause-encodable g c =
    let it = c.in_ok-later.ensures {u = _} in
    let record_is =
    list_is _ c.args.axis c.requires.along c.args.edit.now.kind c.args.id c.in_ok-later.kept c.args.self.now.workbook it.kept c.in_ok-list.list (c.in_ok-list.ensures {u = _}).output.done in
    on_ok c.put_later.result (subst AreEncodable record_is (c.in_ok-list.ensures {u = _}).encodable)
