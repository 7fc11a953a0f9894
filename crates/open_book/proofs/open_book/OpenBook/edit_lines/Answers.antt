use Rattle.std.proofs.Common.{ℕ, ap, refl, subst, Ok, Err}
use Rattle.std.specs.Prelude.{IsOk}
use Rattle.std.proofs.lemmas.Result.{err_from_is_err_and}
use Rattle.base_values.specs.Answers.{Edits}
use Rattle.line_edits.specs.declared.EditKind.{EditKind}
use Rattle.open_book.specs.Opened.{document_in}
use Rattle.open_book.proofs.LineSteps.{planned_along, plan_edit, plan_sound, planned_document, refused_document}
use Rattle.open_book.proofs.Moving.{changes_from, on_ok_map}
use Rattle.open_book.proofs.open_book.OpenBook.edit_lines.Goals as goal

pub returns-in_err-id-clause-document : goal.returns-in_err-id-clause-document
returns-in_err-id-clause-document g c =
    let p = err_from_is_err_and c.from_residual.result c.from_residual.ensures.1 in
    let error = c.in_err-id.field-0.0 in
    let plan = planned_along _ c.args.axis c.requires.along c.args.kind c.args.sheet c.args.self.now.workbook (Err error) c.in_err-id.ensures.planned in
    rw (p.1, p.2) (record {
      done = tt;
      refused = (refl, λ other. refused_document (document_in c.args.self.now) c.args.sheet c.args.axis c.args.kind error plan);
      memory = λ short. absurd (c.in_err-id.ensures.sure (ap Err short));
    })

pub make_lines-requires-clause-edit : goal.make_lines-requires-clause-edit
make_lines-requires-clause-edit g c =
    let book = c.args.self.now.workbook in
    let it : ℕ × EditKind = (c.in_ok-id.id, c.in_ok-id.edit.kind) in
    let plan = planned_along _ c.args.axis c.requires.along c.args.kind c.args.sheet book (Ok it) (c.in_ok-id.ensures {u = _}).planned in
    plan_edit c.args.sheet c.args.axis c.args.kind it book c.requires.rules plan

pub returns-clause-document : goal.returns-clause-document
returns-clause-document g c =
    let doc = document_in c.args.self.now in
    let it : ℕ × EditKind = (c.in_ok-id.id, c.in_ok-id.edit.kind) in
    let plan = planned_along _ c.args.axis c.requires.along c.args.kind c.args.sheet c.args.self.now.workbook (Ok it) (c.in_ok-id.ensures {u = _}).planned in
    let planned = planned_document c.args.sheet c.args.axis c.args.kind it doc c.requires.rules plan in
    changes_from c.make_lines.result doc (document_in c.make_lines.new.self) _ (subst IsOk planned refl)
    (subst (Edits c.make_lines.result doc (document_in c.make_lines.new.self)) planned c.make_lines.ensures.document)

pub returns-clause-sound : goal.returns-clause-sound
returns-clause-sound g c =
    let book = c.args.self.now.workbook in
    let it : ℕ × EditKind = (c.in_ok-id.id, c.in_ok-id.edit.kind) in
    let plan = planned_along _ c.args.axis c.requires.along c.args.kind c.args.sheet book (Ok it) (c.in_ok-id.ensures {u = _}).planned in
    on_ok_map c.make_lines.result (plan_sound c.args.sheet c.args.axis c.args.kind it book c.requires.rules plan) c.make_lines.ensures.encodable
