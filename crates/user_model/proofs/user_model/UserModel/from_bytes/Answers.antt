use Rattle.std.proofs.Common.{Ok, ap, sym, ◌∙◌}
use Rattle.std.proofs.lemmas.Result.{err_from_is_err_and}
use Rattle.user_model.proofs.Saved.{broken_opens, read_opens, unread_none, unread_opens}
use Rattle.user_model.proofs.user_model.UserModel.from_bytes.Goals as goal

pub returns-in_err-workbook-clause-opens : goal.returns-in_err-workbook-clause-opens
returns-in_err-workbook-clause-opens g c =
    let p = err_from_is_err_and c.from_residual-in_err-workbook.result c.from_residual-in_err-workbook.ensures.1 in
    rw (p.1, p.2) (λ book is. unread_opens c.args.bytes.now c.in_err-workbook.field-0.0 book _ c.in_err-workbook.ensures.read is)

pub returns-in_err-workbook-clause-none : goal.returns-in_err-workbook-clause-none
returns-in_err-workbook-clause-none g c =
    let p = err_from_is_err_and c.from_residual-in_err-workbook.result c.from_residual-in_err-workbook.ensures.1 in
    rw (p.1, p.2) (λ none. unread_none c.args.language.now c.in_ok-language.language (sym (c.in_ok-language.ensures {u = _}).value) c.args.bytes.now c.in_err-workbook.field-0.0 c.in_err-workbook.ensures.read)

pub returns-in_err-model-clause-opens : goal.returns-in_err-model-clause-opens
returns-in_err-model-clause-opens g c =
    let p = err_from_is_err_and c.from_residual-in_err-model.result c.from_residual-in_err-model.ensures.1 in
    rw (p.1, p.2)
    (broken_opens c.args.language.now c.in_ok-language.language (sym (c.in_ok-language.ensures {u = _}).value) c.args.bytes.now c.in_ok-workbook.workbook c.in_err-model.field-0.0 (c.in_ok-workbook.ensures {u = _}).read
    (sym c.in_err-model.ensures))

pub returns-in_err-model-clause-none : goal.returns-in_err-model-clause-none
returns-in_err-model-clause-none g c = λ none. absurd (none c.in_ok-workbook.workbook (c.in_ok-workbook.ensures {u = _}).read.encoded)

pub returns-clause-none : goal.returns-clause-none
returns-clause-none g c = λ none. absurd (none c.in_ok-workbook.workbook (c.in_ok-workbook.ensures {u = _}).read.encoded)

pub returns-clause-opens : goal.returns-clause-opens
returns-clause-opens g c =
    read_opens c.args.language.now c.in_ok-language.language (sym (c.in_ok-language.ensures {u = _}).value) c.args.bytes.now c.in_ok-workbook.workbook c.into_workbook.result c.open.result
    (c.in_ok-workbook.ensures {u = _}).read (sym c.in_ok-model.ensures ∙ ap Ok (sym c.into_workbook.ensures.now)) c.open.ensures.stands c.open.ensures.only
