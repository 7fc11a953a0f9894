use Rattle.std.proofs.Common.{ap, length, subst, ◌∙◌}
use Rattle.std.specs.Prelude.{IfOk}
use Rattle.base_values.specs.Answers.{Edits, map_ok}
use Rattle.open_book.specs.Document.{Document}
use Rattle.open_book.specs.Machine.{looking}
use Rattle.open_book.specs.Opened.{document_in}
use Rattle.open_book.specs.Stands.{Moves}
use Rattle.open_book.specs.Values.{Session, seeing}
use Rattle.sheet_ids.specs.Views.{IsViewOf}
use Rattle.open_book.proofs.Moving.{sheet_seen}
use Rattle.open_book.specs.Views.{sheet_chosen}
use Rattle.user_model.proofs.user_model.UserModel.set_selected_sheet.Goals as goal

pub look-requires-clause-seen : goal.look-requires-clause-seen
look-requires-clause-seen g c =
    subst (λ (session : Session). IfOk c.choose_sheet-chosen.result (IsViewOf (length session.document.book.worksheets))) c.self.view_is
    (sheet_seen c.choose_sheet-chosen.result c.args.sheet (document_in c.self.inside.book) c.self.invariant c.choose_sheet-chosen.ensures.chosen)

pub returns-clause-seen : goal.returns-clause-seen
returns-clause-seen g c =
    let same = c.choose_sheet-chosen.ensures.chosen ∙ ap (λ (seen : Session). sheet_chosen c.args.sheet seen.document.book seen.document.view) c.self.view_is in
    subst (λ r. Edits c.look.result c.args.self.now c.look.new.self (map_ok (seeing c.args.self.now) r)) same c.look.ensures.seen

pub returns-clause-next : goal.returns-clause-next
returns-clause-next g c = λ state stands.
    let same = c.choose_sheet-chosen.ensures.chosen ∙ ap (λ (seen : Session). sheet_chosen c.args.sheet seen.document.book seen.document.view) c.self.view_is
    ∙ ap (λ (doc : Document). sheet_chosen c.args.sheet doc.book doc.view) stands.document in
    subst (λ r. Moves c.look.result c.look.new.self.document (looking r state)) same (c.look.ensures.next state stands)
