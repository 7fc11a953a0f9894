use Rattle.std.proofs.Common.{ap, length, subst, ◌∙◌, w32, SFits}
use Rattle.std.specs.Prelude.{IfOk}
use Rattle.std.proofs.lemmas.Int.{to_z-of_z}
use Rattle.base_values.specs.Answers.{Edits, map_ok}
use Rattle.sheet_ids.specs.Views.{IsViewOf, range_chosen}
use Rattle.open_book.specs.Document.{Document}
use Rattle.open_book.specs.Machine.{looking}
use Rattle.open_book.specs.Opened.{document_in}
use Rattle.open_book.specs.Stands.{Moves}
use Rattle.open_book.specs.Values.{Session, seeing}
use Rattle.open_book.proofs.Moving.{range_seen, range_sure}
use Rattle.user_model.proofs.user_model.UserModel.set_selected_range.Goals as goal

pub look-requires-clause-sure : goal.look-requires-clause-sure
look-requires-clause-sure g c =
    let first_row_fits : SFits w32 c.args.first_row = c.ranges.first_row in
    let first_column_fits : SFits w32 c.args.first_column = c.ranges.first_column in
    let last_row_fits : SFits w32 c.args.last_row = c.ranges.last_row in
    let last_column_fits : SFits w32 c.args.last_column = c.ranges.last_column in
    range_sure c.with_range-chosen.result c.self.inside.book.view c.args.first_row c.args.first_column c.args.last_row c.args.last_column (simp to_z-of_z at c.with_range-chosen.ensures)

pub look-requires-clause-seen : goal.look-requires-clause-seen
look-requires-clause-seen g c =
    let first_row_fits : SFits w32 c.args.first_row = c.ranges.first_row in
    let first_column_fits : SFits w32 c.args.first_column = c.ranges.first_column in
    let last_row_fits : SFits w32 c.args.last_row = c.ranges.last_row in
    let last_column_fits : SFits w32 c.args.last_column = c.ranges.last_column in
    subst (λ (session : Session). IfOk c.with_range-chosen.result (IsViewOf (length session.document.book.worksheets))) c.self.view_is
    (range_seen c.with_range-chosen.result c.args.first_row c.args.first_column c.args.last_row c.args.last_column (document_in c.self.inside.book) c.self.invariant
    (simp to_z-of_z at c.with_range-chosen.ensures))

pub returns-clause-seen : goal.returns-clause-seen
returns-clause-seen g c =
    let first_row_fits : SFits w32 c.args.first_row = c.ranges.first_row in
    let first_column_fits : SFits w32 c.args.first_column = c.ranges.first_column in
    let last_row_fits : SFits w32 c.args.last_row = c.ranges.last_row in
    let last_column_fits : SFits w32 c.args.last_column = c.ranges.last_column in
    let same = simp to_z-of_z at c.with_range-chosen.ensures
    ∙ ap (λ (seen : Session). range_chosen seen.document.view c.args.first_row c.args.first_column c.args.last_row c.args.last_column) c.self.view_is in
    subst (λ r. Edits c.look.result c.args.self.now c.look.new.self (map_ok (seeing c.args.self.now) r)) same c.look.ensures.seen

pub returns-clause-next : goal.returns-clause-next
returns-clause-next g c = λ state stands.
    let first_row_fits : SFits w32 c.args.first_row = c.ranges.first_row in
    let first_column_fits : SFits w32 c.args.first_column = c.ranges.first_column in
    let last_row_fits : SFits w32 c.args.last_row = c.ranges.last_row in
    let last_column_fits : SFits w32 c.args.last_column = c.ranges.last_column in
    let same = simp to_z-of_z at c.with_range-chosen.ensures
    ∙ ap (λ (seen : Session). range_chosen seen.document.view c.args.first_row c.args.first_column c.args.last_row c.args.last_column) c.self.view_is
    ∙ ap (λ (doc : Document). range_chosen doc.view c.args.first_row c.args.first_column c.args.last_row c.args.last_column) stands.document in
    subst (λ r. Moves c.look.result c.look.new.self.document (looking r state)) same (c.look.ensures.next state stands)
