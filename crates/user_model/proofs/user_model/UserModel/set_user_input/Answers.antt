use Rattle.std.proofs.Common.{◌≡◌, Ok, Err, ap, refl, sym, subst, ◌∙◌, w32, SFits}
use Rattle.std.proofs.lemmas.Int.{to_z-of_z}
use Rattle.std.proofs.lemmas.Result.{err_from_is_err_and}
use Rattle.base_values.specs.declared.EditError.{EditError}
use Rattle.base_values.specs.declared.EditError.TheVariants.{NoMemory}
use Rattle.base_values.specs.declared.Position.{Position}
use Rattle.cell_input.specs.Inputs.{input_of}
use Rattle.line_sizes.specs.Heights.{line_feeds}
use Rattle.edit_plans.specs.Edits.{Edit}
use Rattle.edit_plans.specs.Edits.Edit.{Input}
use Rattle.edit_plans.specs.Inputs.{IsInput}
use Rattle.open_book.specs.Machine.{edit_of}
use Rattle.user_model.specs.Places.{input_goes}
use Rattle.user_model.specs.Reading.{profile_at, typed}
use Rattle.open_book.specs.Stands.{Moves}
use Rattle.open_book.specs.Values.{Session}
use Rattle.user_model.proofs.Inputs.{input_refused, input_accepted, refused_moves, short_moves}
use Rattle.user_model.proofs.Typed.{typed_input}
use Rattle.user_model.proofs.user_model.UserModel.set_user_input.Goals as goal

pub returns-in_err-place-clause-next : goal.returns-in_err-place-clause-next
returns-in_err-place-clause-next g c =
    let row_fits : SFits w32 c.args.row = c.ranges.row in
    let column_fits : SFits w32 c.args.column = c.ranges.column in
    let doc = c.args.self.now.document in
    let error = c.in_err-place.field-0.0 in
    let found =
    subst (λ (seen : Session). input_goes c.args.sheet c.args.row c.args.column seen.document.book ≡ Err error) c.self.view_is (sym (simp to_z-of_z at c.in_err-place.ensures.found)) in
    let p = err_from_is_err_and c.from_residual.result c.from_residual.ensures.1 in
    rw (p.1, p.2) (λ state stands.
    let edit : Edit = Input c.args.sheet c.args.row c.args.column (typed state.present state.language c.args.row c.args.column c.args.value.now) (line_feeds c.args.value.now) in
    refused_moves edit doc state error stands refl (λ short. c.in_err-place.ensures.sure (ap Err short)) (input_refused c.args.sheet c.args.row c.args.column doc.book _ (line_feeds c.args.value.now) error found))

pub returns-in_err-content-clause-next : goal.returns-in_err-content-clause-next
returns-in_err-content-clause-next g c =
    let row_fits : SFits w32 c.args.row = c.ranges.row in
    let column_fits : SFits w32 c.args.column = c.ranges.column in
    let doc = c.args.self.now.document in
    let place = c.in_ok-place.place in
    let found =
    subst (λ (seen : Session). input_goes c.args.sheet c.args.row c.args.column seen.document.book ≡ Ok place) c.self.view_is (sym (simp to_z-of_z at (c.in_ok-place.ensures {u = _}).found)) in
    let short : c.in_err-content.field-0.0 ≡ NoMemory = c.in_err-content.ensures.memory in
    let p = err_from_is_err_and c.from_residual-in_err-content.result c.from_residual-in_err-content.ensures.1 in
    rw (p.1, p.2) (λ state stands.
    let edit : Edit = Input c.args.sheet c.args.row c.args.column (typed state.present state.language c.args.row c.args.column c.args.value.now) (line_feeds c.args.value.now) in
    subst (λ (e : EditError). Moves {T = Unit {0}} (Err e) doc (edit_of edit state)) (sym short)
    (short_moves edit doc state stands refl (input_accepted c.args.sheet c.args.row c.args.column doc.book _ (line_feeds c.args.value.now) place found)))

pub set_content-requires-clause-input : goal.set_content-requires-clause-input
set_content-requires-clause-input g c =
    let row_fits : SFits w32 c.args.row = c.ranges.row in
    let column_fits : SFits w32 c.args.column = c.ranges.column in
    let here = sym (simp to_z-of_z at (c.in_ok-place.ensures {u = _}).here) in
    let it = c.in_ok-content.ensures {u = _} in
    simp to_z-of_z
    (subst (λ (p : Position). IsInput p.row p.column c.in_ok-content.content) (sym here) (typed_input c.in_ok-place.place _ c.args.value.now c.in_ok-content.content it.value it.fits))

pub returns-clause-next : goal.returns-clause-next
returns-clause-next g c = λ state stands.
    let row_fits : SFits w32 c.args.row = c.ranges.row in
    let column_fits : SFits w32 c.args.column = c.ranges.column in
    let here = simp to_z-of_z at (c.in_ok-place.ensures {u = _}).here in
    let doc = ap (λ (seen : Session). seen.document) c.self.view_is ∙ stands.document in
    let same =
    (c.in_ok-content.ensures {u = _}).value
    ∙ (λ i. input_of (profile_at c.in_ok-place.place (c.locale.ensures i) c.self.inside.book.language) c.args.value.now)
    ∙ (λ i. input_of (profile_at (here i) (doc i).book.locale (doc i).language) c.args.value.now) in
    subst (λ k. Moves c.set_content.result c.set_content.new.self.document (edit_of (Input c.args.sheet c.args.row c.args.column k (line_feeds c.args.value.now)) state)) same
    (subst (λ n. Moves c.set_content.result c.set_content.new.self.document (edit_of (Input c.args.sheet c.args.row c.args.column c.in_ok-content.content n) state)) c.line_feeds.ensures
    (simp to_z-of_z at (c.set_content.ensures.next state stands)))
