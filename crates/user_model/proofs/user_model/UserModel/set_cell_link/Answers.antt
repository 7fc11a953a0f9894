use Rattle.std.proofs.Common.{◌≡◌, Some, Ok, Err, ap, refl, sym, subst, w32, SFits}
use Rattle.std.proofs.lemmas.Int.{to_z-of_z}
use Rattle.std.proofs.lemmas.Result.{err_from_is_err_and}
use Rattle.base_values.specs.declared.EditError.{EditError}
use Rattle.base_values.specs.declared.EditError.TheVariants.{NoMemory}
use Rattle.edit_plans.specs.Edits.{Edit}
use Rattle.edit_plans.specs.Edits.Edit.{SetLink}
use Rattle.open_book.specs.Machine.{edit_of}
use Rattle.user_model.specs.Places.{link_goes}
use Rattle.user_model.specs.Reading.{link_to}
use Rattle.open_book.specs.Stands.{Moves}
use Rattle.open_book.specs.Values.{Session}
use Rattle.user_model.proofs.Inputs.{link_refused, link_accepted, refused_moves, short_moves}
use Rattle.user_model.proofs.user_model.UserModel.set_cell_link.Goals as goal

pub returns-in_err-_place-clause-next : goal.returns-in_err-_place-clause-next
returns-in_err-_place-clause-next g c =
    let row_fits : SFits w32 c.args.row = c.ranges.row in
    let column_fits : SFits w32 c.args.column = c.ranges.column in
    let doc = c.args.self.now.document in
    let error = c.in_err-_place.field-0.0 in
    let found =
    subst (λ (seen : Session). link_goes c.args.sheet c.args.row c.args.column seen.document.book ≡ Err error) c.self.view_is (sym (simp to_z-of_z at c.in_err-_place.ensures.found)) in
    let p = err_from_is_err_and c.from_residual.result c.from_residual.ensures.1 in
    rw (p.1, p.2) (λ state stands.
    let edit : Edit = SetLink c.args.sheet c.args.row c.args.column (Some (link_to c.args.target.now)) in
    refused_moves edit doc state error stands refl (λ short. c.in_err-_place.ensures.sure (ap Err short)) (link_refused c.args.sheet c.args.row c.args.column doc.book _ error found))

pub returns-in_err-link-clause-next : goal.returns-in_err-link-clause-next
returns-in_err-link-clause-next g c =
    let row_fits : SFits w32 c.args.row = c.ranges.row in
    let column_fits : SFits w32 c.args.column = c.ranges.column in
    let doc = c.args.self.now.document in
    let place = c.in_ok-_place._place in
    let found =
    subst (λ (seen : Session). link_goes c.args.sheet c.args.row c.args.column seen.document.book ≡ Ok place) c.self.view_is (sym (simp to_z-of_z at (c.in_ok-_place.ensures {u = _}).found)) in
    let short : c.in_err-link.field-0.0 ≡ NoMemory = c.in_err-link.ensures.only in
    let p = err_from_is_err_and c.from_residual-in_err-link.result c.from_residual-in_err-link.ensures.1 in
    rw (p.1, p.2) (λ state stands.
    let edit : Edit = SetLink c.args.sheet c.args.row c.args.column (Some (link_to c.args.target.now)) in
    subst (λ (e : EditError). Moves {T = Unit {0}} (Err e) doc (edit_of edit state)) (sym short)
    (short_moves edit doc state stands refl (link_accepted c.args.sheet c.args.row c.args.column doc.book _ place found)))

pub returns-clause-next : goal.returns-clause-next
returns-clause-next g c = λ state stands.
    let row_fits : SFits w32 c.args.row = c.ranges.row in
    let column_fits : SFits w32 c.args.column = c.ranges.column in
    subst (λ k. Moves c.put_link.result c.put_link.new.self.document (edit_of (SetLink c.args.sheet c.args.row c.args.column (Some k)) state)) (c.in_ok-link.ensures {u = _}).output
    (simp to_z-of_z at (c.put_link.ensures.next state stands))
