use Rattle.std.proofs.Common.{◌≡◌, Ok, Err, ap, refl, sym, subst, ◌∙◌, w32, SFits}
use Rattle.std.specs.Prelude.{IsTrue}
use Rattle.std.proofs.lemmas.Int.{to_z-of_z}
use Rattle.std.proofs.lemmas.Result.{err_from_is_err_and}
use Rattle.base_values.specs.declared.EditError.{EditError}
use Rattle.base_values.specs.declared.EditError.TheVariants.{NoMemory}
use Rattle.base_values.specs.declared.Position.{Position}
use Rattle.base_axis.specs.declared.MergedCell.{MergedCell}
use Rattle.base_axis.specs.Rectangles.{anchor_place}
use Rattle.formula_read.specs.Formula.{formula_of, without_equals}
use Rattle.cell_content.specs.Fitting.{tree_fits_at}
use Rattle.edit_plans.specs.Edits.{Edit}
use Rattle.edit_plans.specs.Edits.Edit.{ArrayInput}
use Rattle.open_book.specs.Machine.{edit_of}
use Rattle.user_model.specs.Places.{array_goes}
use Rattle.user_model.specs.Reading.{formula_typed, profile_at, rectangle}
use Rattle.open_book.specs.Stands.{Moves}
use Rattle.open_book.specs.Values.{Session}
use Rattle.user_model.proofs.Inputs.{array_refused, array_accepted, refused_moves, short_moves}
use Rattle.user_model.proofs.user_model.UserModel.set_user_array_formula.Goals as goal

pub returns-in_err-place-clause-next : goal.returns-in_err-place-clause-next
returns-in_err-place-clause-next g c =
    let row_fits : SFits w32 c.args.row = c.ranges.row in
    let column_fits : SFits w32 c.args.column = c.ranges.column in
    let width_fits : SFits w32 c.args.width = c.ranges.width in
    let height_fits : SFits w32 c.args.height = c.ranges.height in
    let doc = c.args.self.now.document in
    let r = rectangle c.args.row c.args.column c.args.width c.args.height in
    let error = c.in_err-place.field-0.0 in
    let area_is : c.rectangle-area.result ≡ r = simp to_z-of_z at c.rectangle-area.ensures in
    let found : array_goes c.args.sheet r doc.book ≡ Err error =
    subst (λ (seen : Session). array_goes c.args.sheet r seen.document.book ≡ Err error) c.self.view_is
    (subst (λ (a : MergedCell). array_goes c.args.sheet a c.self.inside.book.workbook ≡ Err error) area_is (sym c.in_err-place.ensures.found)) in
    let p = err_from_is_err_and c.from_residual.result c.from_residual.ensures.1 in
    rw (p.1, p.2) (λ state stands.
    let edit : Edit = ArrayInput c.args.sheet r (formula_typed state.present state.language c.args.row c.args.column c.args.formula.now) in
    refused_moves edit doc state error stands refl (λ short. c.in_err-place.ensures.sure (ap Err short)) (array_refused c.args.sheet r doc.book _ error found))

pub returns-in_err-tree-clause-next : goal.returns-in_err-tree-clause-next
returns-in_err-tree-clause-next g c =
    let row_fits : SFits w32 c.args.row = c.ranges.row in
    let column_fits : SFits w32 c.args.column = c.ranges.column in
    let width_fits : SFits w32 c.args.width = c.ranges.width in
    let height_fits : SFits w32 c.args.height = c.ranges.height in
    let doc = c.args.self.now.document in
    let r = rectangle c.args.row c.args.column c.args.width c.args.height in
    let area_is : c.rectangle-area.result ≡ r = simp to_z-of_z at c.rectangle-area.ensures in
    let found : array_goes c.args.sheet r doc.book ≡ Ok r =
    subst (λ (seen : Session). array_goes c.args.sheet r seen.document.book ≡ Ok r) c.self.view_is
    (subst (λ (a : MergedCell). array_goes c.args.sheet a c.self.inside.book.workbook ≡ Ok a) area_is (sym (c.in_ok-place.ensures {u = _}).found)) in
    let short : c.in_err-tree.field-0.0 ≡ NoMemory = c.in_err-tree.ensures.memory in
    let p = err_from_is_err_and c.from_residual-in_err-tree.result c.from_residual-in_err-tree.ensures.1 in
    rw (p.1, p.2) (λ state stands.
    let edit : Edit = ArrayInput c.args.sheet r (formula_typed state.present state.language c.args.row c.args.column c.args.formula.now) in
    subst (λ (e : EditError). Moves {T = Unit {0}} (Err e) doc (edit_of edit state)) (sym short) (short_moves edit doc state stands refl (array_accepted c.args.sheet r doc.book _ r found)))

pub set_array-requires-clause-fits : goal.set_array-requires-clause-fits
set_array-requires-clause-fits g c = subst (λ (p : Position). IsTrue (tree_fits_at p c.in_ok-tree.tree)) (c.in_ok-place.ensures {u = _}).here (c.in_ok-tree.ensures {u = _}).fits

pub returns-clause-next : goal.returns-clause-next
returns-clause-next g c = λ state stands.
    let row_fits : SFits w32 c.args.row = c.ranges.row in
    let column_fits : SFits w32 c.args.column = c.ranges.column in
    let width_fits : SFits w32 c.args.width = c.ranges.width in
    let height_fits : SFits w32 c.args.height = c.ranges.height in
    let r = rectangle c.args.row c.args.column c.args.width c.args.height in
    let area_is : c.rectangle-area.result ≡ r = simp to_z-of_z at c.rectangle-area.ensures in
    let here = (c.in_ok-place.ensures {u = _}).here ∙ ap anchor_place area_is in
    let doc = ap (λ (seen : Session). seen.document) c.self.view_is ∙ stands.document in
    let same =
    (c.in_ok-tree.ensures {u = _}).value
    ∙ (λ i. formula_of (profile_at c.in_ok-place.place (c.locale.ensures i) c.self.inside.book.language) (without_equals c.args.formula.now))
    ∙ (λ i. formula_of (profile_at (here i) (doc i).book.locale (doc i).language) (without_equals c.args.formula.now)) in
    subst
    (λ (a : MergedCell). Moves c.set_array.result c.set_array.new.self.document (edit_of (ArrayInput c.args.sheet a (formula_typed state.present state.language c.args.row c.args.column c.args.formula.now)) state))
    area_is
    (subst (λ k. Moves c.set_array.result c.set_array.new.self.document (edit_of (ArrayInput c.args.sheet c.rectangle-area.result k) state)) same (c.set_array.ensures.next state stands))
