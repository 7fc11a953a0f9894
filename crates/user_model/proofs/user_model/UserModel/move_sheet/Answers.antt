use Rattle.std.proofs.Common.{◌≡◌, true, false, refl, sym, subst, ◌∙◌}
use Rattle.std.specs.Prelude.{OnOk}
use Rattle.edit_plans.specs.Edits.{is_silent}
use Rattle.edit_plans.specs.Edits.Edit.{MoveSheet}
use Rattle.open_book.specs.Values.{Session, Makes}
use Rattle.open_book.proofs.Moving.{silent_moves}
use Rattle.user_model.proofs.user_model.UserModel.move_sheet.Goals as goal

pub returns-then-stays_there-clause-next : goal.returns-then-stays_there-clause-next
returns-then-stays_there-clause-next g c = λ state stands.
    let silent = subst (λ (seen : Session). is_silent (MoveSheet c.args.from c.args.to) seen.document.book ≡ true) c.self.view_is (sym c.stays_there.ensures ∙ c.if-stays_there.true) in
    silent_moves (MoveSheet c.args.from c.args.to) c.args.self.now.document state stands silent

pub returns-then-stays_there-clause-output : goal.returns-then-stays_there-clause-output
returns-then-stays_there-clause-output g c =
    let silent = subst (λ (seen : Session). is_silent (MoveSheet c.args.from c.args.to) seen.document.book ≡ true) c.self.view_is (sym c.stays_there.ensures ∙ c.if-stays_there.true) in
    subst (λ b. Makes b g.R.Recalc.Fits c.args.self.now c.args.self.now) (sym silent) refl

pub take_sheet-requires : goal.take_sheet-requires
take_sheet-requires g c = subst (λ (seen : Session). is_silent (MoveSheet c.args.from c.args.to) seen.document.book ≡ false) c.self.view_is (sym c.stays_there.ensures ∙ c.if-stays_there.false)

pub returns-clause-output : goal.returns-clause-output
returns-clause-output g c =
    let loud = subst (λ (seen : Session). is_silent (MoveSheet c.args.from c.args.to) seen.document.book ≡ false) c.self.view_is (sym c.stays_there.ensures ∙ c.if-stays_there.false) in
    subst (λ b. OnOk c.take_sheet.result (Makes b g.R.Recalc.Fits c.args.self.now c.take_sheet.new.self)) (sym loud) c.take_sheet.ensures.output
