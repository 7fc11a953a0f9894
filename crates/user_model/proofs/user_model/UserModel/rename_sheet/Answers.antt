use Rattle.std.proofs.Common.{◌≡◌, true, false, refl, sym, subst, ◌∙◌}
use Rattle.std.specs.Prelude.{OnOk}
use Rattle.edit_plans.specs.Edits.{is_silent}
use Rattle.edit_plans.specs.Edits.Edit.{RenameSheet}
use Rattle.open_book.specs.Values.{Session, Makes}
use Rattle.open_book.proofs.Moving.{silent_moves}
use Rattle.user_model.proofs.user_model.UserModel.rename_sheet.Goals as goal

pub returns-then-is_named-clause-next : goal.returns-then-is_named-clause-next
returns-then-is_named-clause-next g c = λ state stands.
    let silent = subst (λ (seen : Session). is_silent (RenameSheet c.args.sheet c.args.name.now) seen.document.book ≡ true) c.self.view_is (sym c.is_named.ensures ∙ c.if-is_named.true) in
    silent_moves (RenameSheet c.args.sheet c.args.name.now) c.args.self.now.document state stands silent

pub returns-then-is_named-clause-output : goal.returns-then-is_named-clause-output
returns-then-is_named-clause-output g c =
    let silent = subst (λ (seen : Session). is_silent (RenameSheet c.args.sheet c.args.name.now) seen.document.book ≡ true) c.self.view_is (sym c.is_named.ensures ∙ c.if-is_named.true) in
    subst (λ b. Makes b g.R.Recalc.Fits c.args.self.now c.args.self.now) (sym silent) refl

pub name_sheet-requires : goal.name_sheet-requires
name_sheet-requires g c = subst (λ (seen : Session). is_silent (RenameSheet c.args.sheet c.args.name.now) seen.document.book ≡ false) c.self.view_is (sym c.is_named.ensures ∙ c.if-is_named.false)

pub returns-clause-output : goal.returns-clause-output
returns-clause-output g c =
    let loud = subst (λ (seen : Session). is_silent (RenameSheet c.args.sheet c.args.name.now) seen.document.book ≡ false) c.self.view_is (sym c.is_named.ensures ∙ c.if-is_named.false) in
    subst (λ b. OnOk c.name_sheet.result (Makes b g.R.Recalc.Fits c.args.self.now c.name_sheet.new.self)) (sym loud) c.name_sheet.ensures.output
