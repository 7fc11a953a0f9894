use Rattle.std.proofs.Common.{◌≡◌, true, false, refl, sym, subst, ◌∙◌}
use Rattle.std.specs.Prelude.{OnOk}
use Rattle.edit_plans.specs.Edits.{is_silent}
use Rattle.sheet_history.specs.declared.Setting.TheVariants as value
use Rattle.edit_plans.specs.Edits.Edit.{SetSetting}
use Rattle.open_book.specs.Values.{Session, Makes}
use Rattle.open_book.proofs.Moving.{silent_moves}
use Rattle.user_model.proofs.user_model.UserModel.set_name.Goals as goal

pub returns-then-is_own_name-clause-next : goal.returns-then-is_own_name-clause-next
returns-then-is_own_name-clause-next g c = λ state stands.
    let silent = subst (λ (seen : Session). is_silent (SetSetting (value.Name c.args.name.now)) seen.document.book ≡ true) c.self.view_is (sym c.is_own_name.ensures ∙ c.if-is_own_name.true) in
    silent_moves (SetSetting (value.Name c.args.name.now)) c.args.self.now.document state stands silent

pub returns-then-is_own_name-clause-output : goal.returns-then-is_own_name-clause-output
returns-then-is_own_name-clause-output g c =
    let silent = subst (λ (seen : Session). is_silent (SetSetting (value.Name c.args.name.now)) seen.document.book ≡ true) c.self.view_is (sym c.is_own_name.ensures ∙ c.if-is_own_name.true) in
    subst (λ b. Makes b g.R.Recalc.Fits c.args.self.now c.args.self.now) (sym silent) refl

pub put_name-requires : goal.put_name-requires
put_name-requires g c = subst (λ (seen : Session). is_silent (SetSetting (value.Name c.args.name.now)) seen.document.book ≡ false) c.self.view_is (sym c.is_own_name.ensures ∙ c.if-is_own_name.false)

pub returns-clause-output : goal.returns-clause-output
returns-clause-output g c =
    let loud = subst (λ (seen : Session). is_silent (SetSetting (value.Name c.args.name.now)) seen.document.book ≡ false) c.self.view_is (sym c.is_own_name.ensures ∙ c.if-is_own_name.false) in
    subst (λ b. OnOk c.put_name.result (Makes b g.R.Recalc.Fits c.args.self.now c.put_name.new.self)) (sym loud) c.put_name.ensures.output
