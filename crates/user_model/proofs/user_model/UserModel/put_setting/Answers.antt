use Rattle.std.proofs.Common.{◌≡◌, false, refl, sym, subst}
use Rattle.edit_plans.specs.Edits.{is_silent}
use Rattle.edit_plans.specs.Edits.Edit.{SetSetting}
use Rattle.open_book.specs.Opened.{document_in}
use Rattle.open_book.specs.Values.{Session}
use Rattle.open_book.proofs.Moving.{reached_rules, sheet_plan_of}
use Rattle.user_model.proofs.user_model.UserModel.put_setting.Goals as goal

pub plan_setting-plan-requires : goal.plan_setting-plan-requires
plan_setting-plan-requires g c = record { rules = reached_rules (document_in c.self.inside.book) c.self.invariant }

pub make-requires : goal.make-requires
make-requires g c =
    let loud = subst (λ (seen : Session). is_silent (SetSetting c.args.setting) seen.document.book ≡ false) (sym c.self.view_is) c.requires in (
      SetSetting c.args.setting,
      sheet_plan_of _ c.plan_setting-plan.result _ c.self.inside.book c.self.inside.results _ c.self.view_is c.self.invariant (λ accepted. refl) c.sheet_edits_go_both_ways.ensures refl loud
          c.plan_setting-plan.ensures.planned,
    )

pub returns-clause-next : goal.returns-clause-next
returns-clause-next g c = λ state.
    let loud = subst (λ (seen : Session). is_silent (SetSetting c.args.setting) seen.document.book ≡ false) (sym c.self.view_is) c.requires in
    c.make.ensures.next _ state
    (sheet_plan_of (SetSetting c.args.setting) c.plan_setting-plan.result _ c.self.inside.book c.self.inside.results _ c.self.view_is c.self.invariant (λ accepted. refl) c.sheet_edits_go_both_ways.ensures refl loud
    c.plan_setting-plan.ensures.planned)
