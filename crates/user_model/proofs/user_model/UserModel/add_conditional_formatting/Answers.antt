use Rattle.std.proofs.Common.{refl}
use Rattle.rule_edits.specs.RuleEdits.RuleEdit.{Add}
use Rattle.edit_plans.specs.Edits.Edit.{EditRules}
use Rattle.open_book.specs.Opened.{document_in}
use Rattle.open_book.proofs.Moving.{reached_rules, sheet_plan_of}
use Rattle.user_model.proofs.user_model.UserModel.add_conditional_formatting.Goals as goal

pub plan_new_rule-plan-requires : goal.plan_new_rule-plan-requires
plan_new_rule-plan-requires g c = record { rules = reached_rules (document_in c.self.inside.book) c.self.invariant; numbers = c.requires }

pub make-requires : goal.make-requires
make-requires g c = (
  EditRules (Add c.args.sheet c.args.parts.now c.args.rule.now),
  sheet_plan_of _ c.plan_new_rule-plan.result _ c.self.inside.book c.self.inside.results _ c.self.view_is c.self.invariant (λ accepted. refl) c.sheet_edits_go_both_ways.ensures refl refl
      c.plan_new_rule-plan.ensures.planned,
)

pub returns-clause-next : goal.returns-clause-next
returns-clause-next g c = λ state.
    c.make.ensures.next _ state
    (sheet_plan_of (EditRules (Add c.args.sheet c.args.parts.now c.args.rule.now)) c.plan_new_rule-plan.result _ c.self.inside.book c.self.inside.results _ c.self.view_is c.self.invariant (λ accepted. refl) c.sheet_edits_go_both_ways.ensures refl refl
    c.plan_new_rule-plan.ensures.planned)
