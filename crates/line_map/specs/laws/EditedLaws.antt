-- The law of followers for the rules of the edited sheet.
use Rattle.std.proofs.Common.{◌≡◌, ap, sym, ◌∙◌}
use Rattle.std.specs.Ordering.{nat_cmp}
use Rattle.std.specs.FinMap.{FinMap}
use Rattle.format_rules.specs.declared.ConditionalFormatting.{ConditionalFormatting}
use Rattle.line_routes.specs.RouteModel.{RouteModel, IsRoute}
use Rattle.line_map.specs.declared.edited_rules.EditedRules.{EditedRules}
use Rattle.line_map.specs.EditedRules.{route_on, edited_carried, edited_part, edited_restored, EditedInside}
use Rattle.line_map.specs.Rules.{rules_carried, rules_kept, rules_restored}
use Rattle.line_map.specs.laws.RuleLaws.{rules_stay, rules_regained}
use Rattle.std.specs.Prelude.{Some}

pub edited_stay : (w : RouteModel) → IsRoute w → (v : EditedRules) → EditedInside v → EditedInside (edited_carried w v)
edited_stay w is v lie = rules_stay (route_on w v.edited) (record { axis = is.axis; one_to_one = is.one_to_one }) v.rules lie

pub edited_restore : (w : RouteModel) (v : EditedRules) (kept : FinMap nat_cmp ConditionalFormatting) → edited_part w v ≡ Some kept → edited_restored w
    (edited_carried w v) kept ≡ v
edited_restore w v kept h =
    let same : rules_kept (route_on w v.edited) v.rules ≡ kept = cc in
    λ i. record v {
      rules = (ap (λ k. rules_restored (route_on w v.edited) k (rules_carried (route_on w v.edited) v.rules)) (sym same)
          ∙ rules_regained (route_on w v.edited) v.rules) i;
    }
