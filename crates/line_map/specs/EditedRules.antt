-- The rules of the edited sheet, with the name of that sheet.
use Rattle.std.specs.Prelude.{ℕ, true, List, Option, Some}
use Rattle.std.specs.Ordering.{nat_cmp}
use Rattle.std.specs.FinMap.{FinMap}
use Rattle.format_rules.specs.declared.ConditionalFormatting.{ConditionalFormatting}
use Rattle.line_routes.specs.RouteModel.{RouteModel}
use Rattle.line_map.specs.declared.edited_rules.EditedRules.{EditedRules}
use Rattle.line_map.specs.Rules.{rules_carried, rules_kept, rules_restored, RulesInside}

-- how the map meets what stands on the edited sheet, which has this name
abbrev pub route_on : RouteModel → List ℕ → RouteModel
route_on w edited = record w { edited = edited; is_edited = true }

abbrev pub edited_carried : RouteModel → EditedRules → EditedRules
edited_carried w v = record v { rules = rules_carried (route_on w v.edited) v.rules }

abbrev pub edited_part : RouteModel → EditedRules → Option (FinMap nat_cmp ConditionalFormatting)
edited_part w v = Some (rules_kept (route_on w v.edited) v.rules)

abbrev pub edited_restored : RouteModel → EditedRules → FinMap nat_cmp ConditionalFormatting → EditedRules
edited_restored w v kept = record v { rules = rules_restored (route_on w v.edited) kept v.rules }

abbrev pub EditedInside : EditedRules → Type 0
EditedInside v = RulesInside v.rules
