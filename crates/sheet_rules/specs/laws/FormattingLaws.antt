-- The conditional rules of a sheet that keeps the rules of its workbook are inside it.
use Rattle.std.proofs.Common.{◌≡◌, true, List, [], ◌∷◌}
use Rattle.std.specs.List.{All, list_all}
use Rattle.std.proofs.lemmas.List.Elements.{All-nil, All-cons}
use Rattle.format_rules.specs.declared.ConditionalFormatting.{ConditionalFormatting}
use Rattle.format_rules.specs.Fitting.{has_fitting_trees, has_parts, RuleInside}
use Rattle.format_rules.specs.laws.FittingLaws.{rule_inside}
use Rattle.sheet_grid.specs.Sheet.{Sheet}
use Rattle.sheet_rules.specs.WellFormed.{have_rule_trees, have_rule_parts}
use Rattle.sheet_rules.specs.laws.EntryLaws.{both}

each_stands : (formattings : List ConditionalFormatting) → list_all has_fitting_trees formattings ≡ true → list_all has_parts formattings ≡ true → All RuleInside formattings
each_stands [] trees parts = All-nil RuleInside
each_stands (formatting ∷ others) trees parts =
    let fit = both (has_fitting_trees formatting) (list_all has_fitting_trees others) trees in
    let on = both (has_parts formatting) (list_all has_parts others) parts in
    All-cons RuleInside formatting others (rule_inside formatting on.0 fit.0) (each_stands others fit.1 on.1)

-- each has a place and parts inside the sheet, and the corners of its formulas are inside there
pub rules_stand_inside : (sheet : Sheet) → have_rule_trees sheet ≡ true → have_rule_parts sheet ≡ true → All RuleInside sheet.formattings
rules_stand_inside sheet trees parts = each_stands sheet.formattings trees parts
