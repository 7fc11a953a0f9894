-- The formulas of a rule: what holds of each, whether each passes a test, and the rule with each of them changed.
use Rattle.std.specs.Prelude.{Bool, true, ◌&&◌, IfSome, map}
use Rattle.std.specs.List.{All, list_all}
use Rattle.std.specs.Option.{option_map, option_map_or}
use Rattle.formula_tree.specs.declared.Node.{Node}
use Rattle.format_rules.specs.declared.threshold.Cfvo.{Cfvo}
use Rattle.format_rules.specs.declared.threshold.Cfvo.TheVariants as cfvo
use Rattle.format_rules.specs.declared.threshold.ColorThreshold.{ColorThreshold}
use Rattle.format_rules.specs.declared.threshold.IconThreshold.{IconThreshold}
use Rattle.format_rules.specs.declared.rule.CfRule.{CfRule}
use Rattle.format_rules.specs.declared.rule.CfRule.TheVariants.{Formula, CellIs, ColorScale, DataBar, IconSet, IconRating}

-- ---- what holds of each

abbrev pub CfvoHas : (Node → Type 0) → Cfvo → Type 0
CfvoHas P cfvo.Min = Unit {0}
CfvoHas P cfvo.Max = Unit {0}
CfvoHas P (cfvo.Number number) = Unit {0}
CfvoHas P (cfvo.Percent number) = Unit {0}
CfvoHas P (cfvo.Percentile number) = Unit {0}
CfvoHas P (cfvo.Formula tree) = P tree

-- it holds of each formula of a rule
abbrev pub HasTrees : (Node → Type 0) → CfRule → Type 0
HasTrees P (Formula formula style stop) = P formula
HasTrees P (CellIs operator formula formula2 style stop) = P formula × IfSome formula2 P
HasTrees P (ColorScale thresholds) = All (λ (threshold : ColorThreshold). CfvoHas P threshold.cfvo) thresholds
HasTrees P (DataBar min max positive negative gradient show) = IfSome min (CfvoHas P) × IfSome max (CfvoHas P)
HasTrees P (IconSet icons thresholds show) = All (λ (threshold : IconThreshold). CfvoHas P threshold.cfvo) thresholds
HasTrees P (IconRating icon color thresholds show) = All (λ (threshold : IconThreshold). CfvoHas P threshold.cfvo) thresholds

-- ---- whether each passes a test

abbrev pub cfvo_passes : (Node → Bool) → Cfvo → Bool
cfvo_passes test cfvo.Min = true
cfvo_passes test cfvo.Max = true
cfvo_passes test (cfvo.Number number) = true
cfvo_passes test (cfvo.Percent number) = true
cfvo_passes test (cfvo.Percentile number) = true
cfvo_passes test (cfvo.Formula tree) = test tree

-- the value of each threshold of a rule passes
abbrev pub each_cfvo : (Cfvo → Bool) → CfRule → Bool
each_cfvo test (Formula formula style stop) = true
each_cfvo test (CellIs operator formula formula2 style stop) = true
each_cfvo test (ColorScale thresholds) = list_all (λ (threshold : ColorThreshold). test threshold.cfvo) thresholds
each_cfvo test (DataBar min max positive negative gradient show) = option_map_or test min true && option_map_or test max true
each_cfvo test (IconSet icons thresholds show) = list_all (λ (threshold : IconThreshold). test threshold.cfvo) thresholds
each_cfvo test (IconRating icon color thresholds show) = list_all (λ (threshold : IconThreshold). test threshold.cfvo) thresholds

-- each formula does that a rule has beside its thresholds
abbrev pub own_trees_pass : (Node → Bool) → CfRule → Bool
own_trees_pass test (Formula formula style stop) = test formula
own_trees_pass test (CellIs operator formula formula2 style stop) = test formula && option_map_or test formula2 true
own_trees_pass test (ColorScale thresholds) = true
own_trees_pass test (DataBar min max positive negative gradient show) = true
own_trees_pass test (IconSet icons thresholds show) = true
own_trees_pass test (IconRating icon color thresholds show) = true

-- each formula of a rule does
abbrev pub each_tree : (Node → Bool) → CfRule → Bool
each_tree test rule = own_trees_pass test rule && each_cfvo (cfvo_passes test) rule

-- ---- each changed

abbrev pub cfvo_changed : (Node → Node) → Cfvo → Cfvo
cfvo_changed change cfvo.Min = cfvo.Min
cfvo_changed change cfvo.Max = cfvo.Max
cfvo_changed change (cfvo.Number number) = cfvo.Number number
cfvo_changed change (cfvo.Percent number) = cfvo.Percent number
cfvo_changed change (cfvo.Percentile number) = cfvo.Percentile number
cfvo_changed change (cfvo.Formula tree) = cfvo.Formula (change tree)

abbrev pub color_changed : (Node → Node) → ColorThreshold → ColorThreshold
color_changed change threshold = record threshold { cfvo = cfvo_changed change threshold.cfvo }

abbrev pub icon_changed : (Node → Node) → IconThreshold → IconThreshold
icon_changed change threshold = record threshold { cfvo = cfvo_changed change threshold.cfvo }

-- a rule that shows a style, with its formulas changed. Any other stays
abbrev pub style_rule_changed : (Node → Node) → CfRule → CfRule
style_rule_changed change (Formula formula style stop) = Formula (change formula) style stop
style_rule_changed change (CellIs operator formula formula2 style stop) = CellIs operator (change formula) (option_map change formula2) style stop
style_rule_changed change (ColorScale thresholds) = ColorScale thresholds
style_rule_changed change (DataBar min max positive negative gradient show) = DataBar min max positive negative gradient show
style_rule_changed change (IconSet icons thresholds show) = IconSet icons thresholds show
style_rule_changed change (IconRating icon color thresholds show) = IconRating icon color thresholds show

-- a rule that shows icons, with the formulas of its thresholds changed. Any other stays
abbrev pub icon_rule_changed : (Node → Node) → CfRule → CfRule
icon_rule_changed change (Formula formula style stop) = Formula formula style stop
icon_rule_changed change (CellIs operator formula formula2 style stop) = CellIs operator formula formula2 style stop
icon_rule_changed change (ColorScale thresholds) = ColorScale thresholds
icon_rule_changed change (DataBar min max positive negative gradient show) = DataBar min max positive negative gradient show
icon_rule_changed change (IconSet icons thresholds show) = IconSet icons (map (icon_changed change) thresholds) show
icon_rule_changed change (IconRating icon color thresholds show) = IconRating icon color (map (icon_changed change) thresholds) show

-- the rule with each formula changed
abbrev pub trees_changed : (Node → Node) → CfRule → CfRule
trees_changed change (Formula formula style stop) = Formula (change formula) style stop
trees_changed change (CellIs operator formula formula2 style stop) = CellIs operator (change formula) (option_map change formula2) style stop
trees_changed change (ColorScale thresholds) = ColorScale (map (color_changed change) thresholds)
trees_changed change (DataBar min max positive negative gradient show) =
    DataBar (option_map (cfvo_changed change) min) (option_map (cfvo_changed change) max) positive negative gradient show
trees_changed change (IconSet icons thresholds show) = IconSet icons (map (icon_changed change) thresholds) show
trees_changed change (IconRating icon color thresholds show) = IconRating icon color (map (icon_changed change) thresholds) show
