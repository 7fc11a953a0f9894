-- Reading conditional rules and their parts. Serves proofs alone.
use Rattle.std.specs.Prelude.{ℕ, Bool, List, [], ◌∷◌, Option, ◌==◌, if◌then◌else◌}
use Rattle.base_styles.specs.declared.Color.{Color}
use Rattle.format_rules.specs.declared.Cfvo.{Cfvo}
use Rattle.format_rules.specs.declared.Cfvo.TheVariants.{Min, Max, Number, Percent, Percentile, Formula as FormulaValue}
use Rattle.format_rules.specs.declared.ColorThreshold.{ColorThreshold}
use Rattle.format_rules.specs.declared.IconThreshold.{IconThreshold}
use Rattle.base_wire.specs.laws.Reading.{Reader, plain, refused, map_at, ◌⊗◌, tagged_at, option_at, list_at, boolean_at, decimal_at, byte_at, code_at, number_at}
use Rattle.formula_wire.specs.laws.Reading.{node_at}
use Rattle.grid_wire.specs.laws.CellReading.{color_at, style_at, merges_at}
use Rattle.base_styles.specs.declared.Style.{Style}
use Rattle.formula_tree.specs.declared.Node.{Node}
use Rattle.format_rules.specs.declared.CfOperator.{CfOperator}
use Rattle.format_rules.specs.declared.CfOperator.TheVariants.{Equal, NotEqual, Less, LessOrEqual, Greater, GreaterOrEqual, Between, NotBetween}
use Rattle.format_rules.specs.declared.CfRule.{CfRule}
use Rattle.format_rules.specs.declared.CfRule.TheVariants.{Formula, CellIs, ColorScale, DataBar, IconSet, IconRating}
use Rattle.std.specs.Int.{w32}
use Rattle.base_axis.specs.declared.MergedCell.{MergedCell}
use Rattle.format_rules.specs.declared.ConditionalFormatting.{ConditionalFormatting}
use Rattle.grid_wire.specs.RuleBytes.{operator_code}

-- ---- values

-- what follows each kind
abbrev pub cfvo_of : ℕ → Reader Cfvo
cfvo_of kind =
    if kind == 0 then plain Min
    else if kind == 1 then plain Max
    else if kind == 2 then map_at Number decimal_at
    else if kind == 3 then map_at Percent decimal_at
    else if kind == 4 then map_at Percentile decimal_at
    else if kind == 5 then map_at FormulaValue node_at
    else refused

unfoldable pub cfvo_at : Reader Cfvo
cfvo_at = tagged_at cfvo_of

-- a value that may be missing
unfoldable pub bound_at : Reader (Option Cfvo)
bound_at = option_at cfvo_at

-- ---- thresholds of colours

abbrev pub color_threshold_made : Cfvo × Color → ColorThreshold
color_threshold_made x = record { cfvo = x.0; color = x.1 }

unfoldable pub color_threshold_at : Reader ColorThreshold
color_threshold_at = map_at color_threshold_made (cfvo_at ⊗ color_at)

unfoldable pub colors_at : Reader (List ColorThreshold)
colors_at = list_at color_threshold_at

-- ---- thresholds of icons

abbrev pub icon_threshold_made : Cfvo × Bool → IconThreshold
icon_threshold_made x = record { cfvo = x.0; strict = x.1 }

unfoldable pub icon_threshold_at : Reader IconThreshold
icon_threshold_at = map_at icon_threshold_made (cfvo_at ⊗ boolean_at)

unfoldable pub icons_at : Reader (List IconThreshold)
icons_at = list_at icon_threshold_at

-- ---- operators

-- all of them
abbrev pub operators : List CfOperator
operators = Equal ∷ NotEqual ∷ Less ∷ LessOrEqual ∷ Greater ∷ GreaterOrEqual ∷ Between ∷ NotBetween ∷ []

abbrev pub operator_at : Reader CfOperator
operator_at = code_at operator_code operators

-- ---- what the kinds hold

abbrev pub formula_made : Node × (Style × Bool) → CfRule
formula_made x = Formula x.0 x.1.0 x.1.1

abbrev pub formula_at : Reader CfRule
formula_at = map_at formula_made (node_at ⊗ style_at ⊗ boolean_at)

-- a formula that may be missing
unfoldable pub second_at : Reader (Option Node)
second_at = option_at node_at

abbrev pub cell_is_made : CfOperator × (Node × (Option Node × (Style × Bool))) → CfRule
cell_is_made x = CellIs x.0 x.1.0 x.1.1.0 x.1.1.1.0 x.1.1.1.1

abbrev pub cell_is_at : Reader CfRule
cell_is_at = map_at cell_is_made (operator_at ⊗ node_at ⊗ second_at ⊗ style_at ⊗ boolean_at)

abbrev pub data_bar_made : Option Cfvo × (Option Cfvo × (Color × (Color × (Bool × Bool)))) → CfRule
data_bar_made x = DataBar x.0 x.1.0 x.1.1.0 x.1.1.1.0 x.1.1.1.1.0 x.1.1.1.1.1

abbrev pub data_bar_at : Reader CfRule
data_bar_at = map_at data_bar_made (bound_at ⊗ bound_at ⊗ color_at ⊗ color_at ⊗ boolean_at ⊗ boolean_at)

abbrev pub icon_set_made : ℕ × (List IconThreshold × Bool) → CfRule
icon_set_made x = IconSet x.0 x.1.0 x.1.1

abbrev pub icon_set_at : Reader CfRule
icon_set_at = map_at icon_set_made (byte_at ⊗ icons_at ⊗ boolean_at)

abbrev pub icon_rating_made : ℕ × (Color × (List IconThreshold × Bool)) → CfRule
icon_rating_made x = IconRating x.0 x.1.0 x.1.1.0 x.1.1.1

abbrev pub icon_rating_at : Reader CfRule
icon_rating_at = map_at icon_rating_made (byte_at ⊗ color_at ⊗ icons_at ⊗ boolean_at)

-- ---- rules

-- what follows each kind
abbrev pub rule_of : ℕ → Reader CfRule
rule_of kind =
    if kind == 0 then formula_at
    else if kind == 1 then cell_is_at
    else if kind == 2 then map_at ColorScale colors_at
    else if kind == 3 then data_bar_at
    else if kind == 4 then icon_set_at
    else if kind == 5 then icon_rating_at
    else refused

unfoldable pub rule_at : Reader CfRule
rule_at = tagged_at rule_of

-- ---- rules with their parts and priorities

abbrev pub formatting_made : List MergedCell × (CfRule × ℕ) → ConditionalFormatting
formatting_made x = record { parts = x.0; rule = x.1.0; priority = x.1.1 }

unfoldable pub formatting_at : Reader ConditionalFormatting
formatting_at = map_at formatting_made (merges_at ⊗ rule_at ⊗ number_at w32)

unfoldable pub formattings_at : Reader (List ConditionalFormatting)
formattings_at = list_at formatting_at
