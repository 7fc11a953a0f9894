-- The bytes of rules.
use Rattle.std.specs.Prelude.{ℕ, ◌<◌, ◌^◌, Bool, List, [], ◌∷◌, ◌++◌, Option, IfSome}
use Rattle.std.specs.List.{AllByRecursion}
use Rattle.base_styles.specs.declared.Color.{Color}
use Rattle.base_styles.specs.declared.Style.{Style}
use Rattle.formula_tree.specs.declared.Node.{Node}
use Rattle.format_rules.specs.declared.Cfvo.{Cfvo}
use Rattle.format_rules.specs.declared.IconThreshold.{IconThreshold}
use Rattle.format_rules.specs.declared.CfOperator.{CfOperator}
use Rattle.format_rules.specs.declared.CfOperator.TheVariants.{Equal, NotEqual, Less, LessOrEqual, Greater, GreaterOrEqual, Between, NotBetween}
use Rattle.format_rules.specs.declared.CfRule.{CfRule}
use Rattle.format_rules.specs.declared.CfRule.TheVariants.{Formula, CellIs, ColorScale, DataBar, IconSet, IconRating}
use Rattle.base_wire.specs.Encoding.{encode_code, boolean_code, encode_option, FitsItems}
use Rattle.formula_wire.specs.NodeBytes.{encode_node}
use Rattle.formula_wire.specs.Carried.{FitsNode, IsKnownNode}
use Rattle.grid_wire.specs.StyleBytes.{encode_color, FitsColor, encode_style, FitsStyle}
use Rattle.grid_wire.specs.ThresholdBytes.{encode_cfvo, FitsCfvo, IsKnownCfvo, encode_colors, FitsColorThreshold, IsKnownColorThreshold, encode_icons, FitsIconThreshold, IsKnownIconThreshold}

-- ---- operators

-- `=`, `<>`, `<`, `<=`, `>`, `>=`, between, not between
abbrev pub operator_code : CfOperator → ℕ
operator_code Equal = 0
operator_code NotEqual = 1
operator_code Less = 2
operator_code LessOrEqual = 3
operator_code Greater = 4
operator_code GreaterOrEqual = 5
operator_code Between = 6
operator_code NotBetween = 7

-- ---- what the kinds hold

-- a formula, a style, and whether the rule stops others
abbrev pub encode_formula : Node → Style → Bool → List ℕ
encode_formula formula style stop = encode_node formula ++ (encode_style style ++ encode_code boolean_code stop)

-- an operator, one formula or two, a style, and whether the rule stops others
abbrev pub encode_cell_is : CfOperator → Node → Option Node → Style → Bool → List ℕ
encode_cell_is operator formula formula2 style stop =
    encode_code operator_code operator ++ (encode_node formula ++ (encode_option encode_node formula2 ++ (encode_style style ++ encode_code boolean_code stop)))

-- the ends of a bar, its two colours, whether it fades, and whether the value is shown
abbrev pub encode_data_bar : Option Cfvo → Option Cfvo → Color → Color → Bool → Bool → List ℕ
encode_data_bar min max positive negative gradient show =
    encode_option encode_cfvo min ++ (encode_option encode_cfvo max ++ (encode_color positive ++ (encode_color negative
    ++ (encode_code boolean_code gradient ++ encode_code boolean_code show))))

-- the number of the set, its thresholds, and whether the value is shown
abbrev pub encode_icon_set : ℕ → List IconThreshold → Bool → List ℕ
encode_icon_set icons thresholds show = (icons ∷ []) ++ (encode_icons thresholds ++ encode_code boolean_code show)

-- the number of the icon, its colour, its thresholds, and whether the value is shown
abbrev pub encode_icon_rating : ℕ → Color → List IconThreshold → Bool → List ℕ
encode_icon_rating icon color thresholds show = (icon ∷ []) ++ (encode_color color ++ (encode_icons thresholds ++ encode_code boolean_code show))

-- ---- rules

-- the kind, and then what it holds
abbrev pub encode_rule : CfRule → List ℕ
encode_rule (Formula formula style stop) = 0 ∷ encode_formula formula style stop
encode_rule (CellIs operator formula formula2 style stop) = 1 ∷ encode_cell_is operator formula formula2 style stop
encode_rule (ColorScale thresholds) = 2 ∷ encode_colors thresholds
encode_rule (DataBar min max positive negative gradient show) = 3 ∷ encode_data_bar min max positive negative gradient show
encode_rule (IconSet icons thresholds show) = 4 ∷ encode_icon_set icons thresholds show
encode_rule (IconRating icon color thresholds show) = 5 ∷ encode_icon_rating icon color thresholds show

-- ---- what bytes can carry

pub record FitsFormula (tree : Node) (own : Style) : Type 0 where
  pub formula : FitsNode tree
  pub style : FitsStyle own

pub record FitsCellIs (tree : Node) (tree2 : Option Node) (own : Style) : Type 0 where
  pub formula : FitsNode tree
  pub formula2 : IfSome tree2 FitsNode
  pub style : FitsStyle own

pub record FitsDataBar (low high : Option Cfvo) (positive negative : Color) : Type 0 where
  pub min : IfSome low FitsCfvo
  pub max : IfSome high FitsCfvo
  pub positive_color : FitsColor positive
  pub negative_color : FitsColor negative

pub record FitsIconSet (number : ℕ) (icon_thresholds : List IconThreshold) : Type 0 where
  pub icons : number < 2 ^ 8
  pub thresholds : FitsItems FitsIconThreshold icon_thresholds

pub record FitsIconRating (number : ℕ) (own : Color) (icon_thresholds : List IconThreshold) : Type 0 where
  pub icon : number < 2 ^ 8
  pub color : FitsColor own
  pub thresholds : FitsItems FitsIconThreshold icon_thresholds

-- a rule whose parts bytes can carry
abbrev pub FitsRule : CfRule → Type 0
FitsRule (Formula formula style stop) = FitsFormula formula style
FitsRule (CellIs operator formula formula2 style stop) = FitsCellIs formula formula2 style
FitsRule (ColorScale thresholds) = FitsItems FitsColorThreshold thresholds
FitsRule (DataBar min max positive negative gradient show) = FitsDataBar min max positive negative
FitsRule (IconSet icons thresholds show) = FitsIconSet icons thresholds
FitsRule (IconRating icon color thresholds show) = FitsIconRating icon color thresholds

-- what writing asks: the numbers of thresholds and formulas are canonical, and each formula is at most 64 deep
abbrev pub IsKnownRule : CfRule → Type 0
IsKnownRule (Formula formula style stop) = IsKnownNode formula
IsKnownRule (CellIs operator formula formula2 style stop) = IsKnownNode formula × IfSome formula2 IsKnownNode
IsKnownRule (ColorScale thresholds) = AllByRecursion IsKnownColorThreshold thresholds
IsKnownRule (DataBar min max positive negative gradient show) = IfSome min IsKnownCfvo × IfSome max IsKnownCfvo
IsKnownRule (IconSet icons thresholds show) = AllByRecursion IsKnownIconThreshold thresholds
IsKnownRule (IconRating icon color thresholds show) = AllByRecursion IsKnownIconThreshold thresholds
