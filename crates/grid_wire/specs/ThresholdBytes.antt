-- The bytes of thresholds of rules.
use Rattle.std.specs.Prelude.{ℕ, List, [], ◌∷◌, ◌++◌}
use Rattle.base_decimal.specs.Canonical.{IsCanonical}
use Rattle.format_rules.specs.declared.Cfvo.{Cfvo}
use Rattle.format_rules.specs.declared.Cfvo.TheVariants.{Min, Max, Number, Percent, Percentile, Formula}
use Rattle.format_rules.specs.declared.ColorThreshold.{ColorThreshold}
use Rattle.format_rules.specs.declared.IconThreshold.{IconThreshold}
use Rattle.base_wire.specs.Encoding.{encode_code, boolean_code, encode_list}
use Rattle.base_wire.specs.Parts.{encode_decimal}
use Rattle.formula_wire.specs.NodeBytes.{encode_node}
use Rattle.formula_wire.specs.Carried.{FitsNode, IsKnownNode}
use Rattle.grid_wire.specs.StyleBytes.{encode_color, FitsColor}

-- ---- values

-- the kind, and then the number or the formula
abbrev pub encode_cfvo : Cfvo → List ℕ
encode_cfvo Min = 0 ∷ []
encode_cfvo Max = 1 ∷ []
encode_cfvo (Number number) = 2 ∷ encode_decimal number
encode_cfvo (Percent number) = 3 ∷ encode_decimal number
encode_cfvo (Percentile number) = 4 ∷ encode_decimal number
encode_cfvo (Formula tree) = 5 ∷ encode_node tree

-- a number is canonical, and a formula is a tree that bytes can carry
abbrev pub FitsCfvo : Cfvo → Type 0
FitsCfvo Min = Unit {0}
FitsCfvo Max = Unit {0}
FitsCfvo (Number number) = IsCanonical number
FitsCfvo (Percent number) = IsCanonical number
FitsCfvo (Percentile number) = IsCanonical number
FitsCfvo (Formula tree) = FitsNode tree

-- what writing asks: its number is canonical; or those of its formula are, and the formula is at most 64 deep
abbrev pub IsKnownCfvo : Cfvo → Type 0
IsKnownCfvo Min = Unit {0}
IsKnownCfvo Max = Unit {0}
IsKnownCfvo (Number number) = IsCanonical number
IsKnownCfvo (Percent number) = IsCanonical number
IsKnownCfvo (Percentile number) = IsCanonical number
IsKnownCfvo (Formula tree) = IsKnownNode tree

-- ---- thresholds of colours

-- the value, and the colour
abbrev pub encode_color_threshold : ColorThreshold → List ℕ
encode_color_threshold threshold = encode_cfvo threshold.cfvo ++ encode_color threshold.color

pub record FitsColorThreshold (threshold : ColorThreshold) : Type 0 where
  pub cfvo : FitsCfvo threshold.cfvo
  pub color : FitsColor threshold.color

abbrev pub IsKnownColorThreshold : ColorThreshold → Type 0
IsKnownColorThreshold threshold = IsKnownCfvo threshold.cfvo

abbrev pub encode_colors : List ColorThreshold → List ℕ
encode_colors = encode_list encode_color_threshold

-- ---- thresholds of icons

-- the value, and whether it has to be exceeded
abbrev pub encode_icon_threshold : IconThreshold → List ℕ
encode_icon_threshold threshold = encode_cfvo threshold.cfvo ++ encode_code boolean_code threshold.strict

abbrev pub FitsIconThreshold : IconThreshold → Type 0
FitsIconThreshold threshold = FitsCfvo threshold.cfvo

abbrev pub IsKnownIconThreshold : IconThreshold → Type 0
IsKnownIconThreshold threshold = IsKnownCfvo threshold.cfvo

abbrev pub encode_icons : List IconThreshold → List ℕ
encode_icons = encode_list encode_icon_threshold
