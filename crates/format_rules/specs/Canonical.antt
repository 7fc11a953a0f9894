-- Rules of which each number is canonical, in thresholds and in formulas.
use Rattle.std.specs.Prelude.{Bool, true, ◌&&◌, IsTrue, List}
use Rattle.std.specs.List.{All}
use Rattle.base_decimal.specs.Canonical.{is_canonical}
use Rattle.formula_tree.specs.Numbers as tree
use Rattle.format_rules.specs.declared.threshold.Cfvo.{Cfvo}
use Rattle.format_rules.specs.declared.threshold.Cfvo.TheVariants as cfvo
use Rattle.format_rules.specs.declared.rule.CfRule.{CfRule}
use Rattle.format_rules.specs.declared.formatting.ConditionalFormatting.{ConditionalFormatting}
use Rattle.format_rules.specs.RuleTrees.{each_cfvo, each_tree}

-- the number of a threshold is
abbrev pub cfvo_is_canonical : Cfvo → Bool
cfvo_is_canonical cfvo.Min = true
cfvo_is_canonical cfvo.Max = true
cfvo_is_canonical (cfvo.Number number) = is_canonical number
cfvo_is_canonical (cfvo.Percent number) = is_canonical number
cfvo_is_canonical (cfvo.Percentile number) = is_canonical number
cfvo_is_canonical (cfvo.Formula formula) = true

-- those of all thresholds are, and so is each number of a formula
abbrev pub has_canonical_numbers : CfRule → Bool
has_canonical_numbers rule = each_cfvo cfvo_is_canonical rule && each_tree tree.has_canonical_numbers rule

-- the numbers of a rule are, and those of each rule of a list
abbrev pub IsCanonicalFormatting : ConditionalFormatting → Type 0
IsCanonicalFormatting formatting = IsTrue (has_canonical_numbers formatting.rule)

abbrev pub AreCanonicalRules : List ConditionalFormatting → Type 0
AreCanonicalRules rules = All IsCanonicalFormatting rules
