-- The bytes of rules with their parts and priorities.
use Rattle.std.specs.Prelude.{◌≡◌, ℕ, ◌<◌, ◌^◌, List, ◌++◌, true}
use Rattle.std.specs.List.{list_all}
use Rattle.formula_tree.specs.Depth.{is_within}
use Rattle.format_rules.specs.RuleTrees.{each_tree}
use Rattle.std.specs.Int.{w32, to_be_bytes}
use Rattle.format_rules.specs.declared.ConditionalFormatting.{ConditionalFormatting}
use Rattle.base_wire.specs.Encoding.{encode_list, FitsItems}
use Rattle.grid_wire.specs.MergeBytes.{encode_merges, FitsMerges}
use Rattle.grid_wire.specs.RuleBytes.{encode_rule, FitsRule, IsKnownRule}

-- the parts, the rule, and the priority
abbrev pub encode_formatting : ConditionalFormatting → List ℕ
encode_formatting formatting = encode_merges formatting.parts ++ (encode_rule formatting.rule ++ to_be_bytes w32 formatting.priority)

-- parts of numbers of 32 bits, a rule that bytes can carry, and a priority of 32 bits
pub record FitsFormatting (formatting : ConditionalFormatting) : Type 0 where
  pub parts : FitsMerges formatting.parts
  pub rule : FitsRule formatting.rule
  pub priority : formatting.priority < 2 ^ 32

abbrev pub IsKnownFormatting : ConditionalFormatting → Type 0
IsKnownFormatting formatting = IsKnownRule formatting.rule

-- the rules of a sheet, in their order
abbrev pub encode_formattings : List ConditionalFormatting → List ℕ
encode_formattings = encode_list encode_formatting

abbrev pub FitsFormattings : List ConditionalFormatting → Type 0
FitsFormattings = FitsItems FitsFormatting

-- what writing asks of the rules of a sheet, whose numbers are canonical: their formulas are at most 64 deep
abbrev pub AreKnownFormattings : List ConditionalFormatting → Type 0
AreKnownFormattings rules = list_all (λ (formatting : ConditionalFormatting). each_tree (is_within 64) formatting.rule) rules ≡ true
