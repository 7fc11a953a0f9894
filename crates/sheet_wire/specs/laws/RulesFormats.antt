-- The three laws of the parts of changes of conditional rules.
use Rattle.std.proofs.Common.{◌≤◌, length, refl, arith}
use Rattle.rule_edits.specs.declared.RuleChange.{RuleChange}
use Rattle.base_wire.specs.Encoding.{Both, encode_both}
use Rattle.base_wire.specs.laws.Format.{Format, option_format}
use Rattle.base_wire.specs.laws.Formats.{both_format, made_format}
use Rattle.base_wire.specs.laws.Parts.{long_format, short_format}
use Rattle.grid_wire.specs.laws.FormattingLaws.{formatting_format}
use Rattle.sheet_wire.specs.RulesBytes.{encode_rule_change, FitsRuleChange}
use Rattle.sheet_wire.specs.laws.Reading.{rule_there_at, rule_change_made, rule_change_at, rule_parts_at}
use Rattle.sheet_wire.specs.laws.SheetsFormats.{IsShort, encode_short}

pub rule_change_format : Format FitsRuleChange encode_rule_change rule_change_at
unfolding encode_rule_change rule_change_at rule_there_at
rule_change_format =
    made_format (both_format long_format (both_format (option_format formatting_format) (option_format formatting_format))) rule_change_made
    (λ change. (change.index, (change.old, change.new)))
    (λ change fits. (refl, (fits.index, (fits.old, fits.new)))) (λ x fits. (refl, record { index = fits.0; old = fits.1.0; new = fits.1.1 }))

pub rule_change_some : (change : RuleChange) → 1 ≤ length (encode_rule_change change)
unfolding encode_rule_change
rule_change_some change = omega arith

pub rule_parts_format : Format (Both IsShort FitsRuleChange) (encode_both encode_short encode_rule_change) rule_parts_at
rule_parts_format = both_format short_format rule_change_format
