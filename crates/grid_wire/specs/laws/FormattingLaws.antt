-- The laws of the bytes of rules with their parts and priorities.
use Rattle.std.proofs.Common.{◌≤◌, length, refl, arith}
use Rattle.base_wire.specs.laws.Format.{Format, list_format}
use Rattle.base_wire.specs.laws.Formats.{both_format, made_format}
use Rattle.base_wire.specs.laws.Parts.{short_format}
use Rattle.grid_wire.specs.laws.MergeLaws.{merges_format}
use Rattle.format_rules.specs.declared.ConditionalFormatting.{ConditionalFormatting}
use Rattle.grid_wire.specs.FormattingBytes.{encode_formatting, FitsFormatting, encode_formattings, FitsFormattings}
use Rattle.grid_wire.specs.laws.RuleReading.{formatting_made, formatting_at, formattings_at}
use Rattle.grid_wire.specs.laws.RuleLaws.{rule_format}

pub formatting_format : Format FitsFormatting encode_formatting formatting_at
unfolding formatting_at
formatting_format =
    made_format (both_format merges_format (both_format rule_format short_format)) formatting_made
    (λ formatting. (formatting.parts, (formatting.rule, formatting.priority)))
    (λ formatting fits. (refl, (fits.parts, (fits.rule, fits.priority)))) (λ x fits. (refl, record { parts = fits.0; rule = fits.1.0; priority = fits.1.1 }))

pub formatting_some : (formatting : ConditionalFormatting) → 1 ≤ length (encode_formatting formatting)
formatting_some formatting = omega arith

pub formattings_format : Format FitsFormattings encode_formattings formattings_at
unfolding formattings_at
formattings_format = list_format formatting_format formatting_some
