-- The laws of the bytes of rules.
use Rattle.std.proofs.Common.{◌≡◌, ◌≤◌, ◌<◌, List, [], ◌∷◌, ◌++◌, ℕ, length, Some, Ok, refl, arith, eqb}
use Rattle.std.specs.Prelude.{IfSome, ◌^◌}
use Rattle.format_rules.specs.declared.CfOperator.{CfOperator}
use Rattle.format_rules.specs.declared.CfOperator.TheVariants.{Equal, NotEqual, Less, LessOrEqual, Greater, GreaterOrEqual, Between, NotBetween}
use Rattle.format_rules.specs.declared.CfRule.{CfRule}
use Rattle.format_rules.specs.declared.CfRule.TheVariants.{Formula, CellIs, ColorScale, DataBar, IconSet, IconRating}
use Rattle.base_wire.specs.laws.Reading.{Reader, decoded, map_at, ◌⊗◌, byte_at, boolean_at}
use Rattle.base_wire.specs.Encoding.{encode_code, boolean_code, encode_option, encode_both, Any, Both, FitsItems}
use Rattle.base_wire.specs.laws.Again.{ReadsAgain, code_again}
use Rattle.base_wire.specs.laws.Format.{Format, option_format}
use Rattle.base_wire.specs.laws.Formats.{both_format}
use Rattle.base_wire.specs.laws.Parts.{boolean_format, byte_format}
use Rattle.base_wire.specs.laws.Refusals.{IsPlain, code_plain, map_plain, refused_plain, if_plain, tagged_plain}
use Rattle.base_wire.specs.laws.Encoded.{ReadsEncoded, code_encoded, tag_map, tag_refused, tag_if, tagged_encoded}
use Rattle.formula_wire.specs.NodeBytes.{encode_node}
use Rattle.formula_wire.specs.laws.Reading.{node_at}
use Rattle.formula_wire.specs.Carried.{FitsNode}
use Rattle.formula_wire.specs.laws.NodeLaws.{node_format}
use Rattle.grid_wire.specs.StyleBytes.{encode_style, FitsStyle, encode_color, FitsColor}
use Rattle.grid_wire.specs.laws.CellReading.{style_at, color_at}
use Rattle.grid_wire.specs.laws.CellFormats.{color_format, style_format}
use Rattle.grid_wire.specs.ThresholdBytes.{encode_cfvo, FitsCfvo, encode_colors, encode_icons, FitsIconThreshold}
use Rattle.grid_wire.specs.laws.RuleReading.{bound_at, colors_at, icons_at, operators, operator_at, formula_made, second_at, cell_is_made, data_bar_made, icon_set_made, icon_rating_made, rule_of, rule_at}
use Rattle.grid_wire.specs.RuleBytes.{operator_code, encode_formula, encode_cell_is, encode_data_bar, encode_icon_set, encode_icon_rating, encode_rule, FitsRule}
use Rattle.grid_wire.specs.laws.ThresholdLaws.{bound_format, colors_format, icons_format}

-- ---- operators

operator_known : (x : CfOperator) → decoded operator_code operators (operator_code x) ≡ Some x
operator_known Equal = refl
operator_known NotEqual = refl
operator_known Less = refl
operator_known LessOrEqual = refl
operator_known Greater = refl
operator_known GreaterOrEqual = refl
operator_known Between = refl
operator_known NotBetween = refl

operator_format : Format Any (encode_code operator_code) operator_at
operator_format = record {
  again = code_again operator_code operators operator_known;
  encoded = code_encoded operator_code operators;
  plain = code_plain operator_code operators;
}

-- ---- what the kinds hold

second_format : Format (λ o. IfSome o FitsNode) (encode_option encode_node) second_at
unfolding second_at
second_format = option_format node_format

formula_parts : Format (Both FitsNode (Both FitsStyle Any)) (encode_both encode_node (encode_both encode_style (encode_code boolean_code)))
    (node_at ⊗ style_at ⊗ boolean_at)
formula_parts = both_format node_format (both_format style_format boolean_format)

cell_is_parts : Format (Both Any (Both FitsNode (Both (λ o. IfSome o FitsNode) (Both FitsStyle Any))))
    (encode_both (encode_code operator_code) (encode_both encode_node (encode_both (encode_option encode_node) (encode_both encode_style (encode_code boolean_code)))))
    (operator_at ⊗ node_at ⊗ second_at ⊗ style_at ⊗ boolean_at)
cell_is_parts = both_format operator_format (both_format node_format (both_format second_format (both_format style_format boolean_format)))

data_bar_parts : Format (Both (λ o. IfSome o FitsCfvo) (Both (λ o. IfSome o FitsCfvo) (Both FitsColor (Both FitsColor (Both Any Any)))))
    (encode_both (encode_option encode_cfvo) (encode_both (encode_option encode_cfvo) (encode_both encode_color (encode_both encode_color
    (encode_both (encode_code boolean_code) (encode_code boolean_code))))))
    (bound_at ⊗ bound_at ⊗ color_at ⊗ color_at ⊗ boolean_at ⊗ boolean_at)
data_bar_parts =
    both_format bound_format (both_format bound_format (both_format color_format (both_format color_format (both_format boolean_format boolean_format))))

icon_set_parts : Format (Both (λ b. b < 2 ^ 8) (Both (FitsItems FitsIconThreshold) Any))
    (encode_both (λ b. b ∷ []) (encode_both encode_icons (encode_code boolean_code))) (byte_at ⊗ icons_at ⊗ boolean_at)
icon_set_parts = both_format byte_format (both_format icons_format boolean_format)

icon_rating_parts : Format (Both (λ b. b < 2 ^ 8) (Both FitsColor (Both (FitsItems FitsIconThreshold) Any)))
    (encode_both (λ b. b ∷ []) (encode_both encode_color (encode_both encode_icons (encode_code boolean_code)))) (byte_at ⊗ color_at ⊗ icons_at ⊗ boolean_at)
icon_rating_parts = both_format byte_format (both_format color_format (both_format icons_format boolean_format))

-- ---- rules

map_reads : {A B : Type 0} (f : A → B) (r : Reader A) (bytes : List ℕ) (x : A) (rest : List ℕ) → r bytes ≡ Ok (x, rest) →
    map_at f r bytes ≡ Ok (f x, rest)
map_reads f r bytes x rest h = rw h refl

rule_again : ReadsAgain FitsRule encode_rule rule_at
unfolding rule_at
rule_again = record { again = one }
  where
    one : (x : CfRule) (rest : List ℕ) → FitsRule x → rule_at (encode_rule x ++ rest) ≡ Ok (x, rest)
    one (Formula formula style stop) rest fits =
        map_reads formula_made (node_at ⊗ style_at ⊗ boolean_at) (encode_formula formula style stop ++ rest) (formula, (style, stop)) rest
        (formula_parts.again.again (formula, (style, stop)) rest (fits.formula, (fits.style, tt)))
    one (CellIs operator formula formula2 style stop) rest fits =
        map_reads cell_is_made (operator_at ⊗ node_at ⊗ second_at ⊗ style_at ⊗ boolean_at) (encode_cell_is operator formula formula2 style stop ++ rest)
        (operator, (formula, (formula2, (style, stop)))) rest
        (cell_is_parts.again.again (operator, (formula, (formula2, (style, stop)))) rest (tt, (fits.formula, (fits.formula2, (fits.style, tt)))))
    one (ColorScale thresholds) rest fits = map_reads ColorScale colors_at (encode_colors thresholds ++ rest) thresholds rest
        (colors_format.again.again thresholds rest fits)
    one (DataBar min max positive negative gradient show) rest fits =
        map_reads data_bar_made (bound_at ⊗ bound_at ⊗ color_at ⊗ color_at ⊗ boolean_at ⊗ boolean_at)
        (encode_data_bar min max positive negative gradient show ++ rest)
        (min, (max, (positive, (negative, (gradient, show))))) rest
        (data_bar_parts.again.again (min, (max, (positive, (negative, (gradient, show))))) rest (fits.min, (fits.max, (fits.positive_color, (fits.negative_color, (tt, tt))))))
    one (IconSet icons thresholds show) rest fits =
        map_reads icon_set_made (byte_at ⊗ icons_at ⊗ boolean_at) (encode_icon_set icons thresholds show ++ rest) (icons, (thresholds, show)) rest
        (icon_set_parts.again.again (icons, (thresholds, show)) rest (fits.icons, (fits.thresholds, tt)))
    one (IconRating icon color thresholds show) rest fits =
        map_reads icon_rating_made (byte_at ⊗ color_at ⊗ icons_at ⊗ boolean_at) (encode_icon_rating icon color thresholds show ++ rest)
        (icon, (color, (thresholds, show))) rest
        (icon_rating_parts.again.again (icon, (color, (thresholds, show))) rest (fits.icon, (fits.color, (fits.thresholds, tt))))

rule_encoded : ReadsEncoded FitsRule encode_rule rule_at
unfolding rule_at
rule_encoded =
    tagged_encoded rule_of (λ kind.
    tag_if kind 0 (tag_map formula_parts.encoded formula_made FitsRule encode_rule 0 (λ x. refl) (λ x fits. record { formula = fits.0; style = fits.1.0 }))
    (tag_if kind 1 (tag_map cell_is_parts.encoded cell_is_made FitsRule encode_rule 1 (λ x. refl)
    (λ x fits. record { formula = fits.1.0; formula2 = fits.1.1.0; style = fits.1.1.1.0 }))
    (tag_if kind 2 (tag_map colors_format.encoded ColorScale FitsRule encode_rule 2 (λ x. refl) (λ x fits. fits))
    (tag_if kind 3 (tag_map data_bar_parts.encoded data_bar_made FitsRule encode_rule 3 (λ x. refl)
    (λ x fits. record { min = fits.0; max = fits.1.0; positive_color = fits.1.1.0; negative_color = fits.1.1.1.0 }))
    (tag_if kind 4 (tag_map icon_set_parts.encoded icon_set_made FitsRule encode_rule 4 (λ x. refl) (λ x fits. record { icons = fits.0; thresholds = fits.1.0 }))
    (tag_if kind 5 (tag_map icon_rating_parts.encoded icon_rating_made FitsRule encode_rule 5 (λ x. refl)
    (λ x fits. record { icon = fits.0; color = fits.1.0; thresholds = fits.1.1.0 }))
    (tag_refused FitsRule encode_rule kind)))))))

rule_plain : IsPlain rule_at
unfolding rule_at
rule_plain =
    tagged_plain rule_of (λ kind.
    if_plain (eqb kind 0) (map_plain formula_made formula_parts.plain)
    (if_plain (eqb kind 1) (map_plain cell_is_made cell_is_parts.plain)
    (if_plain (eqb kind 2) (map_plain ColorScale colors_format.plain)
    (if_plain (eqb kind 3) (map_plain data_bar_made data_bar_parts.plain)
    (if_plain (eqb kind 4) (map_plain icon_set_made icon_set_parts.plain)
    (if_plain (eqb kind 5) (map_plain icon_rating_made icon_rating_parts.plain) refused_plain))))))

pub rule_format : Format FitsRule encode_rule rule_at
rule_format = record { again = rule_again; encoded = rule_encoded; plain = rule_plain }

pub rule_some : (x : CfRule) → 1 ≤ length (encode_rule x)
rule_some (Formula formula style stop) = omega arith
rule_some (CellIs operator formula formula2 style stop) = omega arith
rule_some (ColorScale thresholds) = omega arith
rule_some (DataBar min max positive negative gradient show) = omega arith
rule_some (IconSet icons thresholds show) = omega arith
rule_some (IconRating icon color thresholds show) = omega arith
