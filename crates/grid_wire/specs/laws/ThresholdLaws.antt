-- The laws of the bytes of thresholds.
use Rattle.std.proofs.Common.{◌≡◌, ◌≤◌, List, ◌++◌, ℕ, length, Ok, refl, arith, eqb}
use Rattle.std.proofs.lemmas.List.{length-append}
use Rattle.format_rules.specs.declared.Cfvo.{Cfvo}
use Rattle.format_rules.specs.declared.Cfvo.TheVariants.{Min, Max, Number, Percent, Percentile, Formula}
use Rattle.format_rules.specs.declared.ColorThreshold.{ColorThreshold}
use Rattle.format_rules.specs.declared.IconThreshold.{IconThreshold}
use Rattle.base_wire.specs.Encoding.{FitsItems}
use Rattle.base_wire.specs.laws.Again.{ReadsAgain}
use Rattle.base_wire.specs.laws.Format.{Format, list_format, option_format}
use Rattle.base_wire.specs.laws.Formats.{both_format, made_format}
use Rattle.base_wire.specs.laws.Parts.{boolean_format, decimal_again, decimal_encoded, decimal_plain}
use Rattle.base_wire.specs.laws.Refusals.{IsPlain, map_plain, plain_plain, refused_plain, if_plain, tagged_plain}
use Rattle.base_wire.specs.laws.Encoded.{ReadsEncoded, tag_map, tag_plain, tag_refused, tag_if, tagged_encoded}
use Rattle.formula_wire.specs.laws.NodeLaws.{node_again, node_encoded, node_plain}
use Rattle.grid_wire.specs.laws.CellFormats.{color_format}
use Rattle.grid_wire.specs.ThresholdBytes.{encode_cfvo, FitsCfvo, encode_color_threshold, FitsColorThreshold, encode_colors, encode_icon_threshold, FitsIconThreshold, encode_icons}
use Rattle.grid_wire.specs.laws.RuleReading.{cfvo_of, cfvo_at, bound_at, color_threshold_made, color_threshold_at, colors_at, icon_threshold_made, icon_threshold_at, icons_at}
use Rattle.std.specs.Prelude.{IfSome}
use Rattle.base_wire.specs.Encoding.{boolean_code, encode_code, encode_option}
use Rattle.grid_wire.specs.StyleBytes.{encode_color}

cfvo_again : ReadsAgain FitsCfvo encode_cfvo cfvo_at
unfolding cfvo_at
cfvo_again = record { again = one }
  where
    one : (x : Cfvo) (rest : List ℕ) → FitsCfvo x → cfvo_at (encode_cfvo x ++ rest) ≡ Ok (x, rest)
    one Min rest fits = refl
    one Max rest fits = refl
    one (Number number) rest fits = rw (decimal_again.again number rest fits) refl
    one (Percent number) rest fits = rw (decimal_again.again number rest fits) refl
    one (Percentile number) rest fits = rw (decimal_again.again number rest fits) refl
    one (Formula tree) rest fits = rw (node_again.again tree rest fits) refl

cfvo_encoded : ReadsEncoded FitsCfvo encode_cfvo cfvo_at
unfolding cfvo_at
cfvo_encoded =
    tagged_encoded cfvo_of (λ kind.
    tag_if kind 0 (tag_plain FitsCfvo encode_cfvo 0 Min refl tt)
    (tag_if kind 1 (tag_plain FitsCfvo encode_cfvo 1 Max refl tt)
    (tag_if kind 2 (tag_map decimal_encoded Number FitsCfvo encode_cfvo 2 (λ x. refl) (λ x fits. fits))
    (tag_if kind 3 (tag_map decimal_encoded Percent FitsCfvo encode_cfvo 3 (λ x. refl) (λ x fits. fits))
    (tag_if kind 4 (tag_map decimal_encoded Percentile FitsCfvo encode_cfvo 4 (λ x. refl) (λ x fits. fits))
    (tag_if kind 5 (tag_map node_encoded Formula FitsCfvo encode_cfvo 5 (λ x. refl) (λ x fits. fits))
    (tag_refused FitsCfvo encode_cfvo kind)))))))

cfvo_plain : IsPlain cfvo_at
unfolding cfvo_at
cfvo_plain =
    tagged_plain cfvo_of (λ kind.
    if_plain (eqb kind 0) (plain_plain _)
    (if_plain (eqb kind 1) (plain_plain _)
    (if_plain (eqb kind 2) (map_plain Number decimal_plain)
    (if_plain (eqb kind 3) (map_plain Percent decimal_plain)
    (if_plain (eqb kind 4) (map_plain Percentile decimal_plain)
    (if_plain (eqb kind 5) (map_plain Formula node_plain) refused_plain))))))

pub cfvo_format : Format FitsCfvo encode_cfvo cfvo_at
cfvo_format = record { again = cfvo_again; encoded = cfvo_encoded; plain = cfvo_plain }

pub cfvo_some : (x : Cfvo) → 1 ≤ length (encode_cfvo x)
cfvo_some Min = omega arith
cfvo_some Max = omega arith
cfvo_some (Number number) = omega arith
cfvo_some (Percent number) = omega arith
cfvo_some (Percentile number) = omega arith
cfvo_some (Formula tree) = omega arith

pub bound_format : Format (λ o. IfSome o FitsCfvo) (encode_option encode_cfvo) bound_at
unfolding bound_at
bound_format = option_format cfvo_format

pub color_threshold_format : Format FitsColorThreshold encode_color_threshold color_threshold_at
unfolding color_threshold_at
color_threshold_format =
    made_format (both_format cfvo_format color_format) color_threshold_made (λ threshold. (threshold.cfvo, threshold.color))
    (λ threshold fits. (refl, (fits.cfvo, fits.color))) (λ x fits. (refl, record { cfvo = fits.0; color = fits.1 }))

pub color_threshold_some : (x : ColorThreshold) → 1 ≤ length (encode_color_threshold x)
color_threshold_some x = omega (arith, cfvo_some x.cfvo, length-append (encode_cfvo x.cfvo) (encode_color x.color))

pub colors_format : Format (FitsItems FitsColorThreshold) encode_colors colors_at
unfolding colors_at
colors_format = list_format color_threshold_format color_threshold_some

pub icon_threshold_format : Format FitsIconThreshold encode_icon_threshold icon_threshold_at
unfolding icon_threshold_at
icon_threshold_format =
    made_format (both_format cfvo_format boolean_format) icon_threshold_made (λ threshold. (threshold.cfvo, threshold.strict))
    (λ threshold fits. (refl, (fits, tt))) (λ x fits. (refl, fits.0))

pub icon_threshold_some : (x : IconThreshold) → 1 ≤ length (encode_icon_threshold x)
icon_threshold_some x = omega (arith, cfvo_some x.cfvo, length-append (encode_cfvo x.cfvo) (encode_code boolean_code x.strict))

pub icons_format : Format (FitsItems FitsIconThreshold) encode_icons icons_at
unfolding icons_at
icons_format = list_format icon_threshold_format icon_threshold_some
