-- `==` of thresholds is equality of their values.
use Rattle.std.proofs.Common.{◌≡◌, refl, ap}
use Rattle.std.specs.Bool.{Decides}
use Rattle.std.specs.Cmp.{booleans_Decides}
use Rattle.std.proofs.lemmas.Bool.Decides.{Decides-like, Decides-and}
use Rattle.base_values.specs.laws.CodedEq.{same_value_decides}
use Rattle.base_decimal.specs.laws.DecimalEquals.{decimal_equals}
use Rattle.base_styles.specs.laws.ColorEquals.{color_equals}
use Rattle.formula_tree.specs.contracts.node.Node.{the_row as node_row}
use Rattle.format_rules.specs.declared.threshold.Cfvo.{Cfvo}
use Rattle.format_rules.specs.declared.threshold.Cfvo.TheVariants.{Min, Max, Number, Percent, Percentile, Formula}
use Rattle.format_rules.specs.contracts.threshold.CfvoPartialEq.TheImpl as cfvo
use Rattle.format_rules.specs.declared.threshold.ColorThreshold.{ColorThreshold}
use Rattle.format_rules.specs.contracts.threshold.ColorThresholdPartialEq.TheImpl as color_threshold
use Rattle.format_rules.specs.declared.threshold.IconThreshold.{IconThreshold}
use Rattle.format_rules.specs.contracts.threshold.IconThresholdPartialEq.TheImpl as icon_threshold

pub cfvo_equals : (a b : Cfvo) → Decides (cfvo.ghosts.eq a b) (a ≡ b)
cfvo_equals Min Min = (λ _. refl, λ _. refl)
cfvo_equals Max Max = (λ _. refl, λ _. refl)
cfvo_equals (Number x) (Number y) = Decides-like _ (ap Number) (λ e. cc) (decimal_equals x y)
cfvo_equals (Percent x) (Percent y) = Decides-like _ (ap Percent) (λ e. cc) (decimal_equals x y)
cfvo_equals (Percentile x) (Percentile y) = Decides-like _ (ap Percentile) (λ e. cc) (decimal_equals x y)
cfvo_equals (Formula x) (Formula y) = Decides-like _ (ap Formula) (λ e. cc) (same_value_decides node_row.coded x y)
cfvo_equals _ _ = (λ e. cc, λ e. cc)

pub color_threshold_equals : (a b : ColorThreshold) → Decides (color_threshold.ghosts.eq a b) (a ≡ b)
color_threshold_equals a b =
    Decides-like _ (λ p i. record { cfvo = p.0 i; color = p.1 i }) (λ e. (ap (λ x. x.cfvo) e, ap (λ x. x.color) e))
    (Decides-and _ _ (cfvo_equals _ _) (color_equals _ _))

pub icon_threshold_equals : (a b : IconThreshold) → Decides (icon_threshold.ghosts.eq a b) (a ≡ b)
icon_threshold_equals a b =
    Decides-like _ (λ p i. record { cfvo = p.0 i; strict = p.1 i }) (λ e. (ap (λ x. x.cfvo) e, ap (λ x. x.strict) e))
    (Decides-and _ _ (cfvo_equals _ _) (booleans_Decides _ _))
