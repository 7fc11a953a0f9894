-- `==` of rules is equality of their values.
use Rattle.std.proofs.Common.{◌≡◌, refl, ap, sym}
use Rattle.std.specs.Bool.{Decides}
use Rattle.std.specs.Cmp.{IsEquivalence, booleans_Decides, unsigned_Decides}
use Rattle.std.specs.Cmp.Lexicographic.{pointwise_decides}
use Rattle.std.proofs.lemmas.Bool.Decides.{Decides-like, Decides-and, same_from_decides}
use Rattle.base_values.specs.laws.CodedEq.{same_value_decides}
use Rattle.base_values.specs.laws.Decided.{option_equals}
use Rattle.base_axis.specs.laws.MergedEquals.{merged_equals}
use Rattle.base_styles.specs.laws.ColorEquals.{color_equals}
use Rattle.base_styles.specs.laws.StyleEquals.{style_equals}
use Rattle.formula_tree.specs.contracts.node.Node.{the_row as node_row}
use Rattle.format_rules.specs.declared.operator.CfOperator.{CfOperator}
use Rattle.format_rules.specs.declared.operator.CfOperator.TheVariants.{Equal, NotEqual, Less, LessOrEqual, Greater, GreaterOrEqual, Between, NotBetween}
use Rattle.format_rules.specs.contracts.operator.CfOperatorPartialEq.TheImpl as operator
use Rattle.format_rules.specs.declared.rule.CfRule.{CfRule}
use Rattle.format_rules.specs.declared.rule.CfRule.TheVariants.{Formula, CellIs, ColorScale, DataBar, IconSet, IconRating}
use Rattle.format_rules.specs.contracts.rule.CfRulePartialEq.TheImpl as rule
use Rattle.format_rules.specs.declared.formatting.ConditionalFormatting.{ConditionalFormatting}
use Rattle.format_rules.specs.contracts.formatting.ConditionalFormattingPartialEq.TheImpl as formatting
use Rattle.format_rules.specs.laws.ThresholdEquals.{cfvo_equals, color_threshold_equals, icon_threshold_equals}

pub operator_equals : (a b : CfOperator) → Decides (operator.ghosts.eq a b) (a ≡ b)
operator_equals Equal Equal = (λ _. refl, λ _. refl)
operator_equals NotEqual NotEqual = (λ _. refl, λ _. refl)
operator_equals Less Less = (λ _. refl, λ _. refl)
operator_equals LessOrEqual LessOrEqual = (λ _. refl, λ _. refl)
operator_equals Greater Greater = (λ _. refl, λ _. refl)
operator_equals GreaterOrEqual GreaterOrEqual = (λ _. refl, λ _. refl)
operator_equals Between Between = (λ _. refl, λ _. refl)
operator_equals NotBetween NotBetween = (λ _. refl, λ _. refl)
operator_equals _ _ = (λ e. cc, λ e. cc)

pub rule_equals : (a b : CfRule) → Decides (rule.ghosts.eq a b) (a ≡ b)
rule_equals (Formula f s t) (Formula g r u) =
    Decides-like _ (λ p i. Formula (p.0 i) (p.1.0 i) (p.1.1 i)) (λ e. (cc, (cc, cc)))
    (Decides-and _ _ (same_value_decides node_row.coded f g) (Decides-and _ _ (style_equals s r) (booleans_Decides t u)))
rule_equals (CellIs o f h s t) (CellIs q g k r u) =
    Decides-like _ (λ p i. CellIs (p.0 i) (p.1.0 i) (p.1.1.0 i) (p.1.1.1.0 i) (p.1.1.1.1 i)) (λ e. (cc, (cc, (cc, (cc, cc)))))
    (Decides-and _ _ (operator_equals o q) (Decides-and _ _ (same_value_decides node_row.coded f g)
    (Decides-and _ _ (option_equals (same_value_decides node_row.coded) h k) (Decides-and _ _ (style_equals s r) (booleans_Decides t u)))))
rule_equals (ColorScale x) (ColorScale y) = Decides-like _ (ap ColorScale) (λ e. cc) (pointwise_decides color_threshold_equals x y)
rule_equals (DataBar a b c d e f) (DataBar g h i j k l) =
    Decides-like _ (λ p z. DataBar (p.0 z) (p.1.0 z) (p.1.1.0 z) (p.1.1.1.0 z) (p.1.1.1.1.0 z) (p.1.1.1.1.1 z)) (λ e. (cc, (cc, (cc, (cc, (cc, cc))))))
    (Decides-and _ _ (option_equals cfvo_equals a g) (Decides-and _ _ (option_equals cfvo_equals b h) (Decides-and _ _ (color_equals c i)
    (Decides-and _ _ (color_equals d j) (Decides-and _ _ (booleans_Decides e k) (booleans_Decides f l))))))
rule_equals (IconSet n x s) (IconSet m y t) =
    Decides-like _ (λ p i. IconSet (p.0 i) (p.1.0 i) (p.1.1 i)) (λ e. (cc, (cc, cc)))
    (Decides-and _ _ (unsigned_Decides n m) (Decides-and _ _ (pointwise_decides icon_threshold_equals x y) (booleans_Decides s t)))
rule_equals (IconRating n c x s) (IconRating m d y t) =
    Decides-like _ (λ p i. IconRating (p.0 i) (p.1.0 i) (p.1.1.0 i) (p.1.1.1 i)) (λ e. (cc, (cc, (cc, cc))))
    (Decides-and _ _ (unsigned_Decides n m) (Decides-and _ _ (color_equals c d) (Decides-and _ _ (pointwise_decides icon_threshold_equals x y) (booleans_Decides s t))))
rule_equals _ _ = (λ e. cc, λ e. cc)

pub formatting_equals : (a b : ConditionalFormatting) → Decides (formatting.ghosts.eq a b) (a ≡ b)
formatting_equals a b =
    Decides-like _ (λ p i. record { parts = p.0 i; rule = p.1.0 i; priority = p.1.1 i })
    (λ e. (ap (λ x. x.parts) e, (ap (λ x. x.rule) e, ap (λ x. x.priority) e)))
    (Decides-and _ _ (pointwise_decides merged_equals _ _) (Decides-and _ _ (rule_equals _ _) (unsigned_Decides _ _)))

pub formatting_equiv : IsEquivalence formatting.ghosts.eq
formatting_equiv = record {
  refl = λ x. (formatting_equals x x).1 refl;
  symm = λ x y. same_from_decides _ _ (formatting_equals x y) (Decides-like _ sym sym (formatting_equals y x));
  congr = λ x y z e. ap (λ v. formatting.ghosts.eq v z) ((formatting_equals x y).0 e);
}
