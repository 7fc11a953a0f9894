-- `==` of the rules of an edited sheet is equality of their values.
use Rattle.std.proofs.Common.{◌≡◌, ap}
use Rattle.std.specs.Bool.{Decides}
use Rattle.std.specs.Cmp.Lexicographic.{bytes_decides, pointwise_decides}
use Rattle.std.proofs.lemmas.Bool.Decides.{Decides-like, Decides-and}
use Rattle.format_rules.specs.laws.RuleEquals.{formatting_equals}
use Rattle.line_map.specs.declared.edited_rules.EditedRules.{EditedRules}
use Rattle.line_map.specs.contracts.edited_rules.EditedRulesPartialEq.TheImpl as edited_rules

pub edited_rules_equals : (a b : EditedRules) → Decides (edited_rules.ghosts.eq a b) (a ≡ b)
edited_rules_equals a b =
    Decides-like _ (λ p i. record { rules = p.0 i; edited = p.1 i }) (λ e. (ap (λ x. x.rules) e, ap (λ x. x.edited) e))
    (Decides-and _ _ (pointwise_decides formatting_equals _ _) (bytes_decides _ _))
