-- `==` of changes of rules is equality of their values, and a copy of a change is that change.
use Rattle.std.proofs.Common.{◌≡◌, ℕ, Option, Some, None, refl, ap, rules}
use Rattle.std.specs.Bool.{Decides}
use Rattle.std.specs.Cmp.{unsigned_Decides}
use Rattle.std.proofs.lemmas.Bool.Decides.{Decides-like, Decides-and}
use Rattle.base_values.specs.laws.Decided.{option_equals}
use Rattle.format_rules.specs.laws.RuleEquals.{formatting_equals}
use Rattle.format_rules.specs.declared.formatting.ConditionalFormatting.{ConditionalFormatting}
use Rattle.format_rules.specs.contracts.formatting.ConditionalFormattingClone.TheImpl as formatting
use Rattle.rule_edits.specs.declared.change.RuleChange.{RuleChange}
use Rattle.rule_edits.specs.contracts.change.RuleChangeClone.TheImpl as copied
use Rattle.rule_edits.specs.contracts.change.RuleChangePartialEq.TheImpl as change

pub rule_change_equals : (a b : RuleChange) → Decides (change.ghosts.eq a b) (a ≡ b)
rule_change_equals a b =
    Decides-like _ (λ p i. record { index = p.0 i; old = p.1.0 i; new = p.1.1 i })
    (λ e. (ap (λ x. x.index) e, (ap (λ x. x.old) e, ap (λ x. x.new) e)))
    (Decides-and _ _ (unsigned_Decides _ _) (Decides-and _ _ (option_equals formatting_equals _ _) (option_equals formatting_equals _ _)))

formatting_copies : (a b : ConditionalFormatting) → formatting.ghosts.is_clone a b → b ≡ a
formatting_copies a b h = search rules

-- a change by its index, old and new rule
module _ (i j : ℕ) where
  abbrev Copies : (a b n m : Option ConditionalFormatting) → Type 0
  Copies a b n m = copied.ghosts.is_clone (record { index = i; old = a; new = n }) (record { index = j; old = b; new = m })

  old_copies : (a b n m : Option ConditionalFormatting) → Copies a b n m → b ≡ a
  old_copies None None n m h = refl
  old_copies None (Some y) n m h = absurd h.1.0
  old_copies (Some x) None n m h = absurd h.1.0
  old_copies (Some x) (Some y) n m h = ap Some (formatting_copies x y h.1.0)

  new_copies : (a b n m : Option ConditionalFormatting) → Copies a b n m → m ≡ n
  new_copies a b None None h = refl
  new_copies a b None (Some y) h = absurd h.1.1
  new_copies a b (Some x) None h = absurd h.1.1
  new_copies a b (Some x) (Some y) h = ap Some (formatting_copies x y h.1.1)

pub rule_change_copies : (a b : RuleChange) → copied.ghosts.is_clone a b → b ≡ a
rule_change_copies a b h = λ i. record {
  index = h.0 i;
  old = old_copies a.index b.index a.old b.old a.new b.new h i;
  new = new_copies a.index b.index a.old b.old a.new b.new h i;
}
