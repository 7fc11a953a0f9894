-- `==` of changes of names is equality of their values.
use Rattle.std.proofs.Common.{◌≡◌, ap}
use Rattle.std.specs.Bool.{Decides}
use Rattle.std.specs.Cmp.{unsigned_Decides}
use Rattle.std.proofs.lemmas.Bool.Decides.{Decides-like, Decides-and}
use Rattle.base_values.specs.laws.Decided.{option_equals}
use Rattle.defined_names.specs.laws.NameEquals.{defined_name_equals}
use Rattle.name_edits.specs.declared.name_change.NameChange.{NameChange}
use Rattle.name_edits.specs.contracts.name_change.NameChangePartialEq.TheImpl as change

pub name_change_equals : (a b : NameChange) → Decides (change.ghosts.eq a b) (a ≡ b)
name_change_equals a b =
    Decides-like _ (λ p i. record { index = p.0 i; old = p.1.0 i; new = p.1.1 i })
    (λ e. (ap (λ x. x.index) e, (ap (λ x. x.old) e, ap (λ x. x.new) e)))
    (Decides-and _ _ (unsigned_Decides _ _) (Decides-and _ _ (option_equals defined_name_equals _ _) (option_equals defined_name_equals _ _)))
