-- `==` of defined names is equality of their values.
use Rattle.std.proofs.Common.{◌≡◌, Bool, refl, ap, sym}
use Rattle.std.specs.Bool.{Decides}
use Rattle.std.specs.Cmp.{IsEquivalence, unsigned_Decides}
use Rattle.std.specs.Cmp.Lexicographic.{bytes_decides}
use Rattle.std.proofs.lemmas.Bool.Decides.{Decides-like, Decides-and, same_from_decides}
use Rattle.base_values.specs.laws.CodedEq.{same_value_decides}
use Rattle.base_values.specs.laws.Decided.{option_equals}
use Rattle.formula_tree.specs.contracts.node.Node as node
use Rattle.defined_names.specs.declared.defined_name.DefinedName.{DefinedName}
use Rattle.defined_names.specs.contracts.defined_name.DefinedNamePartialEq.TheImpl as name

pub defined_name_equals : (a b : DefinedName) → Decides (name.ghosts.eq a b) (a ≡ b)
defined_name_equals a b =
    Decides-like _ (λ p i. record { name = p.0 i; scope = p.1.0 i; formula = p.1.1 i })
    (λ e. (ap (λ x. x.name) e, (ap (λ x. x.scope) e, ap (λ x. x.formula) e)))
    (Decides-and _ _ (bytes_decides _ _) (Decides-and _ _ (option_equals unsigned_Decides _ _) (same_value_decides node.the_row.coded _ _)))

pub name_equiv : IsEquivalence name.ghosts.eq
name_equiv = record {
  refl = λ x. (defined_name_equals x x).1 refl;
  symm = λ x y. same_from_decides _ _ (defined_name_equals x y) (Decides-like _ sym sym (defined_name_equals y x));
  congr = λ x y z e. ap (λ v. name.ghosts.eq v z) ((defined_name_equals x y).0 e);
}
