-- The numbers of an array are canonical where those of each line are.
use Rattle.std.specs.Prelude.{◌≡◌, Bool, ◌&&◌, List, [], ◌∷◌}
use Rattle.std.proofs.Common.{refl, ap, ◌∙◌}
use Rattle.std.specs.List.{list_all}
use Rattle.formula_tree.specs.declared.ArrayItem.{ArrayItem}
use Rattle.formula_tree.specs.declared.ArrayItem.TheVariants as item
use Rattle.formula_tree.specs.declared.Node.TheVariants as node
use Rattle.formula_tree.specs.Numbers.{has_canonical_numbers}
use Rattle.formula_tree.specs.laws.NumbersEquations.{numbers_array}
use Rattle.formula_wire.specs.laws.CanonicalNumbers.{is_canonical_item}

module _ {A : Type 0} (p q : A → Bool) (same : (x : A) → p x ≡ q x) where
  all_same : (xs : List A) → list_all p xs ≡ list_all q xs
  all_same [] = refl
  all_same (x ∷ xs) = ap (λ (test : Bool). test && list_all p xs) (same x) ∙ ap (λ (test : Bool). q x && test) (all_same xs)

-- the numbers of an array are canonical where those of each line are
pub canonical_array : (lines : List (List ArrayItem)) → has_canonical_numbers (node.Array lines) ≡ list_all (list_all is_canonical_item) lines
canonical_array lines =
    numbers_array _ lines
    ∙ all_same _ _ (all_same _ is_canonical_item (λ x. elim x [ item.Boolean value ↦ refl | item.Number value ↦ refl | item.Text text ↦ refl | item.Error error ↦ refl ])) lines
