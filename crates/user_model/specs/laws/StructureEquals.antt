-- `==` of how cells stand to arrays is equality of the values.
use Rattle.std.proofs.Common.{◌≡◌, refl}
use Rattle.std.specs.Bool.{Decides}
use Rattle.std.specs.Cmp.{signed_Decides}
use Rattle.std.proofs.lemmas.Bool.Decides.{Decides-like, Decides-and}
use Rattle.user_model.specs.declared.structure.CellArrayStructure.{CellArrayStructure}
use Rattle.user_model.specs.declared.structure.CellArrayStructure.TheVariants.{SingleCell, DynamicChild, ArrayChild, DynamicAnchor, ArrayAnchor}
use Rattle.user_model.specs.contracts.structure.CellArrayStructurePartialEq.TheImpl as structure

pub structure_equals : (a b : CellArrayStructure) → Decides (structure.ghosts.eq a b) (a ≡ b)
structure_equals SingleCell SingleCell = (λ _. refl, λ _. refl)
structure_equals (DynamicChild m n k l) (DynamicChild p q r s) =
    Decides-like _ (λ h i. DynamicChild (h.0 i) (h.1.0 i) (h.1.1.0 i) (h.1.1.1 i)) (λ e. (first_of e, (second_of e, (third_of e, fourth_of e)))) (Decides-and _ _ (signed_Decides _ _) (Decides-and _ _ (signed_Decides _ _) (Decides-and _ _ (signed_Decides _ _) (signed_Decides _ _))))
  where
    first_of : DynamicChild m n k l ≡ DynamicChild p q r s → m ≡ p
    first_of e = cc

    second_of : DynamicChild m n k l ≡ DynamicChild p q r s → n ≡ q
    second_of e = cc

    third_of : DynamicChild m n k l ≡ DynamicChild p q r s → k ≡ r
    third_of e = cc

    fourth_of : DynamicChild m n k l ≡ DynamicChild p q r s → l ≡ s
    fourth_of e = cc
structure_equals (ArrayChild m n k l) (ArrayChild p q r s) =
    Decides-like _ (λ h i. ArrayChild (h.0 i) (h.1.0 i) (h.1.1.0 i) (h.1.1.1 i)) (λ e. (first_of e, (second_of e, (third_of e, fourth_of e)))) (Decides-and _ _ (signed_Decides _ _) (Decides-and _ _ (signed_Decides _ _) (Decides-and _ _ (signed_Decides _ _) (signed_Decides _ _))))
  where
    first_of : ArrayChild m n k l ≡ ArrayChild p q r s → m ≡ p
    first_of e = cc

    second_of : ArrayChild m n k l ≡ ArrayChild p q r s → n ≡ q
    second_of e = cc

    third_of : ArrayChild m n k l ≡ ArrayChild p q r s → k ≡ r
    third_of e = cc

    fourth_of : ArrayChild m n k l ≡ ArrayChild p q r s → l ≡ s
    fourth_of e = cc
structure_equals (DynamicAnchor m n) (DynamicAnchor p q) =
    Decides-like _ (λ h i. DynamicAnchor (h.0 i) (h.1 i)) (λ e. (first_of e, second_of e)) (Decides-and _ _ (signed_Decides _ _) (signed_Decides _ _))
  where
    first_of : DynamicAnchor m n ≡ DynamicAnchor p q → m ≡ p
    first_of e = cc

    second_of : DynamicAnchor m n ≡ DynamicAnchor p q → n ≡ q
    second_of e = cc
structure_equals (ArrayAnchor m n) (ArrayAnchor p q) =
    Decides-like _ (λ h i. ArrayAnchor (h.0 i) (h.1 i)) (λ e. (first_of e, second_of e)) (Decides-and _ _ (signed_Decides _ _) (signed_Decides _ _))
  where
    first_of : ArrayAnchor m n ≡ ArrayAnchor p q → m ≡ p
    first_of e = cc

    second_of : ArrayAnchor m n ≡ ArrayAnchor p q → n ≡ q
    second_of e = cc
structure_equals SingleCell (DynamicChild _ _ _ _) = (λ e. cc, λ e. cc)
structure_equals SingleCell (ArrayChild _ _ _ _) = (λ e. cc, λ e. cc)
structure_equals SingleCell (DynamicAnchor _ _) = (λ e. cc, λ e. cc)
structure_equals SingleCell (ArrayAnchor _ _) = (λ e. cc, λ e. cc)
structure_equals (DynamicChild _ _ _ _) SingleCell = (λ e. cc, λ e. cc)
structure_equals (DynamicChild _ _ _ _) (ArrayChild _ _ _ _) = (λ e. cc, λ e. cc)
structure_equals (DynamicChild _ _ _ _) (DynamicAnchor _ _) = (λ e. cc, λ e. cc)
structure_equals (DynamicChild _ _ _ _) (ArrayAnchor _ _) = (λ e. cc, λ e. cc)
structure_equals (ArrayChild _ _ _ _) SingleCell = (λ e. cc, λ e. cc)
structure_equals (ArrayChild _ _ _ _) (DynamicChild _ _ _ _) = (λ e. cc, λ e. cc)
structure_equals (ArrayChild _ _ _ _) (DynamicAnchor _ _) = (λ e. cc, λ e. cc)
structure_equals (ArrayChild _ _ _ _) (ArrayAnchor _ _) = (λ e. cc, λ e. cc)
structure_equals (DynamicAnchor _ _) SingleCell = (λ e. cc, λ e. cc)
structure_equals (DynamicAnchor _ _) (DynamicChild _ _ _ _) = (λ e. cc, λ e. cc)
structure_equals (DynamicAnchor _ _) (ArrayChild _ _ _ _) = (λ e. cc, λ e. cc)
structure_equals (DynamicAnchor _ _) (ArrayAnchor _ _) = (λ e. cc, λ e. cc)
structure_equals (ArrayAnchor _ _) SingleCell = (λ e. cc, λ e. cc)
structure_equals (ArrayAnchor _ _) (DynamicChild _ _ _ _) = (λ e. cc, λ e. cc)
structure_equals (ArrayAnchor _ _) (ArrayChild _ _ _ _) = (λ e. cc, λ e. cc)
structure_equals (ArrayAnchor _ _) (DynamicAnchor _ _) = (λ e. cc, λ e. cc)
