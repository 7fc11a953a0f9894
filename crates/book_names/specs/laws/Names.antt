-- Defined names whose trees are renamed: they come back with what was kept.
use Rattle.std.proofs.Common.{◌≡◌, ℕ, List, map, Option, Some, None, refl, sym, subst}
use Rattle.std.specs.Prelude.{IfSome}
use Rattle.std.specs.List.{AllByRecursion}
use Rattle.std.specs.FinMap.{get}
use Rattle.std.proofs.lemmas.List.Elements.{recursion_from_All}
use Rattle.base_maps.specs.laws.ByIndexLaws.{items_regained, kept_are}
use Rattle.formula_tree.specs.declared.Node.{Node}
use Rattle.formula_names.specs.declared.Reach.{Reach}
use Rattle.formula_names.specs.declared.Reach.TheVariants.{Sheets}
use Rattle.formula_names.specs.Renamed.{tree_kept}
use Rattle.formula_names.specs.laws.RenamedLaws.{nothing_kept, something_kept}
use Rattle.defined_names.specs.declared.DefinedName.{DefinedName}
use Rattle.book_names.specs.Renaming.{defined_renamed, defined_kept, names_kept, with_kept_tree, names_back}

module _ (P : Node → Type 0) where
  module _ (there back : Reach) (old new : List ℕ) where
    part_at : (tree : Node) (o : Option Node) → tree_kept there back old new tree ≡ o → P tree → IfSome o P
    part_at tree None is h = tt
    part_at tree (Some part) is h = subst P (sym (something_kept there back old new tree part is).itself) h

    -- what holds of a tree holds of what is kept of it
    pub part_is : (tree : Node) → P tree → IfSome (tree_kept there back old new tree) P
    part_is tree h = part_at tree (tree_kept there back old new tree) refl h

  -- what holds of the tree of each defined name holds of all that is kept
  pub name_parts_are : (old new : List ℕ) (names : List DefinedName) → AllByRecursion (λ (name : DefinedName). P name.formula) names → (q : ℕ) → IfSome (get (names_kept old new names) q) P
  name_parts_are old new = kept_are (defined_kept old new) (λ (name : DefinedName). P name.formula) P (λ name. part_is Sheets Sheets old new name.formula)

-- the defined names come back with what is kept of them
pub names_regained : (old new : List ℕ) (names : List DefinedName) → names_back Sheets old new (get (names_kept old new names)) (map (defined_renamed Sheets old new) names) ≡ names
names_regained old new names =
    items_regained (defined_kept old new) (defined_renamed Sheets old new) (defined_renamed Sheets new old) with_kept_tree (λ _. Unit {0})
    (λ name _ h i. record name { formula = nothing_kept Sheets Sheets old new name.formula h i })
    (λ name _ part h i. record name { formula = (something_kept Sheets Sheets old new name.formula part h).itself i }) names
    (recursion_from_All (λ _. Unit {0}) names (λ _ _ _. tt))
