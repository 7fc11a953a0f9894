-- A content whose tree is changed fills what it did, and is empty where it was.
use Rattle.std.proofs.Common.{◌≡◌, refl}
use Rattle.base_values.specs.declared.Position.{Position}
use Rattle.formula_tree.specs.declared.Node.{Node}
use Rattle.cell_content.specs.declared.Content.{Content}
use Rattle.cell_content.specs.declared.Content.TheVariants.{Empty, Number, Boolean, Error, Text, Formula, Dynamic, Array}
use Rattle.cell_content.specs.Lens.{content_changed}
use Rattle.sheet_grid.specs.Arrays.{array_at}
use Rattle.sheet_grid.specs.Merges.{is_empty}

module _ (change : Node → Node) where
  pub array_changed : (place : Position) (content : Content) → array_at place (content_changed change content) ≡ array_at place content
  array_changed place Empty = refl
  array_changed place (Number _) = refl
  array_changed place (Boolean _) = refl
  array_changed place (Error _) = refl
  array_changed place (Text _) = refl
  array_changed place (Formula _) = refl
  array_changed place (Dynamic _) = refl
  array_changed place (Array _ _ _) = refl

  pub empty_changed : (content : Content) → is_empty (content_changed change content) ≡ is_empty content
  empty_changed Empty = refl
  empty_changed (Number _) = refl
  empty_changed (Boolean _) = refl
  empty_changed (Error _) = refl
  empty_changed (Text _) = refl
  empty_changed (Formula _) = refl
  empty_changed (Dynamic _) = refl
  empty_changed (Array _ _ _) = refl
