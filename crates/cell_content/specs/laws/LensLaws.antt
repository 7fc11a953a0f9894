-- What is got is what was put, and nothing else changes.
use Rattle.std.proofs.Common.{◌≡◌, refl, ap, sym}
use Rattle.std.specs.Prelude.{Some, None, IsTrue, IfSome}
use Rattle.std.specs.Option.{option_map}
use Rattle.formula_tree.specs.declared.Node.{Node}
use Rattle.formula_tree.specs.Numbers.{has_canonical_numbers}
use Rattle.cell_content.specs.declared.content.Content.{Content}
use Rattle.cell_content.specs.declared.content.Content.TheVariants.{Empty, Number, Boolean, Error, Text, Formula, Dynamic, Array}
use Rattle.cell_content.specs.CanonicalContent.{IsCanonicalContent}
use Rattle.cell_content.specs.Lens.{tree_of, with_tree}

-- the tree put is the tree got, where there was one
pub tree_of-with_tree : (content : Content) (tree : Node) → tree_of (with_tree content tree) ≡ option_map (λ _. tree) (tree_of content)
tree_of-with_tree Empty tree = refl
tree_of-with_tree (Number _) tree = refl
tree_of-with_tree (Boolean _) tree = refl
tree_of-with_tree (Error _) tree = refl
tree_of-with_tree (Text _) tree = refl
tree_of-with_tree (Formula _) tree = refl
tree_of-with_tree (Dynamic _) tree = refl
tree_of-with_tree (Array _ _ _) tree = refl

-- a content whose tree is put in stays as it was
pub with_own_tree : (content : Content) (tree : Node) → tree_of content ≡ Some tree → with_tree content tree ≡ content
with_own_tree Empty tree is = refl
with_own_tree (Number _) tree is = refl
with_own_tree (Boolean _) tree is = refl
with_own_tree (Error _) tree is = refl
with_own_tree (Text _) tree is = refl
with_own_tree (Formula own) tree is = let same : own ≡ tree = cc in ap Formula (sym same)
with_own_tree (Dynamic own) tree is = let same : own ≡ tree = cc in ap Dynamic (sym same)
with_own_tree (Array own width height) tree is = let same : own ≡ tree = cc in ap (λ t. Array t width height) (sym same)

-- so does one without a tree
pub with_tree-none : (content : Content) (tree : Node) → tree_of content ≡ None → with_tree content tree ≡ content
with_tree-none Empty tree is = refl
with_tree-none (Number _) tree is = refl
with_tree-none (Boolean _) tree is = refl
with_tree-none (Error _) tree is = refl
with_tree-none (Text _) tree is = refl
with_tree-none (Formula _) tree is = cc
with_tree-none (Dynamic _) tree is = cc
with_tree-none (Array _ _ _) tree is = cc

-- of two trees put in one after the other the second stands
pub with_tree-with_tree : (content : Content) (first second : Node) → with_tree (with_tree content first) second ≡ with_tree content second
with_tree-with_tree Empty first second = refl
with_tree-with_tree (Number _) first second = refl
with_tree-with_tree (Boolean _) first second = refl
with_tree-with_tree (Error _) first second = refl
with_tree-with_tree (Text _) first second = refl
with_tree-with_tree (Formula _) first second = refl
with_tree-with_tree (Dynamic _) first second = refl
with_tree-with_tree (Array _ _ _) first second = refl

-- the tree of a content with canonical numbers has canonical numbers
pub tree_of-kept : (content : Content) → IsCanonicalContent content → IfSome (tree_of content) (λ tree. IsTrue (has_canonical_numbers tree))
tree_of-kept Empty kept = tt
tree_of-kept (Number _) kept = tt
tree_of-kept (Boolean _) kept = tt
tree_of-kept (Error _) kept = tt
tree_of-kept (Text _) kept = tt
tree_of-kept (Formula tree) kept = kept
tree_of-kept (Dynamic tree) kept = kept
tree_of-kept (Array tree _ _) kept = kept

-- a kept content stays so with such a tree
pub with_tree-kept : (content : Content) (tree : Node) → IsCanonicalContent content → IsTrue (has_canonical_numbers tree) → IsCanonicalContent (with_tree content tree)
with_tree-kept Empty tree kept numbers = kept
with_tree-kept (Number _) tree kept numbers = kept
with_tree-kept (Boolean _) tree kept numbers = kept
with_tree-kept (Error _) tree kept numbers = kept
with_tree-kept (Text _) tree kept numbers = kept
with_tree-kept (Formula _) tree kept numbers = numbers
with_tree-kept (Dynamic _) tree kept numbers = numbers
with_tree-kept (Array _ _ _) tree kept numbers = numbers
