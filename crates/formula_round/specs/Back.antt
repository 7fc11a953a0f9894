-- Which trees and contents read back as they were printed.
use Rattle.std.specs.Prelude.{◌≡◌, ℕ, Bool, true, false, List}
use Rattle.formula_tree.specs.declared.Node.{Node}
use Rattle.formula_tree.specs.Numbers.{has_canonical_numbers}
use Rattle.cell_content.specs.declared.Content.{Content}
use Rattle.cell_content.specs.declared.Content.TheVariants.{Empty, Number, Boolean, Error, Text, Formula, Dynamic, Array}
use Rattle.formula_grammar.specs.declared.Profile.{Profile}
use Rattle.formula_grammar.specs.Normal.{is_normal}
use Rattle.formula_print.specs.Forms.{localized_text}

-- what is printed of a tree in a cell, a locale and a language
abbrev pub text_at : Profile → Node → List ℕ
text_at p tree = localized_text p.place p.locale p.language tree

-- a tree that is normal there, and whose numbers are canonical
pub record IsCanonicalNormal (p : Profile) (tree : Node) : Type 0 where
  pub normal : is_normal p.place p.language tree ≡ true
  pub canonical : has_canonical_numbers tree ≡ true

-- the content is no formula, or one with a normal tree. What is printed of a formula that may spill, and of an array, is read as one
-- that does neither
abbrev pub is_normal_content : Profile → Content → Bool
is_normal_content p Empty = true
is_normal_content p (Number _) = true
is_normal_content p (Boolean _) = true
is_normal_content p (Error _) = true
is_normal_content p (Text _) = true
is_normal_content p (Formula tree) = is_normal p.place p.language tree
is_normal_content p (Dynamic _) = false
is_normal_content p (Array _ _ _) = false
