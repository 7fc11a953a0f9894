-- What is printed reads back.
use Rattle.std.specs.Prelude.{◌≡◌, true}
use Rattle.std.specs.Str.{chars}
use Rattle.std.proofs.Common.{refl, ap}
use Rattle.formula_tree.specs.declared.Node.{Node}
use Rattle.cell_content.specs.declared.Content.{Content}
use Rattle.cell_content.specs.declared.Content.TheVariants.{Empty, Number, Boolean, Error, Text, Formula, Dynamic, Array}
use Rattle.cell_content.specs.CanonicalContent.{IsCanonicalContent}
use Rattle.formula_grammar.specs.declared.Profile.{Profile}
use Rattle.formula_read.specs.Lexicon.{IsTokens}
use Rattle.formula_read.specs.Formula.{IsFormula, IsRead, formula_of}
use Rattle.cell_input.specs.Inputs.{input_of, input_text, IsReadAgain}
use Rattle.formula_round.specs.Back.{IsCanonicalNormal, is_normal_content, text_at}
use Rattle.formula_round.specs.Tokens.{tokens_of}
use Rattle.formula_round.proofs.Derived.{tokens_derive}
use Rattle.formula_round.proofs.Printed.{text_is_tokens}

module _ (p : Profile) where
  pub normal_spelled : (tree : Node) → IsCanonicalNormal p tree → IsTokens p.locale p.language (chars (text_at p tree)) (tokens_of p tree)
  normal_spelled tree normal = text_is_tokens p tree normal.normal normal.canonical

  pub normal_formula : (tree : Node) → IsCanonicalNormal p tree → IsFormula p (text_at p tree) tree
  normal_formula tree normal = record { tokens = tokens_of p tree; spelled = normal_spelled tree normal; derives = tokens_derive p tree normal.normal }

  -- a formula is read as its tree
  pub normal_read : (tree : Node) → IsCanonicalNormal p tree → IsRead p (text_at p tree) (formula_of p (text_at p tree)) → formula_of p (text_at p tree) ≡ tree
  normal_read tree normal read = read.only tree (normal_formula tree normal)

  abbrev TreesReadBack : Type 0
  TreesReadBack = (tree : Node) → IsCanonicalNormal p tree → formula_of p (text_at p tree) ≡ tree

  pub content_back : TreesReadBack → IsReadAgain → (content : Content) → is_normal_content p content ≡ true → IsCanonicalContent content
      → input_of p (input_text p content) ≡ content
  content_back trees others Empty normal canonical = others p Empty refl canonical
  content_back trees others (Number number) normal canonical = others p (Number number) refl canonical
  content_back trees others (Boolean value) normal canonical = others p (Boolean value) refl canonical
  content_back trees others (Error error) normal canonical = others p (Error error) refl canonical
  content_back trees others (Text text) normal canonical = others p (Text text) refl canonical
  content_back trees others (Formula tree) normal canonical = ap Formula (trees tree (record { normal = normal; canonical = canonical }))
  content_back trees others (Dynamic tree) normal canonical = absurd cc
  content_back trees others (Array tree _ _) normal canonical = absurd cc
