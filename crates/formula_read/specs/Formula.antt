-- The texts that are formulas, and their trees.
use Rattle.std.specs.Prelude.{◌≡◌, ◌==◌, ℕ, true, false, List, [], ◌∷◌, Option, unwrap_or, if◌then◌else◌}
use Rattle.std.specs.Option.{option_and_then}
use Rattle.std.specs.Str.{chars}
use Rattle.base_tables.specs.declared.Language.{Language}
use Rattle.base_tables.specs.declared.Locale.{Locale}
use Rattle.formula_tree.specs.declared.CellReferenceRC.{CellReferenceRC}
use Rattle.formula_tree.specs.declared.Node.{Node}
use Rattle.formula_tree.specs.declared.Node.TheVariants.{ParseError}
use Rattle.formula_tree.specs.Context.{context_place}
use Rattle.formula_tree.specs.ParseError.{is_parse_error}
use Rattle.formula_grammar.specs.declared.Profile.{Profile}
use Rattle.formula_grammar.specs.declared.Token.{Token}
use Rattle.formula_grammar.specs.Grammar.{Derives}
use Rattle.formula_grammar.specs.laws.Reading.{tree_of}
use Rattle.formula_read.specs.laws.Lex.{tokens_of}
use Rattle.formula_read.specs.Lexicon.{IsTokens}

-- what the reading of a formula in a cell depends on
abbrev pub profile_of : CellReferenceRC → Locale → Language → Profile
profile_of context locale language = record { place = context_place context; locale = locale; language = language }

-- a formula's text without an equals sign that leads it
abbrev pub without_equals : List ℕ → List ℕ
without_equals [] = []
without_equals (c ∷ rest) = if c == 61 then rest else c ∷ rest

-- the text, as its bytes, is a formula with this tree: its tokens derive it
pub record IsFormula (p : Profile) (text : List ℕ) (tree : Node) : Type 0 where
  pub tokens : List Token
  pub spelled : IsTokens p.locale p.language (chars text) tokens
  pub derives : Derives p tokens tree

-- the tree of a formula's text, if it is one
abbrev pub found_tree : Profile → List ℕ → Option Node
found_tree p text = option_and_then (tree_of p) (tokens_of p.locale p.language (chars text))

-- what a text is read as: its tree, and a node of the text itself where it is no formula
unfoldable pub formula_of : Profile → List ℕ → Node
formula_of p text = unwrap_or (found_tree p text) (ParseError text)

-- by the grammar: the tree is the text's one formula; where the text has none, it is the node of that text
pub record IsRead (p : Profile) (text : List ℕ) (tree : Node) : Type 0 where
  pub found : is_parse_error tree ≡ false → IsFormula p text tree
  pub only : (other : Node) → IsFormula p text other → tree ≡ other
  pub outside : is_parse_error tree ≡ true → tree ≡ ParseError text
