-- What English texts in the cell at a place are read and printed with.
use Rattle.std.specs.Prelude.{ℕ, List}
use Rattle.base_values.specs.declared.Position.{Position}
use Rattle.base_tables.specs.declared.Language.TheVariants as language
use Rattle.base_tables.specs.declared.Locale.TheVariants as locale
use Rattle.formula_grammar.specs.declared.Profile.{Profile}
use Rattle.formula_read.specs.Formula.{formula_of, without_equals}
use Rattle.formula_tree.specs.declared.Node.{Node}

abbrev pub english : Position → Profile
english place = record { place = place; locale = locale.En; language = language.En }

-- the tree of a formula's text, which may be led by an equals sign
abbrev pub english_tree : Position → List ℕ → Node
english_tree place text = formula_of (english place) (without_equals text)
