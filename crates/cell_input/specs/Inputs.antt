-- Which content a text is read as, and which text a content is printed as.
use Rattle.std.specs.Prelude.{◌≡◌, ℕ, Bool, false, ◌==◌, ◌||◌, List, [], ◌∷◌, Option, None, if◌then◌else◌, unwrap_or}
use Rattle.std.specs.Option.{option_map, option_map_or, option_or}
use Rattle.base_tables.specs.declared.Language.{Language}
use Rattle.base_tables.specs.declared.Locale.{Locale}
use Rattle.base_tables.specs.Error.{error_text, error_of_text}
use Rattle.base_tables.specs.Language.{boolean_text, boolean_of_text}
use Rattle.base_tables.specs.Locale.{decimal_sign}
use Rattle.base_tables.specs.Tables.{same_text}
use Rattle.base_decimal.specs.laws.Reading.{decimal_of}
use Rattle.base_decimal.specs.Printed.{printed}
use Rattle.formula_print.specs.Forms.{localized_text}
use Rattle.formula_tree.specs.declared.Node.{Node}
use Rattle.formula_grammar.specs.declared.Profile.{Profile}
use Rattle.cell_content.specs.declared.Content.{Content}
use Rattle.cell_content.specs.declared.Content.TheVariants.{Empty, Number, Boolean, Error, Text, Formula, Dynamic, Array}
use Rattle.cell_content.specs.CanonicalContent.{IsCanonicalContent}
use Rattle.cell_content.specs.Lens.{tree_of}
use Rattle.formula_read.specs.Formula.{formula_of}

-- ---- reading

-- the boolean that a text is the word of, else the error whose text it is, else the number that it writes
unfoldable pub value_of_text : Locale → Language → List ℕ → Option Content
value_of_text locale language text =
    option_or (option_map Boolean (boolean_of_text language text))
    (option_or (option_map Error (error_of_text language text)) (option_map Number (decimal_of (decimal_sign locale) text)))

-- no text is the empty content; what follows a leading apostrophe is a text, and what follows an equals sign a formula; and
-- what is no value is a text
abbrev pub input_of : Profile → List ℕ → Content
input_of p [] = Empty
input_of p (c ∷ rest) =
    if c == 39 then Text rest
    else if c == 61 then Formula (formula_of p rest)
    else unwrap_or (value_of_text p.locale p.language (c ∷ rest)) (Text (c ∷ rest))

-- ---- printing

-- whether the content is this text
abbrev pub is_text : List ℕ → Content → Bool
is_text text Empty = false
is_text text (Number _) = false
is_text text (Boolean _) = false
is_text text (Error _) = false
is_text text (Text read) = same_text read text
is_text text (Formula _) = false
is_text text (Dynamic _) = false
is_text text (Array _ _ _) = false

-- whether the text is read as itself
abbrev pub reads_as_text : Profile → List ℕ → Bool
reads_as_text p text = is_text text (input_of p text)

-- whether the text begins with an apostrophe or an equals sign
abbrev pub has_lead : List ℕ → Bool
has_lead [] = false
has_lead (c ∷ rest) = c == 39 || c == 61

-- an apostrophe leads a text that would be read as anything else
abbrev pub marked_text : Profile → List ℕ → List ℕ
marked_text p text = if reads_as_text p text then text else 39 ∷ text

-- a formula's text behind an equals sign
abbrev pub formula_text : Profile → Node → List ℕ
formula_text p tree = 61 ∷ localized_text p.place p.locale p.language tree

-- the text of a content without a formula; an empty one has none
abbrev pub value_text : Profile → Content → List ℕ
value_text p (Number number) = printed (decimal_sign p.locale) number
value_text p (Boolean value) = boolean_text p.language value
value_text p (Error error) = error_text error
value_text p (Text text) = marked_text p text
value_text p content = []

-- a content is printed as its formula, or as its value
abbrev pub input_text : Profile → Content → List ℕ
input_text p content = option_map_or (formula_text p) (tree_of content) (value_text p content)

-- ---- what is read again

-- what is printed of a content without a formula is read as that content
abbrev pub IsReadAgain : Type 0
IsReadAgain =
    (p : Profile) (content : Content) → tree_of content ≡ None → IsCanonicalContent content → input_of p (input_text p content) ≡ content
