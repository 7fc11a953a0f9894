-- The languages: their numbers and names, and the words for true and false.
use Rattle.std.specs.Prelude.{ℕ, Bool, true, false, Option, Some, None, List, [], ◌∷◌, codes, slice_get, if◌then◌else◌}
use Rattle.base_tables.specs.declared.language.Language.{Language}
use Rattle.base_tables.specs.declared.language.Language.TheVariants.{En, De, Fr, Es}
use Rattle.base_tables.specs.Tables.{entry_named, same_word}

-- in the order of their codes
abbrev pub all_languages : List Language
all_languages = En ∷ De ∷ Fr ∷ Es ∷ []

-- one of four values, by the language
abbrev pub in_language : {T : Type 0} → Language → T → T → T → T → T
in_language En en de fr es = en
in_language De en de fr es = de
in_language Fr en de fr es = fr
in_language Es en de fr es = es

-- the number in bytes
abbrev pub language_code : Language → ℕ
language_code language = in_language language 0 1 2 3

abbrev pub language_of_code : ℕ → Option Language
language_of_code code = slice_get all_languages code

abbrev pub language_name : Language → List ℕ
language_name language = in_language language (codes "en") (codes "de") (codes "fr") (codes "es")

abbrev pub language_of_name : List ℕ → Option Language
language_of_name text = entry_named language_name all_languages text

-- the word for true or for false
abbrev pub boolean_text : Language → Bool → List ℕ
boolean_text language true = in_language language (codes "TRUE") (codes "WAHR") (codes "VRAI") (codes "VERDADERO")
boolean_text language false = in_language language (codes "FALSE") (codes "FALSCH") (codes "FAUX") (codes "FALSO")

-- the truth value whose word the text is, in capitals or small letters
abbrev pub boolean_of_text : Language → List ℕ → Option Bool
boolean_of_text language text =
    if same_word (boolean_text language true) text then Some true else (if same_word (boolean_text language false) text then Some false else None)
