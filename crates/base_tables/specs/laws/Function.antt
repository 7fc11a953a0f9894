-- Laws of the functions: their numbers, and their names in each language.
use Rattle.std.proofs.Common.{refl, subst}
use Rattle.std.specs.Prelude.{◌≡◌, ℕ, Some, List}
use Rattle.std.specs.List.{find}
use Rattle.std.specs.Cmp.Lexicographic.{bytes_decides}
use Rattle.base_tables.specs.declared.function.Function.{Function}
use Rattle.base_tables.specs.declared.function.Function.TheVariants.{Sum}
use Rattle.base_tables.specs.declared.language.Language.{Language}
use Rattle.base_tables.specs.declared.language.Language.TheVariants.{En, De, Fr, Es}
use Rattle.base_tables.specs.Tables.{same_text, lowered, same_word}
use Rattle.base_tables.specs.laws.Tables.{find_passes, found_number}
use Rattle.base_tables.specs.Function.{all_functions, function_code, function_of_code, function_name, function_of_name}

-- the function that is found has the code
pub found_function : (code : ℕ) (function : Function) → function_of_code code ≡ Some function → function_code function ≡ code
found_function = found_number function_code all_functions refl

-- a function's name in a language is read as the function
pub function_of_name-function_name : (language : Language) (function : Function) → function_of_name language (function_name language function) ≡ Some function
function_of_name-function_name En Sum = refl
function_of_name-function_name De Sum = refl
function_of_name-function_name Fr Sum = refl
function_of_name-function_name Es Sum = refl
function_of_name-function_name _ _ = refl

-- so is any text that is the name but for the case of A to Z
pub read_function : (language : Language) (text : List ℕ) (function : Function) → lowered (function_name language function) ≡ lowered text → function_of_name language text ≡ Some function
read_function language text function e =
    subst (λ (small : List ℕ). find (λ f. same_text (lowered (function_name language f)) small) all_functions ≡ Some function) e (function_of_name-function_name language function)

-- the function that is found has the name, but for the case of A to Z
pub named_function : (language : Language) (text : List ℕ) (function : Function) → function_of_name language text ≡ Some function → lowered (function_name language function) ≡ lowered text
named_function language text function e =
    (bytes_decides _ _).0 (find_passes (λ f. same_word (function_name language f) text) all_functions function e)
