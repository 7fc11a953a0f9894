-- The error values: their numbers, and how they are written.
use Rattle.std.specs.Prelude.{ℕ, Bool, false, Option, Some, List, [], ◌∷◌, ◌++◌, codes, slice_get, if◌then◌else◌}
use Rattle.base_tables.specs.declared.error.Error.{Error}
use Rattle.base_tables.specs.declared.error.Error.TheVariants.{Ref, Name, Value, DivisionByZero, NotAvailable, Number, General, NotImplemented, Spill, Calc, Circular, Null}
use Rattle.base_tables.specs.declared.language.Language.{Language}
use Rattle.base_tables.specs.declared.language.Language.TheVariants.{En, De, Fr, Es}
use Rattle.base_tables.specs.Tables.{same_text, entry_named}

-- in the order of their codes
abbrev pub all_errors : List Error
all_errors = Ref ∷ Name ∷ Value ∷ DivisionByZero ∷ NotAvailable ∷ Number ∷ General ∷ NotImplemented ∷ Spill ∷ Calc ∷ Circular ∷ Null ∷ []

-- the number in bytes
abbrev pub error_code : Error → ℕ
error_code Ref = 0
error_code Name = 1
error_code Value = 2
error_code DivisionByZero = 3
error_code NotAvailable = 4
error_code Number = 5
error_code General = 6
error_code NotImplemented = 7
error_code Spill = 8
error_code Calc = 9
error_code Circular = 10
error_code Null = 11

abbrev pub error_of_code : ℕ → Option Error
error_of_code code = slice_get all_errors code

-- the English text, which all languages print and read
abbrev pub error_text : Error → List ℕ
error_text Ref = codes "#REF!"
error_text Name = codes "#NAME?"
error_text Value = codes "#VALUE!"
error_text DivisionByZero = codes "#DIV/0!"
error_text NotAvailable = codes "#N/A"
error_text Number = codes "#NUM!"
error_text General = codes "#ERROR!"
error_text NotImplemented = codes "#N/IMPL!"
error_text Spill = codes "#SPILL!"
error_text Calc = codes "#CALC!"
error_text Circular = codes "#CIRC!"
error_text Null = codes "#NULL!"

-- the bytes of `¡`
abbrev pub inverted_exclamation : List ℕ
inverted_exclamation = 0xC2 ∷ 0xA1 ∷ []

-- whether it is the language's own text for a lost reference, which is read and never printed
abbrev pub is_own_reference_error : Language → List ℕ → Bool
is_own_reference_error En text = false
is_own_reference_error De text = same_text (codes "#BEZUG!") text
is_own_reference_error Fr text = false
is_own_reference_error Es text = same_text (codes "#" ++ inverted_exclamation ++ codes "REF!") text

-- the error that a text is read as
abbrev pub error_of_text : Language → List ℕ → Option Error
error_of_text language text = if is_own_reference_error language text then Some Ref else entry_named error_text all_errors text
