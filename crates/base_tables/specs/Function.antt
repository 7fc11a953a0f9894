-- The functions: their numbers, and their names in each language.
use Rattle.std.specs.Prelude.{ℕ, Option, List, [], ◌∷◌, codes, slice_get}
use Rattle.std.specs.List.{find}
use Rattle.base_tables.specs.declared.function.Function.{Function}
use Rattle.base_tables.specs.declared.function.Function.TheVariants.{Sum, If, And, Or, Not, True, False, Min, Max, Abs, Sqrt, Average, Count, Round, Date, Day, Month, Weekday, Subtotal, Row, Column, Let}
use Rattle.base_tables.specs.declared.language.Language.{Language}
use Rattle.base_tables.specs.Language.{in_language}
use Rattle.base_tables.specs.Tables.{same_word}

-- in the order of their codes
abbrev pub all_functions : List Function
all_functions =
    Sum ∷ If ∷ And ∷ Or ∷ Not ∷ True ∷ False ∷ Min ∷ Max ∷ Abs ∷ Sqrt
    ∷ Average ∷ Count ∷ Round ∷ Date ∷ Day ∷ Month ∷ Weekday ∷ Subtotal ∷ Row ∷ Column ∷ Let ∷ []

-- the number in bytes
abbrev pub function_code : Function → ℕ
function_code Sum = 0
function_code If = 1
function_code And = 2
function_code Or = 3
function_code Not = 4
function_code True = 5
function_code False = 6
function_code Min = 7
function_code Max = 8
function_code Abs = 9
function_code Sqrt = 10
function_code Average = 11
function_code Count = 12
function_code Round = 13
function_code Date = 14
function_code Day = 15
function_code Month = 16
function_code Weekday = 17
function_code Subtotal = 18
function_code Row = 19
function_code Column = 20
function_code Let = 21

abbrev pub function_of_code : ℕ → Option Function
function_of_code code = slice_get all_functions code

abbrev pub function_name : Language → Function → List ℕ
function_name language Sum = in_language language (codes "SUM") (codes "SUMME") (codes "SOMME") (codes "SUMA")
function_name language If = in_language language (codes "IF") (codes "WENN") (codes "SI") (codes "SI")
function_name language And = in_language language (codes "AND") (codes "UND") (codes "ET") (codes "Y")
function_name language Or = in_language language (codes "OR") (codes "ODER") (codes "OU") (codes "O")
function_name language Not = in_language language (codes "NOT") (codes "NICHT") (codes "NON") (codes "NO")
function_name language True = in_language language (codes "TRUE") (codes "WAHR") (codes "VRAI") (codes "VERDADERO")
function_name language False = in_language language (codes "FALSE") (codes "FALSCH") (codes "FAUX") (codes "FALSO")
function_name language Min = in_language language (codes "MIN") (codes "MIN") (codes "MIN") (codes "MIN")
function_name language Max = in_language language (codes "MAX") (codes "MAX") (codes "MAX") (codes "MAX")
function_name language Abs = in_language language (codes "ABS") (codes "ABS") (codes "ABS") (codes "ABS")
function_name language Sqrt = in_language language (codes "SQRT") (codes "WURZEL") (codes "RACINE") (codes "RAIZ")
function_name language Average = in_language language (codes "AVERAGE") (codes "MITTELWERT") (codes "MOYENNE") (codes "PROMEDIO")
function_name language Count = in_language language (codes "COUNT") (codes "ANZAHL") (codes "NB") (codes "CONTAR")
function_name language Round = in_language language (codes "ROUND") (codes "RUNDEN") (codes "ARRONDI") (codes "REDONDEAR")
function_name language Date = in_language language (codes "DATE") (codes "DATUM") (codes "DATE") (codes "FECHA")
function_name language Day = in_language language (codes "DAY") (codes "TAG") (codes "JOUR") (codes "DIA")
function_name language Month = in_language language (codes "MONTH") (codes "MONAT") (codes "MOIS") (codes "MES")
function_name language Weekday = in_language language (codes "WEEKDAY") (codes "WOCHENTAG") (codes "JOURSEM") (codes "DIASEM")
function_name language Subtotal = in_language language (codes "SUBTOTAL") (codes "TEILERGEBNIS") (codes "SOUS.TOTAL") (codes "SUBTOTALES")
function_name language Row = in_language language (codes "ROW") (codes "ZEILE") (codes "LIGNE") (codes "FILA")
function_name language Column = in_language language (codes "COLUMN") (codes "SPALTE") (codes "COLONNE") (codes "COLUMNA")
function_name language Let = in_language language (codes "LET") (codes "LET") (codes "LET") (codes "LET")

-- the function with that name in the language, in capitals or small letters
abbrev pub function_of_name : Language → List ℕ → Option Function
function_of_name language text = find (λ function. same_word (function_name language function) text) all_functions
