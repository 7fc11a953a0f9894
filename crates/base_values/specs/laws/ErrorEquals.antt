-- `==` of errors is equality of their values: an error is known by its name and its numbers.
use Rattle.std.proofs.Common.{◌≡◌, ℕ, List, [], ◌∷◌, cond, refl, sym, ◌∙◌}
use Rattle.std.specs.Prelude.{codes}
use Rattle.base_values.specs.ErrorNames.{name_of}
use Rattle.std.specs.Cmp.Lexicographic.{pointwise}
use Rattle.std.specs.Prelude.{nat_eq}
use Rattle.base_values.specs.declared.error.EditError.{EditError}
use Rattle.base_values.specs.declared.error.EditError.TheVariants.{NoMemory, InvalidSheet, InvalidRow, InvalidColumn, InvalidArea, BadCount, OverEdge, TargetOutOfBounds, SplitsArray, SplitsMerge, PartialMerge, CutMerge, PartialArray, NothingToFill, CoveredCell, ArrayCell, MergeOverlap, NoMerge, SheetName, OnlySheet, SheetIds, UnknownName, NameTaken, BadName, BadFormula, StylePath, StyleValue, FrozenCount, NegativeSize, LocaleName, LanguageName, ZoneName, StylesShape, RuleIndex, RuleNumbers, ParseDiffs, ParseWorkbook, DiffRefused, IllFormed, BadOrder, NoSnapshot, OutOfLog, LogFull}

-- the errors without numbers
abbrev pub plain_errors : List EditError
plain_errors =
    NoMemory ∷ InvalidSheet ∷ InvalidRow ∷ InvalidColumn ∷ InvalidArea ∷ BadCount ∷ OverEdge ∷ TargetOutOfBounds ∷ SplitsArray ∷ SplitsMerge ∷
    PartialMerge ∷ CutMerge ∷ PartialArray ∷ NothingToFill ∷ CoveredCell ∷ ArrayCell ∷ MergeOverlap ∷ NoMerge ∷ SheetName ∷ OnlySheet ∷ SheetIds ∷
    UnknownName ∷ NameTaken ∷ BadName ∷ BadFormula ∷ StylePath ∷ StyleValue ∷ FrozenCount ∷ NegativeSize ∷ LocaleName ∷ LanguageName ∷ ZoneName ∷
    StylesShape ∷ RuleIndex ∷ RuleNumbers ∷ ParseDiffs ∷ ParseWorkbook ∷
    BadOrder ∷ NoSnapshot ∷ OutOfLog ∷ LogFull ∷ []

-- the first number of an error, or 0
abbrev pub first_number : EditError → ℕ
first_number (DiffRefused entry diff) = entry
first_number (IllFormed rule) = rule
first_number _ = 0

-- its second number, or 0
abbrev pub second_number : EditError → ℕ
second_number (DiffRefused entry diff) = diff
second_number _ = 0

-- the error of this name among these, or else
abbrev found : List EditError → List ℕ → EditError → EditError
found [] name other = other
found (error ∷ errors) name other = cond (pointwise nat_eq name (name_of error)) error (found errors name other)

abbrev error_of : List ℕ → ℕ → ℕ → EditError
error_of name first second = found plain_errors name (cond (pointwise nat_eq name (codes "IllFormed")) (IllFormed first) (DiffRefused first second))

known : (error : EditError) → error_of (name_of error) (first_number error) (second_number error) ≡ error
known (DiffRefused entry diff) = refl
known (IllFormed rule) = refl
known _ = refl

-- errors of one name with the same numbers are one
pub told_by_name : (a b : EditError) → name_of a ≡ name_of b → first_number a ≡ first_number b → second_number a ≡ second_number b → a ≡ b
told_by_name a b name first second = sym (known a) ∙ (λ i. error_of (name i) (first i) (second i)) ∙ known b
