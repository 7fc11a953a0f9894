-- Progressions: how a list of texts goes on.
use Rattle.std.specs.Prelude.{ℕ, ℤ, List, [], ◌∷◌, ◌++◌, map, Option, None}
use Rattle.std.specs.Option.{option_map, option_or}
use Rattle.base_tables.specs.declared.Locale.{Locale}
use Rattle.sheet_progress.specs.declared.case.CaseStyle.{CaseStyle}
use Rattle.sheet_progress.specs.declared.names.NameList.{NameList}
use Rattle.sheet_progress.specs.declared.progression.NumericProgression.{NumericProgression}
use Rattle.sheet_progress.specs.declared.progression.Progression.{Progression}
use Rattle.sheet_progress.specs.declared.progression.Progression.TheVariants.{Numeric, SuffixedNumber, Date}
use Rattle.sheet_progress.specs.Names.{normal_form, names, all_lists, place_among, name_at, case_style, cased}
use Rattle.sheet_progress.specs.Numbers.{number_in, number_text}
use Rattle.sheet_progress.specs.Steps.{Steps, number_at}
use Rattle.sheet_progress.specs.Suffixes.{prefix_of, suffix_number}
use Rattle.sheet_progress.specs.Texts.{steps_in}

-- ---- which progression texts have

-- numbers of a locale with the same step
abbrev pub numeric_steps : Locale → Option Steps → Option NumericProgression
numeric_steps locale steps = option_map (λ steps. record { steps = steps; locale = locale }) steps

-- the texts are numbers
unfoldable pub numeric_of : Locale → List (List ℕ) → Option Progression
numeric_of locale texts = option_map Numeric (numeric_steps locale (steps_in (number_in locale) texts))

-- the texts end in numbers behind the same prefix, which is that of the first
unfoldable pub suffixed_of : Locale → List (List ℕ) → Option Progression
suffixed_of locale [] = None
suffixed_of locale (first ∷ texts) =
    let prefix = prefix_of first in
    option_map (λ numbers. SuffixedNumber (record { prefix = prefix; numbers = numbers }))
    (numeric_steps locale (steps_in (suffix_number locale prefix) (first ∷ texts)))

-- the texts are names of one list, and their places have the same step
unfoldable pub named_in : Locale → CaseStyle → List (List ℕ) → NameList → Option Progression
named_in locale style texts list =
    option_map (λ places. Date (record { places = places; list = list; locale = locale; style = style }))
    (steps_in (place_among (map normal_form (names list locale))) texts)

-- what the first list gives for which there is something
abbrev pub first_of : (NameList → Option Progression) → List NameList → Option Progression
first_of found [] = None
first_of found (list ∷ lists) = option_or (found list) (first_of found lists)

-- the texts are names, which go on in the case of the seed
unfoldable pub named_of : Locale → List ℕ → List (List ℕ) → Option Progression
named_of locale seed texts = first_of (named_in locale (case_style seed) texts) all_lists

-- numbers first, then texts that end in numbers, then names
unfoldable pub progression_of : Locale → List ℕ → List (List ℕ) → Option Progression
progression_of locale seed texts = option_or (numeric_of locale texts) (option_or (suffixed_of locale texts) (named_of locale seed texts))

-- ---- how it goes on

abbrev pub numeric_text : NumericProgression → ℤ → List ℕ
numeric_text p i = number_text p.locale (number_at p.steps i)

-- the text at an index; the one after the last has index 0
abbrev pub next_text : Progression → ℤ → List ℕ
next_text (Numeric p) i = numeric_text p i
next_text (SuffixedNumber p) i = p.prefix ++ numeric_text p.numbers i
next_text (Date p) i = cased p.style (name_at (names p.list p.locale) (number_at p.places i))
