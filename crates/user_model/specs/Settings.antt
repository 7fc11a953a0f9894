-- The settings of a workbook as a user names them, and the language in which it is shown.
use Rattle.std.proofs.Common.{ℕ, List, [], Option, Some, None, Result}
use Rattle.base_values.specs.declared.EditError.{EditError}
use Rattle.base_values.specs.declared.EditError.TheVariants.{LanguageName, LocaleName, ZoneName}
use Rattle.base_values.specs.Answers.{and_then, ok_or}
use Rattle.base_styles.specs.declared.Color.{Color}
use Rattle.base_styles.specs.declared.RgbColor.{RgbColor}
use Rattle.base_styles.specs.declared.Theme.{Theme}
use Rattle.base_styles.specs.RgbTexts.{rgb_text}
use Rattle.base_styles.specs.Themes.{resolved}
use Rattle.base_tables.specs.declared.Language.{Language}
use Rattle.base_tables.specs.declared.Locale.{Locale}
use Rattle.base_tables.specs.declared.Zone.{Zone}
use Rattle.base_tables.specs.Language.{language_of_name}
use Rattle.base_tables.specs.Locale.{locale_of_name}
use Rattle.base_tables.specs.Zone.{zone_of_name}
use Rattle.sheet_history.specs.declared.Setting.TheVariants as value
use Rattle.edit_plans.specs.Edits.Edit.{SetSetting}
use Rattle.open_book.specs.Machine.{State, edit_of, speaking_in}

-- ---- names

abbrev pub locale_named : List ℕ → Result Locale EditError
locale_named name = ok_or LocaleName (locale_of_name name)

abbrev pub zone_named : List ℕ → Result Zone EditError
zone_named name = ok_or ZoneName (zone_of_name name)

abbrev pub language_named : List ℕ → Result Language EditError
language_named name = ok_or LanguageName (language_of_name name)

-- ---- steps

-- the workbook gets a locale
abbrev pub locale_given : Locale → State → Result State EditError
locale_given locale s = edit_of (SetSetting (value.Locale locale)) s

-- the one of a name, or no locale has that name
abbrev pub locale_set : List ℕ → State → Result State EditError
locale_set name s = and_then (locale_named name) (λ locale. locale_given locale s)

-- it gets a time zone
abbrev pub zone_given : Zone → State → Result State EditError
zone_given zone s = edit_of (SetSetting (value.Zone zone)) s

-- the one of a name, or no time zone has that name
abbrev pub zone_set : List ℕ → State → Result State EditError
zone_set name s = and_then (zone_named name) (λ zone. zone_given zone s)

-- it is shown in the language of a name, or no language has that name
abbrev pub language_set : List ℕ → State → Result State EditError
language_set name s = speaking_in (language_named name) s

-- ---- colours

-- `#RRGGBB`, and nothing where there is no colour
abbrev pub text_of_parts : Option RgbColor → List ℕ
text_of_parts None = []
text_of_parts (Some parts) = rgb_text parts

-- a colour as a theme has it
abbrev pub resolved_text : Theme → Color → List ℕ
resolved_text theme color = text_of_parts (resolved theme color)
