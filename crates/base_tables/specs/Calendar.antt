-- The names of days and months in each locale.
use Rattle.std.specs.Prelude.{ℕ, List, [], ◌∷◌, ◌++◌, codes}
use Rattle.base_tables.specs.declared.locale.Locale.{Locale}
use Rattle.base_tables.specs.declared.locale.Locale.TheVariants.{En, De, Fr, Es}

-- ---- the bytes of the letters outside ASCII

abbrev pub á : List ℕ
á = 0xC3 ∷ 0xA1 ∷ []

abbrev pub ä : List ℕ
ä = 0xC3 ∷ 0xA4 ∷ []

abbrev pub é : List ℕ
é = 0xC3 ∷ 0xA9 ∷ []

abbrev pub û : List ℕ
û = 0xC3 ∷ 0xBB ∷ []

-- the days of the week from Sunday
abbrev pub day_names : Locale → List (List ℕ)
day_names En =
    (codes "Sunday") ∷ (codes "Monday") ∷ (codes "Tuesday") ∷ (codes "Wednesday") ∷ (codes "Thursday") ∷ (codes "Friday") ∷ (codes "Saturday") ∷ []
day_names De =
    (codes "Sonntag") ∷ (codes "Montag") ∷ (codes "Dienstag") ∷ (codes "Mittwoch") ∷ (codes "Donnerstag") ∷ (codes "Freitag") ∷ (codes "Samstag") ∷ []
day_names Fr =
    (codes "dimanche") ∷ (codes "lundi") ∷ (codes "mardi") ∷ (codes "mercredi") ∷ (codes "jeudi") ∷ (codes "vendredi") ∷ (codes "samedi") ∷ []
day_names Es =
    (codes "domingo") ∷ (codes "lunes") ∷ (codes "martes")
    ∷ (codes "mi" ++ é ++ codes "rcoles") ∷ (codes "jueves") ∷ (codes "viernes") ∷ (codes "s" ++ á ++ codes "bado") ∷ []

-- the short names of the days of the week from Sunday
abbrev pub short_day_names : Locale → List (List ℕ)
short_day_names En =
    (codes "Sun") ∷ (codes "Mon") ∷ (codes "Tue") ∷ (codes "Wed") ∷ (codes "Thu") ∷ (codes "Fri") ∷ (codes "Sat") ∷ []
short_day_names De =
    (codes "So") ∷ (codes "Mo") ∷ (codes "Di") ∷ (codes "Mi") ∷ (codes "Do") ∷ (codes "Fr") ∷ (codes "Sa") ∷ []
short_day_names Fr =
    (codes "dim.") ∷ (codes "lun.") ∷ (codes "mar.") ∷ (codes "mer.") ∷ (codes "jeu.") ∷ (codes "ven.") ∷ (codes "sam.") ∷ []
short_day_names Es =
    (codes "dom") ∷ (codes "lun") ∷ (codes "mar") ∷ (codes "mi" ++ é) ∷ (codes "jue") ∷ (codes "vie") ∷ (codes "s" ++ á ++ codes "b") ∷ []

-- the months
abbrev pub month_names : Locale → List (List ℕ)
month_names En =
    (codes "January") ∷ (codes "February") ∷ (codes "March") ∷ (codes "April") ∷ (codes "May") ∷ (codes "June")
    ∷ (codes "July") ∷ (codes "August") ∷ (codes "September") ∷ (codes "October") ∷ (codes "November") ∷ (codes "December") ∷ []
month_names De =
    (codes "Januar") ∷ (codes "Februar") ∷ (codes "M" ++ ä ++ codes "rz") ∷ (codes "April") ∷ (codes "Mai") ∷ (codes "Juni")
    ∷ (codes "Juli") ∷ (codes "August") ∷ (codes "September") ∷ (codes "Oktober") ∷ (codes "November") ∷ (codes "Dezember") ∷ []
month_names Fr =
    (codes "janvier") ∷ (codes "f" ++ é ++ codes "vrier") ∷ (codes "mars") ∷ (codes "avril") ∷ (codes "mai") ∷ (codes "juin")
    ∷ (codes "juillet") ∷ (codes "ao" ++ û ++ codes "t") ∷ (codes "septembre") ∷ (codes "octobre") ∷ (codes "novembre") ∷ (codes "d" ++ é ++ codes "cembre") ∷ []
month_names Es =
    (codes "enero") ∷ (codes "febrero") ∷ (codes "marzo") ∷ (codes "abril") ∷ (codes "mayo") ∷ (codes "junio")
    ∷ (codes "julio") ∷ (codes "agosto") ∷ (codes "septiembre") ∷ (codes "octubre") ∷ (codes "noviembre") ∷ (codes "diciembre") ∷ []

-- the short names of the months
abbrev pub short_month_names : Locale → List (List ℕ)
short_month_names En =
    (codes "Jan") ∷ (codes "Feb") ∷ (codes "Mar") ∷ (codes "Apr") ∷ (codes "May") ∷ (codes "Jun")
    ∷ (codes "Jul") ∷ (codes "Aug") ∷ (codes "Sep") ∷ (codes "Oct") ∷ (codes "Nov") ∷ (codes "Dec") ∷ []
short_month_names De =
    (codes "Jan") ∷ (codes "Feb") ∷ (codes "M" ++ ä ++ codes "r") ∷ (codes "Apr") ∷ (codes "Mai") ∷ (codes "Jun")
    ∷ (codes "Jul") ∷ (codes "Aug") ∷ (codes "Sep") ∷ (codes "Okt") ∷ (codes "Nov") ∷ (codes "Dez") ∷ []
short_month_names Fr =
    (codes "janv.") ∷ (codes "f" ++ é ++ codes "vr.") ∷ (codes "mars") ∷ (codes "avr.") ∷ (codes "mai") ∷ (codes "juin")
    ∷ (codes "juil.") ∷ (codes "ao" ++ û ++ codes "t") ∷ (codes "sept.") ∷ (codes "oct.") ∷ (codes "nov.") ∷ (codes "d" ++ é ++ codes "c.") ∷ []
short_month_names Es =
    (codes "ene") ∷ (codes "feb") ∷ (codes "mar") ∷ (codes "abr") ∷ (codes "may") ∷ (codes "jun")
    ∷ (codes "jul") ∷ (codes "ago") ∷ (codes "sept") ∷ (codes "oct") ∷ (codes "nov") ∷ (codes "dic") ∷ []
