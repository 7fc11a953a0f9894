-- Whether a style is the default one, at once and part by part.
use Rattle.std.specs.Prelude.{ℕ, Bool, List, codes, nat_eq}
use Rattle.std.specs.Cmp.Lexicographic.{pointwise}
use Rattle.base_values.specs.CodedEq.{same_value}
use Rattle.base_styles.specs.declared.style.Font.{Font}
use Rattle.base_styles.specs.declared.border.Border.{Border}
use Rattle.base_styles.specs.declared.color.Color.{Color}
use Rattle.base_styles.specs.declared.style.Style.{Style}
use Rattle.base_styles.specs.contracts.style.Style as style
use Rattle.base_styles.specs.contracts.style.FontPartialEq.TheImpl as font
use Rattle.base_styles.specs.contracts.border.BorderPartialEq.TheImpl as border
use Rattle.base_styles.specs.contracts.color.ColorPartialEq.TheImpl as color
use Rattle.base_styles.specs.DefaultStyle.{default_style}

abbrev pub is_default : Style → Bool
is_default given = same_value style.the_row.coded given default_style

-- ---- its parts

-- no marks, size 13, no colour
abbrev pub is_default_font : Font → Bool
is_default_font given = font.ghosts.eq given default_style.font

-- no side is drawn
abbrev pub is_default_border : Border → Bool
is_default_border given = border.ghosts.eq given default_style.border

-- no colour behind the text
abbrev pub is_default_fill : Color → Bool
is_default_fill given = color.ghosts.eq given default_style.fill

-- the number format `general`
abbrev pub is_default_format : List ℕ → Bool
is_default_format given = pointwise nat_eq given (codes "general")
