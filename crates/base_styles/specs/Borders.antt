-- How heavy the lines of borders are.
use Rattle.std.specs.Prelude.{ℕ}
use Rattle.base_styles.specs.declared.border.BorderStyle.{BorderStyle}
use Rattle.base_styles.specs.declared.border.BorderStyle.TheVariants.{Dotted, Thin, MediumDashDotDot, MediumDashDot, SlantDashDot, MediumDashed, Medium, Thick, Double}

-- from the lightest to the heaviest
abbrev pub weight : BorderStyle → ℕ
weight Dotted = 1
weight Thin = 2
weight MediumDashDotDot = 3
weight MediumDashDot = 4
weight SlantDashDot = 5
weight MediumDashed = 6
weight Medium = 7
weight Thick = 8
weight Double = 9
