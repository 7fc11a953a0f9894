-- The names of alignments, and the alignment of a cell that was given none.
use Rattle.std.specs.Prelude.{ℕ, false, List, [], ◌∷◌, codes}
use Rattle.base_styles.specs.declared.alignment.HorizontalAlignment.{HorizontalAlignment}
use Rattle.base_styles.specs.declared.alignment.HorizontalAlignment.TheVariants.{General, Left, Center, Right, Fill, Justify, CenterContinuous, Distributed}
use Rattle.base_styles.specs.declared.alignment.VerticalAlignment.{VerticalAlignment}
use Rattle.base_styles.specs.declared.alignment.VerticalAlignment.TheVariants.{Bottom, Center as Middle, Distributed as Spread, Justify as Justified, Top}
use Rattle.base_styles.specs.declared.alignment.Alignment.{Alignment}

abbrev pub all_horizontals : List HorizontalAlignment
all_horizontals = General ∷ Left ∷ Center ∷ Right ∷ Fill ∷ Justify ∷ CenterContinuous ∷ Distributed ∷ []

abbrev pub horizontal_name : HorizontalAlignment → List ℕ
horizontal_name General = codes "general"
horizontal_name Left = codes "left"
horizontal_name Center = codes "center"
horizontal_name Right = codes "right"
horizontal_name Fill = codes "fill"
horizontal_name Justify = codes "justify"
horizontal_name CenterContinuous = codes "centerContinuous"
horizontal_name Distributed = codes "distributed"

abbrev pub all_verticals : List VerticalAlignment
all_verticals = Bottom ∷ Middle ∷ Spread ∷ Justified ∷ Top ∷ []

abbrev pub vertical_name : VerticalAlignment → List ℕ
vertical_name Bottom = codes "bottom"
vertical_name Middle = codes "center"
vertical_name Spread = codes "distributed"
vertical_name Justified = codes "justify"
vertical_name Top = codes "top"

-- general, bottom, without wrapping
abbrev pub default_alignment : Alignment
default_alignment = record { horizontal = General; vertical = Bottom; wrap_text = false }
