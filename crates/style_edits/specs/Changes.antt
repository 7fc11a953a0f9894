-- What a change makes of a style.
use Rattle.std.specs.Prelude.{ℕ, List}
use Rattle.base_styles.specs.declared.style.Style.{Style}
use Rattle.style_edits.specs.declared.change.Change.{Change}
use Rattle.style_edits.specs.declared.change.Change.TheVariants.{Font, Fill, NumberFormat, Alignment}

-- the number format is the value as it stands
abbrev pub with_change : Style → List ℕ → Change → Style
with_change style value (Font font) = record style { font = font }
with_change style value (Fill color) = record style { fill = color }
with_change style value NumberFormat = record style { num_fmt = value }
with_change style value (Alignment alignment) = record style { alignment = alignment }
