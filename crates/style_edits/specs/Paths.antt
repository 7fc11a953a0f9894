-- The paths of style attributes.
use Rattle.std.specs.Prelude.{ℕ, List, [], ◌∷◌, codes}
use Rattle.style_edits.specs.declared.path.FontPath.TheVariants.{Bold, Italic, Underline, Strike, Color as FontColor, Size, SizeDelta}
use Rattle.style_edits.specs.declared.path.FillPath.TheVariants.{Color as FillColor, Background, Foreground}
use Rattle.style_edits.specs.declared.path.AlignmentPath.TheVariants.{Horizontal, Vertical, WrapText}
use Rattle.style_edits.specs.declared.path.StylePath.{StylePath}
use Rattle.style_edits.specs.declared.path.StylePath.TheVariants.{Font, Fill, NumberFormat, Alignment, AlignmentPart}

abbrev pub all_paths : List StylePath
all_paths =
    Font Bold ∷ Font Italic ∷ Font Underline ∷ Font Strike ∷ Font FontColor ∷ Font Size ∷ Font SizeDelta
    ∷ Fill FillColor ∷ Fill Background ∷ Fill Foreground
    ∷ NumberFormat
    ∷ Alignment ∷ AlignmentPart Horizontal ∷ AlignmentPart Vertical ∷ AlignmentPart WrapText
    ∷ []

abbrev pub path_name : StylePath → List ℕ
path_name (Font Bold) = codes "font.b"
path_name (Font Italic) = codes "font.i"
path_name (Font Underline) = codes "font.u"
path_name (Font Strike) = codes "font.strike"
path_name (Font FontColor) = codes "font.color"
path_name (Font Size) = codes "font.size"
path_name (Font SizeDelta) = codes "font.size_delta"
path_name (Fill FillColor) = codes "fill.color"
path_name (Fill Background) = codes "fill.bg_color"
path_name (Fill Foreground) = codes "fill.fg_color"
path_name NumberFormat = codes "num_fmt"
path_name Alignment = codes "alignment"
path_name (AlignmentPart Horizontal) = codes "alignment.horizontal"
path_name (AlignmentPart Vertical) = codes "alignment.vertical"
path_name (AlignmentPart WrapText) = codes "alignment.wrap_text"
