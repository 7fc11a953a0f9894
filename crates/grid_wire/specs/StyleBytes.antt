-- The bytes of styles.
use Rattle.std.specs.Prelude.{ℕ, ◌<◌, ◌^◌, List, [], ◌∷◌, ◌++◌, IfSome, FitsSigned}
use Rattle.std.specs.Int.{w32}
use Rattle.base_styles.specs.Colors.{theme_color_code}
use Rattle.base_styles.specs.declared.Color.{Color}
use Rattle.base_styles.specs.declared.Color.TheVariants.{None as NoColor, Rgb, Theme}
use Rattle.base_styles.specs.declared.BorderStyle.{BorderStyle}
use Rattle.base_styles.specs.declared.BorderStyle.TheVariants.{Dotted, Thin, MediumDashDotDot, MediumDashDot, SlantDashDot, MediumDashed, Medium, Thick, Double}
use Rattle.base_styles.specs.declared.BorderItem.{BorderItem}
use Rattle.base_styles.specs.declared.Border.{Border}
use Rattle.base_styles.specs.declared.HorizontalAlignment.{HorizontalAlignment}
use Rattle.base_styles.specs.declared.HorizontalAlignment.TheVariants as horizontal
use Rattle.base_styles.specs.declared.VerticalAlignment.{VerticalAlignment}
use Rattle.base_styles.specs.declared.VerticalAlignment.TheVariants as vertical
use Rattle.base_styles.specs.declared.Alignment.{Alignment}
use Rattle.base_styles.specs.declared.Font.{Font}
use Rattle.base_styles.specs.declared.Style.{Style}
use Rattle.base_wire.specs.Encoding.{encode_signed, encode_code, boolean_code, encode_text, encode_option, FitsText}

-- ---- colours

-- its kind, and then three parts or the code of a theme colour
abbrev pub encode_color : Color → List ℕ
encode_color NoColor = 0 ∷ []
encode_color (Rgb red green blue) = 1 ∷ red ∷ green ∷ blue ∷ []
encode_color (Theme theme) = 2 ∷ theme_color_code theme ∷ []

-- its parts are bytes
abbrev pub FitsColor : Color → Type 0
FitsColor NoColor = Unit {0}
FitsColor (Rgb red green blue) = (red < 2 ^ 8) × ((green < 2 ^ 8) × (blue < 2 ^ 8))
FitsColor (Theme theme) = Unit {0}

-- ---- fonts

-- four marks, the size and the colour
abbrev pub encode_font : Font → List ℕ
encode_font font =
    encode_code boolean_code font.b ++ (encode_code boolean_code font.i ++ (encode_code boolean_code font.u ++ (encode_code boolean_code font.strike
    ++ (encode_signed w32 font.sz ++ encode_color font.color))))

-- its size is a number of 32 bits
pub record FitsFont (font : Font) : Type 0 where
  pub size : FitsSigned w32 font.sz
  pub color : FitsColor font.color

-- ---- borders

-- from the lightest to the heaviest
abbrev pub border_code : BorderStyle → ℕ
border_code Dotted = 1
border_code Thin = 2
border_code MediumDashDotDot = 3
border_code MediumDashDot = 4
border_code SlantDashDot = 5
border_code MediumDashed = 6
border_code Medium = 7
border_code Thick = 8
border_code Double = 9

-- how it is drawn, and its colour
abbrev pub encode_border_item : BorderItem → List ℕ
encode_border_item item = encode_code border_code item.style ++ encode_color item.color

abbrev pub FitsBorderItem : BorderItem → Type 0
FitsBorderItem item = FitsColor item.color

-- left, right, top, bottom
abbrev pub encode_border : Border → List ℕ
encode_border border =
    encode_option encode_border_item border.left ++ (encode_option encode_border_item border.right
    ++ (encode_option encode_border_item border.top ++ encode_option encode_border_item border.bottom))

-- each side that is there fits
pub record FitsBorder (border : Border) : Type 0 where
  pub left : IfSome border.left FitsBorderItem
  pub right : IfSome border.right FitsBorderItem
  pub top : IfSome border.top FitsBorderItem
  pub bottom : IfSome border.bottom FitsBorderItem

-- ---- alignments

abbrev pub horizontal_code : HorizontalAlignment → ℕ
horizontal_code horizontal.General = 0
horizontal_code horizontal.Left = 1
horizontal_code horizontal.Center = 2
horizontal_code horizontal.Right = 3
horizontal_code horizontal.Fill = 4
horizontal_code horizontal.Justify = 5
horizontal_code horizontal.CenterContinuous = 6
horizontal_code horizontal.Distributed = 7

abbrev pub vertical_code : VerticalAlignment → ℕ
vertical_code vertical.Bottom = 0
vertical_code vertical.Center = 1
vertical_code vertical.Distributed = 2
vertical_code vertical.Justify = 3
vertical_code vertical.Top = 4

-- between the sides, between top and bottom, and whether the text wraps
abbrev pub encode_alignment : Alignment → List ℕ
encode_alignment alignment =
    encode_code horizontal_code alignment.horizontal ++ (encode_code vertical_code alignment.vertical ++ encode_code boolean_code alignment.wrap_text)

-- ---- styles

-- the parts of a style in order
abbrev pub encode_style : Style → List ℕ
encode_style style =
    encode_font style.font ++ (encode_color style.fill ++ (encode_border style.border
    ++ (encode_text style.num_fmt ++ encode_option encode_alignment style.alignment)))

-- a style whose parts bytes can carry. An alignment always fits
pub record FitsStyle (style : Style) : Type 0 where
  pub font : FitsFont style.font
  pub fill : FitsColor style.fill
  pub border : FitsBorder style.border
  pub num_fmt : FitsText style.num_fmt
