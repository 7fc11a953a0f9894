-- The printed form of a workbook.
use Rattle.std.specs.Prelude.{ℕ, ℤ, pos, Bool, true, false, List, [], ◌∷◌, ◌++◌, Option, Some, None, codes, decimal, if◌then◌else◌, not}
use Rattle.std.specs.Fmt.{signed_decimal}
use Rattle.std.specs.FinMap as fin
use Rattle.std.specs.List.{flat_map}
use Rattle.base_values.specs.declared.Position.{Position}
use Rattle.base_axis.specs.declared.MergedCell.{MergedCell}
use Rattle.base_axis.specs.Rectangles.{anchor_place, last_place, is_inside, has_many}
use Rattle.base_tables.specs.Locale.{locale_name}
use Rattle.base_tables.specs.Zone.{zone_name}
use Rattle.base_styles.specs.Colors.{theme_color_name}
use Rattle.base_styles.specs.declared.Color.{Color}
use Rattle.base_styles.specs.declared.Color.TheVariants.{None as NoColor, Rgb, Theme}
use Rattle.base_styles.specs.declared.Style.{Style}
use Rattle.base_styles.specs.contracts.style.StylePartialEq.TheImpl as style_eq
use Rattle.base_styles.specs.DefaultStyle.{default_style}
use Rattle.base_styles.specs.RgbTexts.{rgb_text}
use Rattle.base_styles.specs.Themes.{default_theme, rgb}
use Rattle.base_styles.specs.contracts.theme.ThemePartialEq.TheImpl as theme_eq
use Rattle.base_styles.specs.declared.RgbColor.{RgbColor}
use Rattle.base_styles.specs.declared.Theme.{Theme as ThemeColors}
use Rattle.defined_names.specs.declared.DefinedName.{DefinedName}
use Rattle.sheet_grid.specs.Book.{Book}
use Rattle.sheet_grid.specs.Sheet.{Sheet}
use Rattle.sheet_grid.specs.declared.Cell.{Cell}
use Rattle.sheet_grid.specs.declared.LineAttr.{LineAttr}
use Rattle.sheet_grid.specs.declared.Link.{Link}
use Rattle.cell_content.specs.declared.Content.{Content}
use Rattle.cell_content.specs.declared.Content.TheVariants.{Empty, Formula, Dynamic, Array}
use Rattle.sheet_grid.specs.declared.SheetState.{SheetState}
use Rattle.sheet_grid.specs.declared.SheetState.TheVariants.{Visible, Hidden, VeryHidden}
use Rattle.grid_wire.specs.StyleBytes.{encode_style}
use Rattle.format_rules.specs.declared.ConditionalFormatting.{ConditionalFormatting}
use Rattle.grid_wire.specs.RuleBytes.{encode_rule}
use Rattle.script_lines.specs.Escapes.{escaped}
use Rattle.script_lines.specs.References.{reference_text}
use Rattle.cell_input.specs.Inputs.{input_text}
use Rattle.script_dump.specs.English.{english}
use Rattle.script_dump.specs.Text.{line, words, hex}

-- ---- words

abbrev pub flag_text : Bool → List ℕ
flag_text true = codes "1"
flag_text false = codes "0"

abbrev pub state_text : SheetState → List ℕ
state_text Visible = codes "visible"
state_text Hidden = codes "hidden"
state_text VeryHidden = codes "very-hidden"

abbrev pub color_text : Color → List ℕ
color_text NoColor = codes "-"
color_text (Rgb red green blue) = rgb_text (rgb red green blue)
color_text (Theme theme) = theme_color_name theme

-- whether two styles are equal
abbrev pub same_style : Style → Style → Bool
same_style = style_eq.ghosts.eq

-- the bytes of a style, and a dash for the default
abbrev pub style_text : Style → List ℕ
style_text style = if same_style style default_style then codes "-" else hex (encode_style style)

-- a size, and a dash where there is no own one
abbrev pub size_text : Option ℤ → List ℕ
size_text None = codes "-"
size_text (Some size) = signed_decimal size

-- the bytes of a row's or a column's style, also where it is the default, and a dash where there is none
abbrev pub own_style_text : Option Style → List ℕ
own_style_text None = codes "-"
own_style_text (Some style) = hex (encode_style style)

-- the sides of an array: how many columns wide it is, an x, and how many rows high
abbrev pub sides_text : ℤ → ℤ → List ℕ
sides_text width height = signed_decimal width ++ (codes "x" ++ signed_decimal height)

-- the word before a content's text, and the sides of an array
abbrev pub content_word : Content → List ℕ
content_word (Formula tree) = codes "formula "
content_word (Dynamic tree) = codes "dynamic "
content_word (Array tree width height) = codes "array " ++ (sides_text width height ++ codes " ")
content_word content = codes "value "

-- the text of a content is that of English
abbrev pub content_text : Position → Content → List ℕ
content_text place Empty = codes "empty"
content_text place content = content_word content ++ escaped (input_text (english place) content)

-- a rectangle of places by its first and its last, or by the only one; one that is not inside the sheet has no name
abbrev pub area_text : MergedCell → List ℕ
area_text area =
    if not (is_inside area) then codes "#REF!"
    else if has_many area then reference_text (anchor_place area) ++ (codes ":" ++ reference_text (last_place area))
    else reference_text (anchor_place area)

-- a rectangle behind another one
abbrev pub later_area : MergedCell → List ℕ
later_area area = codes "," ++ area_text area

-- rectangles parted by commas
abbrev pub areas_text : List MergedCell → List ℕ
areas_text [] = []
areas_text (first ∷ later) = area_text first ++ flat_map later_area later

-- ---- lines

abbrev pub book_line : Book → List ℕ
book_line book = line (words (codes "book" ∷ locale_name book.locale ∷ zone_name book.zone ∷ escaped book.name ∷ []))

-- the colours of a theme, in the order of its line
abbrev pub theme_colors : ThemeColors → List RgbColor
theme_colors theme =
    theme.light1 ∷ theme.dark1 ∷ theme.light2 ∷ theme.dark2 ∷ theme.accent1 ∷ theme.accent2 ∷ theme.accent3 ∷ theme.accent4 ∷ theme.accent5 ∷ theme.accent6
    ∷ theme.hyperlink ∷ theme.followed_hyperlink ∷ []

-- a colour as `#RRGGBB` behind a space
abbrev pub rgb_word : RgbColor → List ℕ
rgb_word color = 32 ∷ rgb_text color

abbrev pub theme_line : ThemeColors → List ℕ
theme_line theme = line (codes "theme" ++ flat_map rgb_word (theme_colors theme))

-- whether two themes are equal
abbrev pub same_theme : ThemeColors → ThemeColors → Bool
same_theme = theme_eq.ghosts.eq

-- the line of a theme that is not the default one
abbrev pub theme_lines : ThemeColors → List ℕ
theme_lines theme = if same_theme theme default_theme then [] else theme_line theme

-- the id of the sheet where alone a name is known, and a dash where that is the whole workbook
abbrev pub scope_text : Option ℕ → List ℕ
scope_text None = codes "-"
scope_text (Some id) = decimal id

-- the place whose cell a name's formula is printed as in
abbrev pub first_place : Position
first_place = record { row = pos 1; column = pos 1 }

-- what a name stands for, in English and with an equals sign
abbrev pub meaning_text : DefinedName → List ℕ
meaning_text name = escaped (input_text (english first_place) (Formula name.formula))

abbrev pub name_line : DefinedName → List ℕ
name_line name = line (words (codes "name" ∷ scope_text name.scope ∷ escaped name.name ∷ meaning_text name ∷ []))

abbrev pub sheet_line : Sheet → List ℕ
sheet_line sheet = line (words (
    codes "sheet" ∷ decimal sheet.id ∷ state_text sheet.state ∷ flag_text sheet.show_grid_lines
    ∷ signed_decimal sheet.frozen_rows ∷ signed_decimal sheet.frozen_columns ∷ color_text sheet.color ∷ escaped sheet.name ∷ []))

abbrev pub cell_line : Position × Cell → List ℕ
cell_line (place, cell) = line (words (codes "cell" ∷ reference_text place ∷ style_text cell.style ∷ content_text place cell.content ∷ []))

-- what a row or a column has of its own
abbrev pub attr_words : LineAttr → List (List ℕ)
attr_words attr = size_text attr.size ∷ flag_text attr.hidden ∷ own_style_text attr.style ∷ []

-- its line, behind the word for the two
abbrev pub attr_line : List ℕ → ℤ × LineAttr → List ℕ
attr_line word (number, attr) = line (words (word ∷ signed_decimal number ∷ attr_words attr))

abbrev pub merge_line : MergedCell → List ℕ
merge_line merge = line (words (codes "merge" ∷ area_text merge ∷ []))

abbrev pub link_line : Position × Link → List ℕ
link_line (place, link) = line (words (codes "link" ∷ reference_text place ∷ escaped link.target ∷ []))

-- a conditional rule: its priority, its parts in their order, and the bytes of what it shows and where
abbrev pub rule_line : ConditionalFormatting → List ℕ
rule_line formatting = line (words (codes "rule" ∷ decimal formatting.priority ∷ areas_text formatting.parts ∷ hex (encode_rule formatting.rule) ∷ []))

-- a sheet, then its rows, its columns, its merges in their order, its cells by row and column, its links, and its conditional rules in their
-- order
abbrev pub sheet_lines : Sheet → List ℕ
sheet_lines sheet =
    sheet_line sheet
    ++ (flat_map (attr_line (codes "row")) (fin.entries sheet.rows)
    ++ (flat_map (attr_line (codes "column")) (fin.entries sheet.columns)
    ++ (flat_map merge_line sheet.merges
    ++ (flat_map cell_line (fin.entries sheet.cells)
    ++ (flat_map link_line (fin.entries sheet.links)
    ++ flat_map rule_line sheet.formattings)))))

-- a workbook, its theme, then its defined names in their order
abbrev pub head_lines : Book → List ℕ
head_lines book = book_line book ++ (theme_lines book.theme ++ flat_map name_line book.names)

-- the sheets are behind that, in their order
unfoldable pub dump : Book → List ℕ
dump book = head_lines book ++ (flat_map sheet_lines book.worksheets ++ line (codes "end"))
