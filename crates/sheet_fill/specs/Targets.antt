-- What a fill puts at each place of its target. Each cross line is filled by itself, and named by one of its places; its targets are
-- counted away from the source, from 0.
use Rattle.std.proofs.Common.{ℕ, zero, suc, ◌+◌, pos, ◌-ℤ◌, Bool, List, [], ◌∷◌, ◌++◌, Option, Some, None}
use Rattle.std.specs.Prelude.{if◌then◌else◌, unsigned_abs}
use Rattle.std.specs.FinMap.{get}
use Rattle.base_values.specs.declared.Position.{Position}
use Rattle.base_axis.specs.Along.{Along}
use Rattle.base_axis.specs.Rectangles.{first_line, holds}
use Rattle.base_tables.specs.declared.Language.{Language}
use Rattle.base_tables.specs.declared.Locale.{Locale}
use Rattle.formula_tree.specs.Rebase.{rebased}
use Rattle.formula_grammar.specs.declared.Profile.{Profile}
use Rattle.cell_content.specs.declared.Content.{Content}
use Rattle.cell_content.specs.declared.Content.TheVariants.{Empty, Formula, Array}
use Rattle.cell_content.specs.Fitting.{fits_at}
use Rattle.cell_content.specs.Lens.{content_changed}
use Rattle.cell_input.specs.Inputs.{input_of, input_text}
use Rattle.sheet_progress.specs.declared.Progression.{Progression}
use Rattle.sheet_progress.specs.Progressions.{next_text, progression_of}
use Rattle.sheet_grid.specs.declared.Cell.{Cell}
use Rattle.sheet_grid.specs.declared.Link.{Link}
use Rattle.sheet_grid.specs.Merges.{is_covered}
use Rattle.sheet_grid.specs.Sheet.{Sheet, shown_style}
use Rattle.sheet_fill.specs.declared.range.FillRange.{FillRange}
use Rattle.sheet_fill.specs.FillRanges.{lines, source_place, target_line, target_place}

-- what texts are read and printed as at a place
abbrev pub profile_at : Locale → Language → Position → Profile
profile_at locale language place = record { place = place; locale = locale; language = language }

-- what a content becomes at another place: a formula's relative corners move along, and an array becomes a plain formula
abbrev pub filled : Position → Content → Content
filled place (Array tree width height) = Formula (rebased place tree)
filled place content = content_changed (rebased place) content

-- what becomes of a cell's content there; no cell gives no content
abbrev pub filled_entry : Position → Option Cell → Content
filled_entry place None = Empty
filled_entry place (Some cell) = filled place cell.content

-- the text of a cell at a place
abbrev pub entry_text : Profile → Option Cell → List ℕ
entry_text p None = []
entry_text p (Some cell) = input_text p cell.content

abbrev pub text_at : Locale → Language → Sheet → Position → List ℕ
text_at locale language sheet place = entry_text (profile_at locale language place) (get sheet.cells place)

-- whether a merge covers the place that a target repeats
abbrev pub source_covered : Along → FillRange → Sheet → Position → ℕ → Bool
source_covered a f sheet at n = is_covered sheet.merges (source_place a f at n)

-- of each of the first so many targets of a cross line, whether it is covered
abbrev pub covered_among : Along → FillRange → Sheet → Position → ℕ → List Bool
covered_among a f sheet at zero = []
covered_among a f sheet at (suc n) = covered_among a f sheet at n ++ source_covered a f sheet at n ∷ []

-- how many of the first so many targets of a cross line are not covered
abbrev pub open_count : Along → FillRange → Sheet → Position → ℕ → ℕ
open_count a f sheet at zero = 0
open_count a f sheet at (suc n) = open_count a f sheet at n + (if source_covered a f sheet at n then 0 else 1)

-- the texts that the first so many targets of a cross line repeat, but for covered ones
abbrev pub texts : Along → FillRange → Locale → Language → Sheet → Position → ℕ → List (List ℕ)
texts a f locale language sheet at zero = []
texts a f locale language sheet at (suc n) =
    texts a f locale language sheet at n ++ (if source_covered a f sheet at n then [] else text_at locale language sheet (source_place a f at n) ∷ [])

-- the progression that the texts of the source on a cross line have, in the case of its first cell there
abbrev pub progression_on : Along → FillRange → Locale → Language → Sheet → Position → Option Progression
progression_on a f locale language sheet at =
    progression_of locale (text_at locale language sheet (a.with_line at (first_line a f.source))) (texts a f locale language sheet at (lines a f.source))

-- a content that may stand at a place: one that does not fit there is none. What is read at a place always fits there
abbrev pub fitting : Position → Content → Content
fitting place content = if fits_at place content then content else Empty

-- the content of a target that is not covered: that of the place that it repeats, or, of so many such targets that stand nearer the
-- source, the text of the progression behind as many, read as an input
abbrev pub open_content : Locale → Language → Sheet → Option Progression → ℕ → Position → Position → Content
open_content locale language sheet None number source place = filled_entry place (get sheet.cells source)
open_content locale language sheet (Some progression) number source place =
    fitting place (input_of (profile_at locale language place) (next_text progression (pos number)))

-- the content of a target: none where it is covered
abbrev pub content_with : Along → FillRange → Locale → Language → Sheet → Option Progression → Position → ℕ → Content
content_with a f locale language sheet progression at n =
    if source_covered a f sheet at n then Empty
    else open_content locale language sheet progression (open_count a f sheet at n) (source_place a f at n) (target_place a f at n)

-- the cell of a target, with the style that the place shows which it repeats
abbrev pub cell_with : Along → FillRange → Locale → Language → Sheet → Option Progression → Position → ℕ → Cell
cell_with a f locale language sheet progression at n =
    record { content = content_with a f locale language sheet progression at n; style = shown_style sheet (source_place a f at n) }

-- ---- as functions on places

-- how many lines of the target stand nearer the source than the line of a place
abbrev pub steps : Along → FillRange → Position → ℕ
steps a f place = unsigned_abs (a.line place -ℤ target_line a f 0)

-- the cell that a place of the target gets
abbrev pub cell_at : Along → FillRange → Locale → Language → Sheet → Position → Cell
cell_at a f locale language sheet place =
    cell_with a f locale language sheet (progression_on a f locale language sheet place) place (steps a f place)

-- the link that it gets: that of the place which it repeats, or none
abbrev pub link_at : Along → FillRange → Sheet → Position → Option Link
link_at a f sheet place = get sheet.links (source_place a f place (steps a f place))

-- what a fill makes of the cell of a place, and of its link: each place of the target gets both, and no other place
abbrev pub place_filled : Along → FillRange → Locale → Language → Sheet → Position → Option (Option Cell)
place_filled a f locale language sheet place = if holds f.target place then Some (Some (cell_at a f locale language sheet place)) else None

abbrev pub place_linked : Along → FillRange → Sheet → Position → Option (Option Link)
place_linked a f sheet place = if holds f.target place then Some (link_at a f sheet place) else None
