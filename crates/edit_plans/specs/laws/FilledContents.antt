-- The contents that a fill puts fit at their places, are no arrays, and stand only where what is repeated is shown.
use Rattle.std.proofs.Common.{◌≡◌, ℕ, pos, Bool, true, false, ◌&&◌, List, [], ◌∷◌, Option, Some, None, refl, ap, subst, ◌∙◌}
use Rattle.std.specs.Prelude.{◌==◌, if◌then◌else◌, nat_le}
use Rattle.std.specs.Option.{option_map, option_or, unwrap_or}
use Rattle.std.specs.FinMap.{get}
use Rattle.base_values.specs.declared.Position.{Position}
use Rattle.base_axis.specs.Along.{Along, IsAxis}
use Rattle.base_axis.specs.Rectangles.{holds}
use Rattle.base_decimal.specs.declared.Decimal.{Decimal}
use Rattle.base_decimal.specs.laws.Reading.{decimal_of}
use Rattle.base_tables.specs.declared.Error.{Error as ErrorValue}
use Rattle.base_tables.specs.declared.Language.{Language}
use Rattle.base_tables.specs.declared.Locale.{Locale}
use Rattle.base_tables.specs.Error.{error_of_text}
use Rattle.base_tables.specs.Language.{boolean_of_text}
use Rattle.base_tables.specs.Locale.{decimal_sign}
use Rattle.formula_tree.specs.declared.Node.{Node}
use Rattle.formula_tree.specs.declared.numbers.NumberRule.TheVariants.{NotNegative}
use Rattle.formula_tree.specs.Depth.{is_within}
use Rattle.formula_tree.specs.Numbers.{has_no_negative_number}
use Rattle.formula_tree.specs.Placed.{is_placed}
use Rattle.formula_tree.specs.Rebase.{rebased}
use Rattle.formula_tree.specs.laws.RebaseLaws.{depth-rebased, placed-rebased}
use Rattle.formula_grammar.specs.declared.Profile.{Profile}
use Rattle.formula_read.specs.Formula.{formula_of}
use Rattle.cell_content.specs.declared.Content.{Content}
use Rattle.cell_content.specs.declared.Content.TheVariants.{Empty, Number, Boolean, Error, Text, Formula, Dynamic, Array}
use Rattle.cell_content.specs.Fitting.{fits_at, tree_fits_at}
use Rattle.cell_input.specs.Inputs.{input_of, value_of_text}
use Rattle.sheet_progress.specs.declared.Progression.{Progression}
use Rattle.sheet_progress.specs.Progressions.{next_text}
use Rattle.sheet_grid.specs.declared.Cell.{Cell}
use Rattle.sheet_grid.specs.Arrays.{array_at}
use Rattle.sheet_grid.specs.laws.FittingCells.{entry_fits_at}
use Rattle.sheet_grid.specs.Merges.{is_empty}
use Rattle.sheet_grid.specs.Sheet.{Sheet}
use Rattle.sheet_rules.specs.WellFormed.{have_trees}
use Rattle.sheet_rules.specs.laws.EntryLaws.{both}
use Rattle.sheet_rules.specs.laws.WellFormedLaws.{cells_fit_from_trees}
use Rattle.sheet_fill.specs.declared.FillRange.{FillRange}
use Rattle.sheet_fill.specs.FillRanges.{source_place, target_place}
use Rattle.sheet_fill.specs.Targets.{cell_at, filled, filled_entry, fitting, source_covered, open_content, open_count, profile_at, progression_on, steps}
use Rattle.sheet_fill.specs.laws.FillWalkLaws.{own_target}
use Rattle.sheet_fill.specs.laws.RebasedTrees.{numbers_rebased}

-- ---- what is read

fitting_fits : (place : Position) (content : Content) → fits_at place (fitting place content) ≡ true
fitting_fits place content = go (fits_at place content) refl
  where
    go : (b : Bool) → fits_at place content ≡ b → fits_at place (if b then content else Empty) ≡ true
    go true fits = fits
    go false fits = refl

module _ (place : Position) where
  abbrev IsPlain : Content → Type 0
  IsPlain content = array_at place content ≡ None

  value_plain : (b : Option Bool) (e : Option ErrorValue) (d : Option Decimal) (text : List ℕ)
      → IsPlain (unwrap_or (option_or (option_map Boolean b) (option_or (option_map Error e) (option_map Number d))) (Text text))
  value_plain (Some b) e d text = refl
  value_plain None (Some e) d text = refl
  value_plain None None (Some d) text = refl
  value_plain None None None text = refl

  read_plain : (p : Profile) (text : List ℕ) → IsPlain (input_of p text)
  unfolding value_of_text
  read_plain p [] = refl
  read_plain p (c ∷ rest) = go (c == 39) (c == 61)
    where
      go : (b d : Bool) → IsPlain (if b then Text rest else if d then Formula (formula_of p rest) else unwrap_or (value_of_text p.locale p.language (c ∷ rest)) (Text (c ∷ rest)))
      go true d = refl
      go false true = refl
      go false false =
          value_plain (boolean_of_text p.language (c ∷ rest)) (error_of_text p.language (c ∷ rest)) (decimal_of (decimal_sign p.locale) (c ∷ rest)) (c ∷ rest)

  fitting_plain : (content : Content) → IsPlain content → IsPlain (fitting place content)
  fitting_plain content plain = elim (fits_at place content) as (λ b. IsPlain (if b then content else Empty)) [ true ↦ plain | false ↦ refl ]

-- ---- what is repeated

tree_fits : (from to : Position) (tree : Node) → tree_fits_at from tree ≡ true → tree_fits_at to (rebased to tree) ≡ true
unfolding tree_fits_at is_within
tree_fits from to tree fits =
    let parts = both (is_placed from tree && is_within 64 tree) (has_no_negative_number tree) fits in
    let deep = both (is_placed from tree) (is_within 64 tree) parts.0 in
    λ i. placed-rebased to tree i && (ap (λ d. nat_le d 64) (depth-rebased to tree) ∙ deep.1) i && (numbers_rebased NotNegative to tree ∙ parts.1) i

filled_fits : (from to : Position) (content : Content) → fits_at from content ≡ true → fits_at to (filled to content) ≡ true
filled_fits from to (Formula tree) fits = tree_fits from to tree fits
filled_fits from to (Dynamic tree) fits = tree_fits from to tree fits
filled_fits from to (Array tree width height) fits = tree_fits from to tree fits
filled_fits from to Empty fits = refl
filled_fits from to (Number value) fits = refl
filled_fits from to (Boolean value) fits = refl
filled_fits from to (Error error) fits = refl
filled_fits from to (Text value) fits = refl

filled_plain : (q to : Position) (content : Content) → array_at q (filled to content) ≡ None
filled_plain q to (Formula tree) = refl
filled_plain q to (Dynamic tree) = refl
filled_plain q to (Array tree width height) = refl
filled_plain q to Empty = refl
filled_plain q to (Number value) = refl
filled_plain q to (Boolean value) = refl
filled_plain q to (Error error) = refl
filled_plain q to (Text value) = refl

module _ (locale : Locale) (language : Language) (sheet : Sheet) where
  entry_fits : (from to : Position) (o : Option Cell) → entry_fits_at from o ≡ true → fits_at to (filled_entry to o) ≡ true
  entry_fits from to None fits = refl
  entry_fits from to (Some cell) fits = filled_fits from to cell.content fits

  open_fits : have_trees sheet ≡ true → (o : Option Progression) (number : ℕ) (from to : Position) → fits_at to (open_content locale language sheet o number from to) ≡ true
  open_fits trees None number from to = entry_fits from to (get sheet.cells from) (cells_fit_from_trees sheet trees from)
  open_fits trees (Some progression) number from to = fitting_fits to (input_of (profile_at locale language to) (next_text progression (pos number)))

  entry_plain : (q to : Position) (o : Option Cell) → array_at q (filled_entry to o) ≡ None
  entry_plain q to None = refl
  entry_plain q to (Some cell) = filled_plain q to cell.content

  plain_anywhere : (p q : Position) (content : Content) → array_at p content ≡ None → array_at q content ≡ None
  plain_anywhere p q (Array tree width height) none = absurd (cc)
  plain_anywhere p q Empty none = refl
  plain_anywhere p q (Number value) none = refl
  plain_anywhere p q (Boolean value) none = refl
  plain_anywhere p q (Error error) none = refl
  plain_anywhere p q (Text value) none = refl
  plain_anywhere p q (Formula tree) none = refl
  plain_anywhere p q (Dynamic tree) none = refl

  open_plain : (q : Position) (o : Option Progression) (number : ℕ) (from to : Position) → array_at q (open_content locale language sheet o number from to) ≡ None
  open_plain q None number from to = entry_plain q to (get sheet.cells from)
  open_plain q (Some progression) number from to =
      let text = next_text progression (pos number) in
      plain_anywhere to q (fitting to (input_of (profile_at locale language to) text))
      (fitting_plain to (input_of (profile_at locale language to) text) (read_plain to (profile_at locale language to) text))

-- ---- what a place of the target gets

module _ (a : Along) (f : FillRange) (sheet : Sheet) (locale : Locale) (language : Language) (q : Position) where
  -- its content, where it is not covered
  abbrev shown_content : Content
  shown_content =
      open_content locale language sheet (progression_on a f locale language sheet q) (open_count a f sheet q (steps a f q))
      (source_place a f q (steps a f q)) (target_place a f q (steps a f q))

  -- it is no array
  pub content_no_array : array_at q (cell_at a f locale language sheet q).content ≡ None
  content_no_array = elim (source_covered a f sheet q (steps a f q)) as (λ b. array_at q (if b then Empty else shown_content) ≡ None) [
    | true ↦ refl
    | false ↦ open_plain locale language sheet q (progression_on a f locale language sheet q) (open_count a f sheet q (steps a f q))
        (source_place a f q (steps a f q)) (target_place a f q (steps a f q))
  ]

  -- and there is one only where the place that is repeated is not covered
  pub content_shown : is_empty (cell_at a f locale language sheet q).content ≡ false → source_covered a f sheet q (steps a f q) ≡ false
  content_shown filled = go (source_covered a f sheet q (steps a f q)) refl filled
    where
      go : (b : Bool) → source_covered a f sheet q (steps a f q) ≡ b → is_empty (if b then Empty else shown_content) ≡ false → source_covered a f sheet q (steps a f q) ≡ false
      go true hidden is = absurd (let never : true ≡ false = is in cc)
      go false shown is = shown

-- it may stand there
pub content_fits : (a : Along) → IsAxis a → (f : FillRange) (sheet : Sheet) → have_trees sheet ≡ true → (locale : Locale) (language : Language) (q : Position)
    → holds f.target q ≡ true → fits_at q (cell_at a f locale language sheet q).content ≡ true
content_fits a is f sheet trees locale language q held =
    elim (source_covered a f sheet q (steps a f q)) as (λ b. fits_at q (if b then Empty else shown_content a f sheet locale language q) ≡ true) [
      | true ↦ refl
      | false ↦ subst (λ p. fits_at p (shown_content a f sheet locale language q) ≡ true) (own_target a is f q held)
          (open_fits locale language sheet trees (progression_on a f locale language sheet q) (open_count a f sheet q (steps a f q))
          (source_place a f q (steps a f q)) (target_place a f q (steps a f q)))
    ]
