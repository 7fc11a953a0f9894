-- What a fill puts at a place of its target does not depend on the place that names the cross line.
use Rattle.std.proofs.Common.{◌≡◌, ℕ, zero, suc, ◌+◌, ◌<◌, ℤ, pos, ◌+ℤ◌, ◌-ℤ◌, ◌≤ℤ◌, Bool, true, false, ◌&&◌, [], ◌∷◌, ◌++◌, Option, Some, None, refl, ap, sym, ◌∙◌, arith}
use Rattle.std.proofs.lemmas.Int.{ints}
use Rattle.std.specs.Prelude.{if◌then◌else◌, unsigned_abs}
use Rattle.std.specs.FinMap.{get}
use Rattle.base_values.specs.declared.Position.{Position}
use Rattle.base_axis.specs.Along.{Along, IsAxis}
use Rattle.base_axis.specs.Rectangles.{IsInside, first_line, holds, is_between, last_line}
use Rattle.base_axis.specs.laws.RectangleLaws.{first_cross, holds_along, last_cross}
use Rattle.base_tables.specs.declared.Language.{Language}
use Rattle.base_tables.specs.declared.Locale.{Locale}
use Rattle.cell_content.specs.declared.Content.TheVariants.{Empty}
use Rattle.sheet_progress.specs.declared.Progression.{Progression}
use Rattle.sheet_progress.specs.Progressions.{progression_of}
use Rattle.sheet_grid.specs.Merges.{is_covered}
use Rattle.sheet_grid.specs.Sheet.{Sheet, shown_style}
use Rattle.sheet_fill.specs.declared.range.FillRange.{FillRange}
use Rattle.sheet_fill.specs.FillRanges.{counted_line, lines, source_line, source_place, target_line, target_place}
use Rattle.sheet_fill.specs.Targets.{cell_at, cell_with, content_with, source_covered, link_at, open_content, open_count, place_filled, place_linked, progression_on, steps, text_at, texts}
use Rattle.sheet_fill.specs.laws.LineCounts.{line_stands}

-- ---- one cross line, named by another of its places

module _ (a : Along) (is : IsAxis a) (f : FillRange) (sheet : Sheet) (at : Position) (line : ℤ) where
  pub hidden_same : (n : ℕ) → source_covered a f sheet (a.with_line at line) n ≡ source_covered a f sheet at n
  hidden_same n = ap (is_covered sheet.merges) (is.put_twice at line (source_line a f n))

  open_same : (n : ℕ) → open_count a f sheet (a.with_line at line) n ≡ open_count a f sheet at n
  open_same zero = refl
  open_same (suc n) = λ i. open_same n i + (if hidden_same n i then 0 else 1)

  module _ (locale : Locale) (language : Language) where
    texts_same : (n : ℕ) → texts a f locale language sheet (a.with_line at line) n ≡ texts a f locale language sheet at n
    texts_same zero = refl
    texts_same (suc n) =
        λ i. texts_same n i ++ (if hidden_same n i then [] else text_at locale language sheet (is.put_twice at line (source_line a f n) i) ∷ [])

    progression_same : progression_on a f locale language sheet (a.with_line at line) ≡ progression_on a f locale language sheet at
    progression_same =
        λ i. progression_of locale (text_at locale language sheet (is.put_twice at line (first_line a f.source) i)) (texts_same (lines a f.source) i)

    content_same : (p : Option Progression) (n : ℕ)
        → content_with a f locale language sheet p (a.with_line at line) n ≡ content_with a f locale language sheet p at n
    content_same p n = λ i.
        if hidden_same n i then Empty
        else open_content locale language sheet p (open_same n i) (is.put_twice at line (source_line a f n) i) (is.put_twice at line (target_line a f n) i)

    cell_same : (p : Option Progression) (n : ℕ)
        → cell_with a f locale language sheet p (a.with_line at line) n ≡ cell_with a f locale language sheet p at n
    cell_same p n = λ i. record { content = content_same p n i; style = shown_style sheet (is.put_twice at line (source_line a f n) i) }

-- ---- steps

counted_steps : (onwards : Bool) (first last : ℤ) (n : ℕ)
    → unsigned_abs (counted_line onwards first last n -ℤ counted_line onwards first last 0) ≡ n
counted_steps true first last n = omega (arith, ints)
counted_steps false first last n = omega (arith, ints)

-- the line so many steps on from the first one, or back from the last
pub counted_back : (onwards : Bool) (first last line : ℤ) → first ≤ℤ line → line ≤ℤ last
    → counted_line onwards first last (unsigned_abs (line -ℤ counted_line onwards first last 0)) ≡ line
counted_back true first last line low high = omega (arith, ints)
counted_back false first last line low high = omega (arith, ints)

between : (first last line : ℤ) → first ≤ℤ line → line ≤ℤ last → is_between first last line ≡ true
between first last line low high = grind (arith, ints)

pub between_low : (first last line : ℤ) → is_between first last line ≡ true → first ≤ℤ line
between_low first last line h = grind (arith, ints)

pub between_high : (first last line : ℤ) → is_between first last line ≡ true → line ≤ℤ last
between_high first last line h = grind (arith, ints)

-- a line counted so stands among the others
counted_between : (onwards : Bool) (first last : ℤ) (n : ℕ) → (first +ℤ pos n) ≤ℤ last → is_between first last (counted_line onwards first last n) ≡ true
counted_between true first last n few = between first last (first +ℤ pos n) (omega (arith, ints)) few
counted_between false first last n few = between first last (last -ℤ pos n) (omega (arith, ints)) (omega (arith, ints))

pub both : (a b : Bool) → (a && b) ≡ true → (a ≡ true) × (b ≡ true)
both true b h = (refl, h)
both false b h = absurd (let never : ◌≡◌ {A = Bool} false true = h in cc)

module _ (a : Along) (is : IsAxis a) (f : FillRange) (at : Position) where
  -- so many steps lead to a target
  pub steps_put : (n : ℕ) → steps a f (target_place a f at n) ≡ n
  steps_put n =
      ap (λ line. unsigned_abs (line -ℤ target_line a f 0)) (is.line_put at (target_line a f n))
      ∙ counted_steps f.is_behind (first_line a f.target) (last_line a f.target) n

  -- and the targets of the cross line of a place of the target lie in it
  pub target_held : IsInside f.target → holds f.target at ≡ true → (n : ℕ) → n < lines a f.target → holds f.target (target_place a f at n) ≡ true
  target_held inside held n few =
      let parts = both _ _ (sym (holds_along a is f.target at) ∙ held) in
      holds_along a is f.target (target_place a f at n)
      ∙ (λ i. is_between (first_line a f.target) (last_line a f.target) (is.line_put at (target_line a f n) i)
      && is_between (first_cross a f.target) (last_cross a f.target) (is.cross_stays at (target_line a f n) i))
      ∙ (λ i. counted_between f.is_behind (first_line a f.target) (last_line a f.target) n (line_stands a is f.target inside n few) i && parts.1 i)

  -- what a target gets, counted from another place of its cross line
  pub cell_here : (locale : Locale) (language : Language) (sheet : Sheet) (n : ℕ)
      → cell_at a f locale language sheet (target_place a f at n) ≡ cell_with a f locale language sheet (progression_on a f locale language sheet at) at n
  cell_here locale language sheet n =
      (λ i. cell_with a f locale language sheet (progression_same a is f sheet at (target_line a f n) locale language i) (target_place a f at n) (steps_put n i))
      ∙ cell_same a is f sheet at (target_line a f n) locale language (progression_on a f locale language sheet at) n

  pub link_here : (sheet : Sheet) (n : ℕ) → link_at a f sheet (target_place a f at n) ≡ get sheet.links (source_place a f at n)
  link_here sheet n =
      (λ i. get sheet.links (source_place a f (target_place a f at n) (steps_put n i)))
      ∙ ap (get sheet.links) (is.put_twice at (target_line a f n) (source_line a f n))

  module _ (inside : IsInside f.target) (held : holds f.target at ≡ true) (n : ℕ) (few : n < lines a f.target) (sheet : Sheet) where
    pub filled_here : (locale : Locale) (language : Language)
        → place_filled a f locale language sheet (target_place a f at n)
        ≡ Some (Some (cell_with a f locale language sheet (progression_on a f locale language sheet at) at n))
    filled_here locale language =
        ap (λ b. if b then Some (Some (cell_at a f locale language sheet (target_place a f at n))) else None) (target_held inside held n few)
        ∙ ap (λ c. Some (Some c)) (cell_here locale language sheet n)

    pub linked_here : place_linked a f sheet (target_place a f at n) ≡ Some (get sheet.links (source_place a f at n))
    linked_here =
        ap (λ b. if b then Some (link_at a f sheet (target_place a f at n)) else None) (target_held inside held n few)
        ∙ ap Some (link_here sheet n)
