-- Pasted styles: rows that are tested one by one, the lines of the rectangle that gets them, and the refusals of plans.
use Rattle.std.proofs.Common.{◌≡◌, ◌≢◌, ◌⊎◌, inl, inr, ℕ, ℤ, pos, ◌+ℤ◌, ◌-ℤ◌, ◌<◌, ◌≤◌, ◌<ℤ◌, ◌≤ℤ◌, Bool, true, false, cond, ◌&&◌, List, [], ◌∷◌, length, get_or, map, take, Option, Some, None, zero, suc, true≢false, Result, Ok, Err, w32, w64, FitsSigned, to_z, of_z, refl, ap, sym, subst, ◌∙◌, arith}
use Rattle.std.specs.Prelude.{◌||◌, not, if◌then◌else◌, is_ok, slice_get}
use Rattle.std.specs.List.{list_all}
use Rattle.std.specs.FinMap.{FinMap}
use Rattle.std.specs.Ordering.{int_cmp}
use Rattle.std.proofs.lemmas.Int.{ints}
use Rattle.std.proofs.lemmas.List.{take_all}
use Rattle.std.proofs.lemmas.List.Folds.{list_all-map, list_all_at}
use Rattle.base_values.specs.declared.EditError.{EditError}
use Rattle.base_values.specs.declared.EditError.TheVariants.{InvalidArea, InvalidSheet, NoMemory, StyleValue, StylesShape}
use Rattle.base_values.specs.Answers.{Returns, and_then, map_ok, ok_or}
use Rattle.base_axis.specs.declared.MergedCell.{MergedCell}
use Rattle.base_axis.specs.Along.{Along, columns, rows}
use Rattle.base_axis.specs.Rectangles.{IsInside, anchor_place, is_inside}
use Rattle.base_axis.specs.laws.RectangleLaws.{inside_found}
use Rattle.base_styles.specs.declared.Style.{Style}
use Rattle.sheet_grid.specs.declared.LineAttr.{LineAttr}
use Rattle.sheet_grid.specs.Sheet.{Sheet}
use Rattle.sheet_grid.specs.Book.{Book, sheet_edit, with_sheet}
use Rattle.planned_maps.specs.Planned.{places_of}
use Rattle.range_styles.specs.declared.SheetPlan.{SheetPlan}
use Rattle.range_styles.specs.declared.StyleRange.{StyleRange}
use Rattle.range_styles.specs.StyleRanges.{touches_line}
use Rattle.range_styles.specs.Tiles.{tiles}
use Rattle.range_styles.specs.Styled.{StyleAt, all_accept, line_accepts, lines_accept, place_accepts, planned_styles, style_plan}
use Rattle.edit_plans.specs.Plans.{Plans}
use Rattle.edit_plans.specs.RangeEdits.{IsPasteRefusal, greater, is_tile, pasted_area, pasted_by, pasted_in, planned_in, styles_pasted, tiled_range}
use Rattle.edit_plans.specs.laws.PlanLaws.{plan_refused}

-- what holds of all mapped items, where the test passed at each, and where it failed at one
module _ {X Y : Type 0} (p : X → Bool) (h : Y → X) (ys : List Y) (i : ℕ) where
  pub all_passed : length ys ≤ i → list_all (λ y. p (h y)) (take i ys) ≡ true → true ≡ list_all p (map h ys)
  all_passed over passed = sym (list_all-map p h ys ∙ ap (list_all (λ y. p (h y))) (sym (take_all i ys over)) ∙ passed)

  pub one_failed : (y : Y) → y ≡ get_or ys i y → i < length ys → p (h y) ≡ false → false ≡ list_all p (map h ys)
  one_failed y is within failed = sym (list_all-map p h ys ∙ list_all_at (λ z. p (h z)) ys i y within (ap (λ z. p (h z)) (sym is) ∙ failed))

-- how many lines there are from a first to a last, in 64 bits
abbrev wide : ℤ → ℤ
wide n = to_z w64 (of_z w64 n)

pub counted_lines : (first last f l : ℤ) → FitsSigned w32 first → FitsSigned w32 last → f ≡ to_z w32 (of_z w32 first) → l ≡ to_z w32 (of_z w32 last)
    → wide (wide (wide l -ℤ wide f) +ℤ pos 1) ≡ ((last -ℤ first) +ℤ pos 1)
counted_lines first last f l a b one two = omega (arith, ints, a, b, one, two)

-- a number of 32 bits, as the code has it
abbrev short : ℤ → ℤ
short n = to_z w32 (of_z w32 n)

pub fits_same : (x : ℤ) → FitsSigned w32 x → short x ≡ x
fits_same x fits = omega (arith, ints, fits)

module _ (first last : ℤ) (a : FitsSigned w32 first) (b : FitsSigned w32 last) (n m : ℕ) (is : n ≡ m) where
  abbrev grown_by : ℤ → ℤ → ℕ → ℤ
  grown_by f l count = greater ((l -ℤ f) +ℤ pos 1) (pos count)

  same_count : grown_by (short first) (short last) n ≡ grown_by first last m
  same_count = λ i. grown_by (fits_same first a i) (fits_same last b i) (is i)

  pub count_far : pos 1048576 <ℤ grown_by (short first) (short last) n → pos 1048576 <ℤ grown_by first last m
  count_far far = subst (λ z. pos 1048576 <ℤ z) same_count far

  pub count_is : (grown : ℤ) → short grown ≡ grown → grown ≡ grown_by (short first) (short last) n → short grown ≡ grown_by first last m
  count_is grown fits e = fits ∙ e ∙ same_count

-- a rectangle of more lines than a sheet has reaches outside
too_many : (first count last : ℤ) → pos 1 ≤ℤ first → (first +ℤ (count -ℤ pos 1)) ≤ℤ last → last ≤ℤ pos 1048576 → pos 1048576 <ℤ count → ⊥
too_many first count last low high few many = omega (arith, ints, low, high, few, many)

module _ (r : MergedCell) where
  outside : (IsInside r → ⊥) → is_inside r ≡ false
  outside never = go (is_inside r) refl
    where
      go : (b : Bool) → is_inside r ≡ b → b ≡ false
      go true inside = absurd (never (inside_found r inside))
      go false inside = refl

  pub too_high : pos 1048576 <ℤ r.height → is_inside r ≡ false
  too_high many = outside (λ inside. too_many r.row r.height (pos 1048576) inside.first.0.0 inside.last.0.1 (omega (arith, ints)) many)

  pub too_wide : pos 1048576 <ℤ r.width → is_inside r ≡ false
  too_wide many = outside (λ inside. too_many r.column r.width (pos 16384) inside.first.1.0 inside.last.1.1 (omega (arith, ints)) many)

-- a rectangle by its four numbers
pub same_rectangle : (row column width height a b c d : ℤ) → row ≡ a → column ≡ b → width ≡ c → height ≡ d
    → ◌≡◌ {A = MergedCell} (record { row = row; column = column; width = width; height = height }) (record { row = a; column = b; width = c; height = d })
same_rectangle row column width height a b c d e f g h = λ i. record { row = e i; column = f i; width = g i; height = h i }

-- the numbers of a rectangle as a view has it
module _ (styles : List (List Style)) where
  by_range : (range : List ℤ) → length range ≡ 4
      → pasted_area styles (get_or range 0 (pos 0)) (get_or range 1 (pos 0)) (get_or range 2 (pos 0)) (get_or range 3 (pos 0)) ≡ pasted_by styles range
  by_range [] many = absurd (omega (arith, many))
  by_range (a ∷ []) many = absurd (omega (arith, many))
  by_range (a ∷ b ∷ []) many = absurd (omega (arith, many))
  by_range (a ∷ b ∷ c ∷ []) many = absurd (omega (arith, many))
  by_range (a ∷ b ∷ c ∷ d ∷ []) many = refl
  by_range (a ∷ b ∷ c ∷ d ∷ e ∷ rest) many = absurd (omega (arith, many))

  abbrev short_at : List ℤ → ℕ → Type 0
  short_at range k = short (get_or range k (pos 0)) ≡ get_or range k (pos 0)

  pub area_by_range : (range : List ℤ) → length range ≡ 4 → short_at range 0 → short_at range 1 → short_at range 2 → short_at range 3
      → pasted_area styles (short (get_or range 0 (pos 0))) (short (get_or range 1 (pos 0))) (short (get_or range 2 (pos 0))) (short (get_or range 3 (pos 0)))
      ≡ pasted_by styles range
  area_by_range range many a b c d = (λ i. pasted_area styles (a i) (b i) (c i) (d i)) ∙ by_range range many

-- ---- styles that any place takes

each_passes : {X : Type 0} (p : X → Bool) → ((x : X) → p x ≡ true) → (xs : List X) → list_all p xs ≡ true
each_passes p passes [] = refl
each_passes p passes (x ∷ xs) = ap (λ b. b && list_all p xs) (passes x) ∙ each_passes p passes xs

either_so : (a : Bool) → (a || true) ≡ true
either_so true = refl
either_so false = refl

pub all_taken : (range : StyleRange) (sheet : Sheet) → all_accept range (λ place style. true) sheet ≡ true
unfolding all_accept
all_taken range sheet = λ i. (each_passes (place_accepts range (λ place style. true) sheet) (λ place. either_so _) (places_of range.area) i
    && lines_taken columns sheet.columns i) && lines_taken rows sheet.rows i
  where
    lines_taken : (a : Along) (lines : FinMap int_cmp LineAttr) → lines_accept a range (λ place style. true) lines ≡ true
    lines_taken a lines =
        each_passes (line_accepts a range (λ place style. true) lines)
        (λ line. ap (λ b. not (touches_line a range lines line) || b) (either_so _) ∙ either_so _) _

-- so where memory is short there would have been a plan
pub tiles_short : (range : StyleRange) (output : StyleAt) (refusal : EditError) (sheet : Sheet) (error : EditError) → error ≡ NoMemory
    → Returns {T = SheetPlan} (Err error) (planned_styles range output (λ place style. true) refusal sheet)
unfolding planned_styles
tiles_short range output refusal sheet error is = record {
  done = tt;
  refused = λ other. absurd (other is);
  memory = λ short. ap (λ b. is_ok (cond b (Ok (style_plan range output sheet)) (Err refusal))) (all_taken range sheet);
}

-- ---- styles that are no tile, and those that are

pub shape_refused : (w : Book) (index : ℕ) (r : MergedCell) (styles : List (List Style)) (error : EditError)
    → ◌≡◌ {A = Result Unit EditError} (Err error) (if is_tile styles then Ok tt else Err StylesShape) → error ≢ NoMemory
    → Plans (Err error) w (styles_pasted index r styles w)
unfolding styles_pasted
shape_refused w index r styles error is sure = plan_refused w (styles_pasted index r styles w) error (go (is_tile styles) is) sure
  where
    go : (b : Bool) → ◌≡◌ {A = Result Unit EditError} (Err error) (cond b (Ok tt) (Err StylesShape))
        → ◌≡◌ {A = Result Book EditError} (cond b (sheet_edit w index (pasted_in r styles)) (Err StylesShape)) (Err error)
    go true e = absurd (let never : ◌≡◌ {A = Result Unit EditError} (Err error) (Ok tt) = e in cc)
    go false e = cc

pub tile_passed : (styles : List (List Style))
    → ◌≡◌ {A = Result Unit EditError} (Ok tt) (if is_tile styles then Ok tt else Err StylesShape) → is_tile styles ≡ true
tile_passed styles is = go (is_tile styles) is
  where
    go : (b : Bool) → ◌≡◌ {A = Result Unit EditError} (Ok tt) (cond b (Ok tt) (Err StylesShape)) → b ≡ true
    go true e = refl
    go false e = absurd (let never : ◌≡◌ {A = Result Unit EditError} (Ok tt) (Err StylesShape) = e in cc)

-- ---- why styles are not pasted

not_beyond : {X : Type 0} (xs : List X) (i : ℕ) → i < length xs → slice_get xs i ≡ None → ⊥
not_beyond [] i within none = omega (arith, within)
not_beyond (x ∷ xs) zero within none = cc
not_beyond (x ∷ xs) (suc i) within none = not_beyond xs i (omega (arith, within)) none

-- what styles make of a rectangle, tiled from the first place of another one
abbrev pasted_plan : MergedCell → List (List Style) → Sheet → MergedCell → SheetPlan
pasted_plan r styles sheet area = style_plan (tiled_range area) (tiles styles (anchor_place r)) sheet

-- over the sheet at an index that is there, because they are no tile, or the rectangle is empty or reaches outside
pub paste_refusals : (index : ℕ) (r : MergedCell) (styles : List (List Style)) (book : Book) (error : EditError) → index < length book.worksheets
    → styles_pasted index r styles book ≡ Err error → IsPasteRefusal error
unfolding styles_pasted planned_styles
paste_refusals index r styles book error there is = shaped (is_tile styles) is
  where
    planned : (sheet : Sheet) (b : Bool) → all_accept (tiled_range r) (λ place style. true) sheet ≡ b
        → map_ok (with_sheet book index) (planned_in sheet (cond b (Ok (pasted_plan r styles sheet r)) (Err StyleValue))) ≡ Err error → ⊥
    planned sheet true is e = cc
    planned sheet false is e = true≢false (sym (all_taken (tiled_range r) sheet) ∙ is)

    inside : (sheet : Sheet) (b : Bool)
        → map_ok (with_sheet book index)
        (and_then (cond b (Ok r) (Err InvalidArea)) (λ area. planned_in sheet (cond (all_accept (tiled_range area) (λ place style. true) sheet) (Ok (pasted_plan r styles sheet area)) (Err StyleValue)))) ≡ Err error
        → IsPasteRefusal error
    inside sheet true e = absurd (planned sheet (all_accept (tiled_range r) (λ place style. true) sheet) refl e)
    inside sheet false e = let same : error ≡ InvalidArea = cc in inr same

    found : (o : Option Sheet) → slice_get book.worksheets index ≡ o → and_then (ok_or InvalidSheet o) (λ sheet. map_ok (with_sheet book index) (pasted_in r styles sheet)) ≡ Err error
        → IsPasteRefusal error
    found (Some sheet) at e = inside sheet (is_inside r) e
    found None at e = absurd (not_beyond book.worksheets index there at)

    shaped : (b : Bool) → ◌≡◌ {A = Result Book EditError} (cond b (sheet_edit book index (pasted_in r styles)) (Err StylesShape)) (Err error) → IsPasteRefusal error
    shaped true e = found (slice_get book.worksheets index) refl e
    shaped false e = let same : error ≡ StylesShape = cc in inl same
