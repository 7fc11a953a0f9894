-- The plan of a fill, step by step.
use Rattle.std.proofs.Common.{◌≡◌, ◌≢◌, ℤ, Option, Some, None, Result, Ok, Err, refl, ap, sym, subst, ◌∙◌}
use Rattle.std.specs.Prelude.{IfOk, IsOk, IsOkUnless, slice_get}
use Rattle.base_values.specs.declared.EditError.{EditError}
use Rattle.base_values.specs.declared.EditError.TheVariants.{NoMemory, InvalidSheet}
use Rattle.base_values.specs.Answers.{Returns, and_then, map_ok, ok_or}
use Rattle.base_axis.specs.declared.Area.{Area}
use Rattle.base_axis.specs.Along.{Along}
use Rattle.base_tables.specs.declared.Language.{Language}
use Rattle.sheet_grid.specs.Sheet.{Sheet}
use Rattle.sheet_grid.specs.Book.{Book, sheet_at}
use Rattle.sheet_fill.specs.declared.range.FillRange.{FillRange}
use Rattle.sheet_fill.specs.declared.plan.FillPlan.{FillPlan}
use Rattle.sheet_fill.specs.FillRanges.{range_of, source_of}
use Rattle.sheet_fill.specs.Tiles.{range_tested}
use Rattle.sheet_fill.specs.Plans.{fill_planned, plan_of, planned_in}

-- a refusal that is expected
refused : (expected : Result FillPlan EditError) (error : EditError) → expected ≡ Err error → error ≢ NoMemory → Returns (Err error) expected
refused expected error is sure = record { done = tt; refused = λ other. is; memory = λ short. absurd (sure short) }

-- no memory where a plan is expected
pub late : {A : Type 0} (expected : Result FillPlan EditError) (plan : FillPlan) → expected ≡ Ok plan → (error : EditError) (v : A)
    → Returns {T = A} (Err error) (Ok v) → Returns (Err error) expected
late {A} expected plan is error v short = record {
  done = tt;
  refused = λ other. absurd (let never : ◌≡◌ {A = Result A EditError} (Ok v) (Err error) = short.refused other in cc);
  memory = λ s. subst IsOk (sym is) refl;
}

-- a plan that is expected, or no memory
pub planned_all : (expected : Result FillPlan EditError) (plan : FillPlan) → expected ≡ Ok plan → (r : Result FillPlan EditError) → IfOk r (λ output. output ≡ plan)
    → IsOkUnless r NoMemory → Returns r expected
planned_all expected plan is (Ok output) same only = record { done = is ∙ ap Ok (sym same); refused = tt; memory = tt }
planned_all expected plan is (Err error) same only = record { done = tt; refused = λ other. absurd (other only); memory = λ s. subst IsOk (sym is) refl }

module _ (a : Along) (area : Area) (to : ℤ) (language : Language) (book : Book) where
  -- no sheet is missing since memory is short
  sheet_sure : (error : EditError) → sheet_at book area.sheet ≡ Err error → error ≢ NoMemory
  sheet_sure error missing short = go (slice_get book.worksheets area.sheet) missing
    where
      go : (o : Option Sheet) → ok_or InvalidSheet o ≡ Err error → ⊥
      go None is = absurd (let never : ◌≡◌ {A = Result Sheet EditError} (Err InvalidSheet) (Err NoMemory) = is ∙ ap Err short in cc)
      go (Some sheet) is = absurd (let never : ◌≡◌ {A = Result Sheet EditError} (Ok sheet) (Err error) = is in cc)

  -- no such sheet
  pub planned_nowhere : (error : EditError) → sheet_at book area.sheet ≡ Err error → Returns (Err error) (fill_planned a area to language book)
  unfolding fill_planned
  planned_nowhere error missing =
      refused (fill_planned a area to language book) error (ap (λ r. and_then r (planned_in a (source_of area) to book.locale language)) missing) (sheet_sure error missing)

  module _ (sheet : Sheet) (at : sheet_at book area.sheet ≡ Ok sheet) where
    found : fill_planned a area to language book ≡ planned_in a (source_of area) to book.locale language sheet
    unfolding fill_planned
    found = ap (λ r. and_then r (planned_in a (source_of area) to book.locale language)) at

    -- a source or a line that is refused
    pub planned_outside : (error : EditError) → error ≢ NoMemory → range_of a (source_of area) to ≡ Err error → Returns (Err error) (fill_planned a area to language book)
    planned_outside error sure is =
        refused (fill_planned a area to language book) error
        (found ∙ ap (λ r. map_ok (plan_of a book.locale language sheet) (and_then r (λ f. range_tested a f sheet))) is) sure

    module _ (f : FillRange) (is : range_of a (source_of area) to ≡ Ok f) where
      tested : fill_planned a area to language book ≡ map_ok (plan_of a book.locale language sheet) (range_tested a f sheet)
      tested = found ∙ ap (λ r. map_ok (plan_of a book.locale language sheet) (and_then r (λ f. range_tested a f sheet))) is

      -- what stands on the sheet refuses it
      pub planned_blocked : (error : EditError) → error ≢ NoMemory → range_tested a f sheet ≡ Err error → Returns (Err error) (fill_planned a area to language book)
      planned_blocked error sure blocked =
          refused (fill_planned a area to language book) error (tested ∙ ap (map_ok (plan_of a book.locale language sheet)) blocked) sure

      -- and else there is a plan
      pub planned_free : (free : FillRange) → range_tested a f sheet ≡ Ok free → fill_planned a area to language book ≡ Ok (plan_of a book.locale language sheet free)
      planned_free free passed = tested ∙ ap (map_ok (plan_of a book.locale language sheet)) passed
