-- A link that is put leaves a well-formed workbook, and its change is the record.
use Rattle.std.proofs.Common.{◌≡◌, ℕ, ℤ, true, List, Option, Result, Ok, Err, refl, ap, sym, subst, ◌∙◌}
use Rattle.std.specs.Prelude.{IfOk, IsOkUnless}
use Rattle.base_values.specs.declared.EditError.{EditError}
use Rattle.base_values.specs.declared.EditError.TheVariants.{NoMemory}
use Rattle.base_values.specs.declared.Position.{Position}
use Rattle.base_values.specs.Answers.{map_ok}
use Rattle.base_values.specs.KeyMap.{with_entry}
use Rattle.base_values.specs.Places.{place_of, is_place}
use Rattle.sheet_grid.specs.declared.Link.{Link}
use Rattle.sheet_grid.specs.Sheet.{Sheet, link_put}
use Rattle.sheet_grid.specs.Book.{Book, sheet_at, with_sheet}
use Rattle.sheet_rules.specs.WellFormed.{IsWellFormed}
use Rattle.sheet_history.specs.declared.Diff.{Diff}
use Rattle.sheet_history.specs.Diffs.{IsCanonicalList}
use Rattle.sheet_history.specs.Entries.{EntryKey, with_sheet_entry, put_entry}
use Rattle.sheet_history.specs.Entries.EntryKey.{LinkKey}
use Rattle.sheet_history.specs.Entries.EntryValue.{LinkValue}
use Rattle.sheet_history.specs.Records.{IsRecord}
use Rattle.sheet_history.specs.laws.OneEntry.{put_record}
use Rattle.sheet_history.specs.laws.RuleLaws.{well_formed-link}
use Rattle.edit_plans.specs.Plans.{IsPlan, Plans}
use Rattle.edit_plans.specs.Links.{link_set}
use Rattle.edit_plans.specs.laws.EditRecords.{link_change}
use Rattle.edit_plans.specs.laws.AtIndex.{there, changed_at, put_changed}
use Rattle.edit_plans.specs.laws.Fonts.{place_inside}
use Rattle.edit_plans.specs.laws.PlanLaws.{plan_refused, plan_made, no_sheet, sheet_refuses, sheet_takes, sheet_sure, place_sure}

module _ (w : Book) (index : ℕ) (row column : ℤ) (entry : Option Link) (rules : IsWellFormed w)
    (sheet : Sheet) (place : Position) (at : sheet_at w index ≡ Ok sheet) (named : place_of row column ≡ Ok place) where
  abbrev key : EntryKey
  key = LinkKey sheet.id place

  abbrev linked : Sheet
  linked = record sheet { links = with_entry sheet.links place entry }

  abbrev after : Book
  after = with_sheet w index linked

  inside : is_place place ≡ true
  inside = place_inside row column place named

  put_is : put_entry w key (LinkValue entry) ≡ after
  put_is = put_changed w key (LinkValue entry) refl ∙ changed_at w rules index sheet at (with_sheet_entry key (LinkValue entry))

  pub link_well_formed : IsWellFormed after
  link_well_formed = subst IsWellFormed put_is (well_formed-link w sheet.id place entry rules inside)

  pub link_exact : IsRecord w after (link_change sheet place entry)
  link_exact = subst (λ later. IsRecord w later (link_change sheet place entry)) put_is (put_record w key (LinkValue entry) sheet (there w rules index sheet at) inside)

  pub link_plan : (list : List Diff) → list ≡ link_change sheet place entry → IsCanonicalList list → IsPlan w list after
  link_plan list is kept = record {
    exact = subst (IsRecord w after) (sym is) link_exact;
    rules = link_well_formed;
    canonical = kept;
  }

  pub link_expected : link_set index row column entry w ≡ Ok after
  unfolding link_set
  link_expected =
      sheet_takes w index (λ s. link_put s row column entry) sheet linked at
      (ap (map_ok (λ p. record sheet { links = with_entry sheet.links p entry })) named)

-- ---- what the plan returns

-- where no such sheet is there
pub link_no_sheet : (w : Book) (index : ℕ) (row column : ℤ) (entry : Option Link) (error : EditError) → sheet_at w index ≡ Err error
    → Plans (Err error) w (link_set index row column entry w)
unfolding link_set
link_no_sheet w index row column entry error missing =
    plan_refused w (link_set index row column entry w) error (no_sheet w index (λ s. link_put s row column entry) error missing)
    (sheet_sure w index error missing)

-- where the place is outside
pub link_refused : (w : Book) (index : ℕ) (row column : ℤ) (entry : Option Link) (sheet : Sheet) (error : EditError)
    → sheet_at w index ≡ Ok sheet → place_of row column ≡ Err error
    → Plans (Err error) w (link_set index row column entry w)
unfolding link_set
link_refused w index row column entry sheet error at outside =
    plan_refused w (link_set index row column entry w) error
    (sheet_refuses w index (λ s. link_put s row column entry) sheet error at
    (ap (map_ok (λ p. record sheet { links = with_entry sheet.links p entry })) outside))
    (place_sure row column error outside)

-- and else
pub link_planned : (w : Book) (index : ℕ) (row column : ℤ) (entry : Option Link) → IsWellFormed w → (sheet : Sheet) (place : Position)
    → sheet_at w index ≡ Ok sheet → place_of row column ≡ Ok place
    → (result : Result (List Diff) EditError) → IfOk result (λ list. list ≡ link_change sheet place entry) → IfOk result IsCanonicalList
    → IsOkUnless result NoMemory
    → Plans result w (link_set index row column entry w)
link_planned w index row column entry rules sheet place at named result output kept only =
    plan_made w (after w index row column entry rules sheet place at named) (link_set index row column entry w) result
    (link_expected w index row column entry rules sheet place at named) only (plan result output kept)
  where
    plan : (r : Result (List Diff) EditError) → IfOk r (λ list. list ≡ link_change sheet place entry) → IfOk r IsCanonicalList
        → IfOk r (λ list. IsPlan w list (after w index row column entry rules sheet place at named))
    plan (Ok list) is all = link_plan w index row column entry rules sheet place at named list is all
    plan (Err error) is all = tt
