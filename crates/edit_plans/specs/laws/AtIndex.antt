-- Entries put in the sheet at an index of a well-formed workbook.
use Rattle.std.proofs.Common.{◌≡◌, ℕ, zero, suc, true, false, cond, List, [], ◌∷◌, map, Some, None, Ok, option_map, refl, ap, sym, ◌∙◌}
use Rattle.std.specs.Prelude.{◌==◌, slice_get, slice_set}
use Rattle.std.specs.List.{AllByRecursion, IsDistinct}
use Rattle.std.specs.Cmp.{unsigned_Decides}
use Rattle.base_values.specs.declared.EditError.TheVariants.{InvalidSheet}
use Rattle.sheet_grid.specs.Sheet.{Sheet}
use Rattle.sheet_grid.specs.Book.{Book, sheet_at, with_sheet}
use Rattle.sheet_rules.specs.WellFormed.{IsWellFormed}
use Rattle.sheet_rules.specs.laws.WellFormedLaws.{distinct_ids_from_well_formed}
use Rattle.sheet_ids.specs.Ids.{sheet_of}
use Rattle.sheet_actions.specs.laws.OwnSheets.{own_found}
use Rattle.sheet_history.specs.Entries.{EntryKey, EntryValue, setting_of, sheet_id_of, with_sheet_entry, with_changed, entry_placed, put_entry}
use Rattle.sheet_history.specs.laws.EntryLaws.{decide, found-changed, id-with_sheet_entry}
use Rattle.sheet_history.specs.laws.PutLaws.{ok_or-some}
use Rattle.sheet_history.specs.laws.RuleLaws.{KeepsSheetRules, sheet_rules}

-- ---- sheets by their ids and by their indexes

abbrev ids : List Sheet → List ℕ
ids sheets = map (λ (s : Sheet). s.id) sheets

-- a later sheet has another id than the first one
apart : (first : Sheet) (sheets : List Sheet) → AllByRecursion (λ id. (first.id == id) ≡ false) (ids sheets) → (index : ℕ) (sheet : Sheet)
    → slice_get sheets index ≡ Some sheet → (first.id == sheet.id) ≡ false
apart first [] others index sheet found = absurd (cc)
apart first (s ∷ sheets) others zero sheet found = let same : s ≡ sheet = cc in ap (λ (t : Sheet). first.id == t.id) (sym same) ∙ others.0
apart first (s ∷ sheets) others (suc index) sheet found = apart first sheets others.1 index sheet found

own_id : (s sheet : Sheet) → s ≡ sheet → (s.id == sheet.id) ≡ true
own_id s sheet same = (unsigned_Decides s.id sheet.id).1 (ap (λ (t : Sheet). t.id) same)

-- a sheet that is changed by its index is changed by its id
own_changed : (change : Sheet → Sheet) (sheets : List Sheet) → IsDistinct ◌==◌ (ids sheets) → (index : ℕ) (sheet : Sheet)
    → slice_get sheets index ≡ Some sheet
    → with_changed sheet.id change sheets ≡ slice_set sheets index (change sheet)
unfolding IsDistinct
own_changed change [] distinct index sheet found = absurd (cc)
own_changed change (s ∷ sheets) distinct zero sheet found =
    let same : s ≡ sheet = cc in
    ap (λ b. cond b (change s ∷ sheets) (s ∷ with_changed sheet.id change sheets)) (own_id s sheet same) ∙ ap (λ t. change t ∷ sheets) same
own_changed change (s ∷ sheets) distinct (suc index) sheet found =
    ap (λ b. cond b (change s ∷ sheets) (s ∷ with_changed sheet.id change sheets)) (apart s sheets distinct.0 index sheet found)
    ∙ ap (λ ts. s ∷ ts) (own_changed change sheets distinct.1 index sheet found)

-- ---- the sheet at an index

module _ (w : Book) (rules : IsWellFormed w) (index : ℕ) (sheet : Sheet) (at : sheet_at w index ≡ Ok sheet) where
  found : slice_get w.worksheets index ≡ Some sheet
  found = ok_or-some InvalidSheet (slice_get w.worksheets index) sheet at

  -- it is the one of its id
  pub there : sheet_of w sheet.id ≡ Some sheet
  there = own_found w rules index sheet found

  -- it keeps the rules of one sheet
  pub keeps : KeepsSheetRules sheet
  keeps = sheet_rules w rules sheet.id sheet there

  -- a change of the sheet of its id is one of it
  pub changed_at : (change : Sheet → Sheet)
      → ◌≡◌ {A = Book} (record w { worksheets = with_changed sheet.id change w.worksheets }) (with_sheet w index (change sheet))
  changed_at change = ap (λ ss. record w { worksheets = ss }) (own_changed change w.worksheets (distinct_ids_from_well_formed w rules) index sheet found)

-- ---- entries that are put one after another

-- changes of one sheet, one after another
pub changed_twice : (id : ℕ) (first second : Sheet → Sheet) → ((s : Sheet) → (first s).id ≡ s.id) → (ss : List Sheet)
    → with_changed id second (with_changed id first ss) ≡ with_changed id (λ s. second (first s)) ss
changed_twice id first second same_ids [] = refl
changed_twice id first second same_ids (s ∷ ss) =
    decide (s.id == id)
    (λ hit. (λ i. with_changed id second (cond (hit i) (first s ∷ ss) (s ∷ with_changed id first ss)))
    ∙ ap (λ b. cond b (second (first s) ∷ ss) (first s ∷ with_changed id second ss)) (ap (λ n. n == id) (same_ids s) ∙ hit)
    ∙ ap (λ b. cond b (second (first s) ∷ ss) (s ∷ with_changed id (λ t. second (first t)) ss)) (sym hit))
    (λ miss. (λ i. with_changed id second (cond (miss i) (first s ∷ ss) (s ∷ with_changed id first ss)))
    ∙ ap (λ b. cond b (second s ∷ with_changed id first ss) (s ∷ with_changed id second (with_changed id first ss))) miss
    ∙ ap (λ ts. s ∷ ts) (changed_twice id first second same_ids ss)
    ∙ ap (λ b. cond b (second (first s) ∷ ss) (s ∷ with_changed id (λ t. second (first t)) ss)) (sym miss))

-- an entry of a sheet that is put changes the sheet of its id
pub put_changed : (w : Book) (k : EntryKey) (v : EntryValue) → setting_of k ≡ None
    → put_entry w k v ≡ record w { worksheets = with_changed (sheet_id_of k) (with_sheet_entry k v) w.worksheets }
unfolding put_entry
put_changed w k v none = λ i. entry_placed (none i) k v w

-- two entries of one sheet change it twice
pub put_twice : (w : Book) (k l : EntryKey) (v u : EntryValue) → setting_of k ≡ None → setting_of l ≡ None → sheet_id_of l ≡ sheet_id_of k
    → put_entry (put_entry w k v) l u ≡ record w { worksheets = with_changed (sheet_id_of k) (λ s. with_sheet_entry l u (with_sheet_entry k v s)) w.worksheets }
unfolding put_entry
put_twice w k l v u none none_too one =
    (λ i. entry_placed (none_too i) l u (entry_placed (none i) k v w))
    ∙ (λ i. record w { worksheets = with_changed (one i) (with_sheet_entry l u) (with_changed (sheet_id_of k) (with_sheet_entry k v) w.worksheets) })
    ∙ ap (λ ss. record w { worksheets = ss })
    (changed_twice (sheet_id_of k) (with_sheet_entry k v) (with_sheet_entry l u) (id-with_sheet_entry k v) w.worksheets)

-- the sheet of an entry that was put
pub sheet_of-put : (w : Book) (k : EntryKey) (v : EntryValue) → setting_of k ≡ None → (sheet : Sheet) → sheet_of w (sheet_id_of k) ≡ Some sheet
    → sheet_of (put_entry w k v) (sheet_id_of k) ≡ Some (with_sheet_entry k v sheet)
unfolding put_entry
sheet_of-put w k v none sheet there =
    (λ i. sheet_of (entry_placed (none i) k v w) (sheet_id_of k))
    ∙ found-changed (with_sheet_entry k v) (id-with_sheet_entry k v) (sheet_id_of k) w.worksheets ∙ ap (option_map (with_sheet_entry k v)) there

-- a change that leaves every sheet
pub changed_same : (id : ℕ) (ss : List Sheet) → with_changed id (λ s. s) ss ≡ ss
changed_same id [] = refl
changed_same id (s ∷ ss) =
    decide (s.id == id)
    (λ hit. λ i. cond (hit i) (s ∷ ss) (s ∷ with_changed id (λ t. t) ss))
    (λ miss. (λ i. cond (miss i) (s ∷ ss) (s ∷ with_changed id (λ t. t) ss)) ∙ ap (λ ts. s ∷ ts) (changed_same id ss))
