-- A sheet of a well-formed workbook is the one of its id.
use Rattle.std.proofs.Common.{◌≡◌, ℕ, zero, suc, Bool, true, false, refl, cond, List, [], ◌∷◌, map, Some, ap, sym, ◌∙◌}
use Rattle.std.specs.Prelude.{◌==◌, slice_get, IfSome}
use Rattle.std.specs.List.{AllByRecursion, IsDistinct, find}
use Rattle.std.specs.Cmp.{unsigned_Decides}
use Rattle.sheet_grid.specs.Sheet.{Sheet}
use Rattle.sheet_grid.specs.Book.{Book}
use Rattle.sheet_rules.specs.WellFormed.{IsWellFormed}
use Rattle.sheet_rules.specs.laws.WellFormedLaws.{distinct_ids_from_well_formed}
use Rattle.sheet_ids.specs.Ids.{sheet_of}

abbrev ids : List Sheet → List ℕ
ids sheets = map (λ (s : Sheet). s.id) sheets

-- a later sheet has another id than the first one
apart : (first : Sheet) (sheets : List Sheet) → AllByRecursion (λ id. (first.id == id) ≡ false) (ids sheets) → (index : ℕ) (sheet : Sheet) → slice_get sheets index ≡ Some sheet → (first.id == sheet.id) ≡ false
apart first [] others index sheet found = absurd (cc)
apart first (s ∷ sheets) others zero sheet found = let same : s ≡ sheet = cc in ap (λ (t : Sheet). first.id == t.id) (sym same) ∙ others.0
apart first (s ∷ sheets) others (suc index) sheet found = apart first sheets others.1 index sheet found

own_id : (s sheet : Sheet) → s ≡ sheet → (s.id == sheet.id) ≡ true
own_id s sheet same = (unsigned_Decides s.id sheet.id).1 (ap (λ (t : Sheet). t.id) same)

own_sheet : (sheets : List Sheet) → IsDistinct ◌==◌ (ids sheets) → (index : ℕ) (sheet : Sheet) → slice_get sheets index ≡ Some sheet → find (λ (s : Sheet). s.id == sheet.id) sheets ≡ Some sheet
unfolding IsDistinct
own_sheet [] distinct index sheet found = absurd (cc)
own_sheet (s ∷ sheets) distinct zero sheet found =
    let same : s ≡ sheet = cc in
    ap (λ b. cond b (Some s) (find (λ (t : Sheet). t.id == sheet.id) sheets)) (own_id s sheet same) ∙ ap Some same
own_sheet (s ∷ sheets) distinct (suc index) sheet found =
    ap (λ b. cond b (Some s) (find (λ (t : Sheet). t.id == sheet.id) sheets)) (apart s sheets distinct.0 index sheet found) ∙ own_sheet sheets distinct.1 index sheet found

-- the sheet at an index is found by its id
pub own_found : (book : Book) → IsWellFormed book → (index : ℕ) (sheet : Sheet) → slice_get book.worksheets index ≡ Some sheet → sheet_of book sheet.id ≡ Some sheet
own_found book rules index sheet found = own_sheet book.worksheets (distinct_ids_from_well_formed book rules) index sheet found

-- what holds of the sheet of an id holds of each sheet that has the id
pub each_of_id : (P : Sheet → Type 0) (id : ℕ) (sheets : List Sheet) → IsDistinct ◌==◌ (ids sheets) → IfSome (find (λ (s : Sheet). s.id == id) sheets) P → AllByRecursion (λ sheet. (sheet.id == id) ≡ true → P sheet) sheets
unfolding IsDistinct
each_of_id P id [] distinct holds = tt
each_of_id P id (s ∷ sheets) distinct holds = by_id (s.id == id) refl holds (each_of_id P id sheets distinct.1)
  where
    never : (t : Sheet) → (s.id == id) ≡ true → (s.id == t.id) ≡ false → (t.id == id) ≡ true → P t
    never t here other there =
        let one = (unsigned_Decides s.id id).0 here in
        let two = (unsigned_Decides t.id id).0 there in
        let same = (unsigned_Decides s.id t.id).1 (one ∙ sym two) in
        absurd (let clash : true ≡ false = sym same ∙ other in cc)

    none : (s.id == id) ≡ true → (ts : List Sheet) → AllByRecursion (λ i. (s.id == i) ≡ false) (ids ts) → AllByRecursion (λ sheet. (sheet.id == id) ≡ true → P sheet) ts
    none here [] others = tt
    none here (t ∷ ts) others = (never t here others.0, none here ts others.1)

    by_id : (b : Bool) → (s.id == id) ≡ b → IfSome (cond b (Some s) (find (λ (t : Sheet). t.id == id) sheets)) P
        → (IfSome (find (λ (t : Sheet). t.id == id) sheets) P → AllByRecursion (λ sheet. (sheet.id == id) ≡ true → P sheet) sheets) → AllByRecursion (λ sheet. (sheet.id == id) ≡ true → P sheet) (s ∷ sheets)
    by_id true is here rest = (λ _. here, none is sheets distinct.0)
    by_id false is there rest = (λ own. absurd (let clash : true ≡ false = sym own ∙ is in cc), rest there)
