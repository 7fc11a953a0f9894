-- The names of sheets of which one gets a new name that no other one has: they stay legal, and different by folding.
use Rattle.std.proofs.Common.{◌≡◌, ℕ, Bool, true, false, not, ◌&&◌, ◌||◌, List, [], ◌∷◌, map, length, suc, refl, ap, sym, ◌∙◌}
use Rattle.std.specs.Prelude.{◌==◌, nat_lt, if◌then◌else◌}
use Rattle.std.specs.Cmp.{unsigned_Decides}
use Rattle.std.specs.List.{list_all, list_any}
use Rattle.std.proofs.lemmas.Bool.Decides.{Decides-like, same_from_decides}
use Rattle.base_tables.specs.Folding.{same_folded}
use Rattle.base_tables.specs.laws.Folding.{same_folded_decides}
use Rattle.sheet_grid.specs.Sheet.{Sheet}
use Rattle.sheet_rules.specs.Distinct.{are_distinct}
use Rattle.sheet_rules.specs.SheetNames.{is_sheet_name}
use Rattle.sheet_rules.specs.WellFormed.{are_sheets, ids_of, names_of}
use Rattle.sheet_rules.specs.laws.EntryLaws.{both}
use Rattle.sheet_rules.specs.laws.ShownLaws.{neither, not_true}
use Rattle.book_names.specs.Renaming.{sheet_renamed}
use Rattle.book_names.specs.RenameDiffs.{is_taken}
use Rattle.book_names.specs.laws.Entries.{maps_same}

-- names are equal by folding in either order
folded_turned : (a b : List ℕ) → same_folded a b ≡ same_folded b a
folded_turned a b = same_from_decides (same_folded a b) (same_folded b a) (same_folded_decides a b) (Decides-like (same_folded b a) sym sym (same_folded_decides b a))

ids_turned : (m n : ℕ) → (m == n) ≡ (n == m)
ids_turned m n = same_from_decides (m == n) (n == m) (unsigned_Decides m n) (Decides-like (n == m) sym sym (unsigned_Decides n m))

module _ (id : ℕ) (old new : List ℕ) where
  abbrev named : Sheet → Sheet
  named sheet = sheet_renamed id old new sheet

  same_count : (sheets : List Sheet) → length (map named sheets) ≡ length sheets
  same_count [] = refl
  same_count (sheet ∷ sheets) = ap suc (same_count sheets)

  pub same_ids : (sheets : List Sheet) → ids_of (map named sheets) ≡ ids_of sheets
  same_ids sheets = maps_same named (λ (sheet : Sheet). sheet.id) (λ (sheet : Sheet). sheet.id) (λ sheet. refl) sheets

  -- each name is legal
  still_legal : is_sheet_name new ≡ true → (sheets : List Sheet) → list_all is_sheet_name (names_of sheets) ≡ true → list_all is_sheet_name (names_of (map named sheets)) ≡ true
  still_legal legal [] all = refl
  still_legal legal (sheet ∷ sheets) all =
      let parts = both (is_sheet_name sheet.name) (list_all is_sheet_name (names_of sheets)) all in
      λ i. go (sheet.id == id) parts.0 i && still_legal legal sheets parts.1 i
    where
      go : (b : Bool) → is_sheet_name sheet.name ≡ true → is_sheet_name (if b then new else sheet.name) ≡ true
      go true own = legal
      go false own = own

  -- a name that differs from each own name, and from the new one, differs from each later one
  differs_still : (name : List ℕ) → same_folded name new ≡ false → (sheets : List Sheet) → list_any (same_folded name) (names_of sheets) ≡ false → list_any (same_folded name) (names_of (map named sheets)) ≡ false
  differs_still name apart [] none = refl
  differs_still name apart (sheet ∷ sheets) none =
      let parts = neither (same_folded name sheet.name) (list_any (same_folded name) (names_of sheets)) none in
      λ i. go (sheet.id == id) parts.0 i || differs_still name apart sheets parts.1 i
    where
      go : (b : Bool) → same_folded name sheet.name ≡ false → same_folded name (if b then new else sheet.name) ≡ false
      go true own = apart
      go false own = own

  -- behind the renamed sheet, where none has its id, no name is the new one
  none_behind : (sheets : List Sheet) → list_any (λ other. id == other) (ids_of sheets) ≡ false → is_taken id new sheets ≡ false → list_any (same_folded new) (names_of (map named sheets)) ≡ false
  unfolding is_taken
  none_behind [] others free = refl
  none_behind (sheet ∷ sheets) others free =
      let apart = neither (id == sheet.id) (list_any (λ other. id == other) (ids_of sheets)) others in
      let parts = neither (not (sheet.id == id) && same_folded new sheet.name) (list_any (λ (s : Sheet). not (s.id == id) && same_folded new s.name) sheets) free in
      λ i. go (sheet.id == id) (ids_turned sheet.id id ∙ apart.0) parts.0 i || none_behind sheets apart.1 parts.1 i
    where
      go : (b : Bool) → b ≡ false → (not b && same_folded new sheet.name) ≡ false → same_folded new (if b then new else sheet.name) ≡ false
      go true is own = absurd (cc)
      go false is own = own

  -- where no two sheets have one id, and no other one has the new name, no two names are equal by folding
  still_apart : (sheets : List Sheet) → are_distinct (λ a b. a == b) (ids_of sheets) ≡ true → are_distinct same_folded (names_of sheets) ≡ true → is_taken id new sheets ≡ false
      → are_distinct same_folded (names_of (map named sheets)) ≡ true
  unfolding is_taken
  still_apart [] ids names free = refl
  still_apart (sheet ∷ sheets) ids names free =
      let own = both (not (list_any (λ other. sheet.id == other) (ids_of sheets))) (are_distinct (λ a b. a == b) (ids_of sheets)) ids in
      let apart = both (not (list_any (same_folded sheet.name) (names_of sheets))) (are_distinct same_folded (names_of sheets)) names in
      let parts = neither (not (sheet.id == id) && same_folded new sheet.name) (list_any (λ (s : Sheet). not (s.id == id) && same_folded new s.name) sheets) free in
      λ i. not (go (sheet.id == id) refl (not_true _ own.0) (not_true _ apart.0) parts.0 parts.1 i) && still_apart sheets own.1 apart.1 parts.1 i
    where
      go : (b : Bool) → (sheet.id == id) ≡ b → list_any (λ other. sheet.id == other) (ids_of sheets) ≡ false → list_any (same_folded sheet.name) (names_of sheets) ≡ false
          → (not b && same_folded new sheet.name) ≡ false → is_taken id new sheets ≡ false → list_any (same_folded (if b then new else sheet.name)) (names_of (map named sheets)) ≡ false
      go true is others names here rest =
          none_behind sheets (ap (λ n. list_any (λ other. n == other) (ids_of sheets)) (sym ((unsigned_Decides sheet.id id).0 is)) ∙ others) rest
      go false is others names here rest = differs_still sheet.name (folded_turned sheet.name new ∙ here) sheets names

  -- the list of the sheets keeps its rules
  pub sheets_stay : (sheets : List Sheet) → is_sheet_name new ≡ true → is_taken id new sheets ≡ false → are_sheets sheets ≡ true → are_sheets (map named sheets) ≡ true
  unfolding are_sheets
  sheets_stay sheets legal free h =
      let outer = both _ _ h in
      let middle = both _ _ outer.0 in
      let inner = both _ _ middle.0 in
      λ i. (ap (nat_lt 0) (same_count sheets) ∙ inner.0) i && (ap (are_distinct (λ a b. a == b)) (same_ids sheets) ∙ inner.1) i && still_legal legal sheets middle.1 i && still_apart sheets inner.1 outer.1 free i
