-- A well-formed workbook stays so where an edit changes its names; and the change of such an edit is one that can be made.
use Rattle.std.proofs.Common.{◌≡◌, ℕ, zero, suc, Bool, true, false, not, ◌&&◌, ◌||◌, List, [], ◌∷◌, length, map, Option, Some, None, Result, Ok, Err, refl, ap, sym, subst, ◌∙◌, arith}
use Rattle.std.specs.Prelude.{◌==◌, IfSome, nat_lt, if◌then◌else◌, slice_get}
use Rattle.std.specs.Cmp.{unsigned_Decides}
use Rattle.std.specs.List.{list_all, list_any, remove}
use Rattle.base_values.specs.declared.EditError.{EditError}
use Rattle.base_values.specs.declared.EditError.TheVariants.{InvalidSheet, UnknownName, NameTaken, BadName, BadFormula}
use Rattle.base_values.specs.Answers.{and_then, map_ok, ok_or}
use Rattle.base_tables.specs.Folding.{same_folded}
use Rattle.formula_tree.specs.declared.Node.{Node}
use Rattle.formula_tree.specs.ParseError.{is_parse_error}
use Rattle.cell_content.specs.Fitting.{tree_fits_at}
use Rattle.defined_names.specs.declared.DefinedName.{DefinedName}
use Rattle.defined_names.specs.Legal.{is_defined_name}
use Rattle.sheet_grid.specs.Sheet.{Sheet}
use Rattle.sheet_grid.specs.Book.{Book, sheet_at}
use Rattle.sheet_rules.specs.Distinct.{are_distinct}
use Rattle.sheet_rules.specs.Names.{first_place, has_living_scope, is_id_of, are_names}
use Rattle.sheet_rules.specs.SheetNames.{is_sheet_name}
use Rattle.sheet_rules.specs.WellFormed.{are_sheets, ids_of, IsWellFormed}
use Rattle.sheet_rules.specs.laws.EntryLaws.{both}
use Rattle.sheet_rules.specs.laws.WellFormedLaws.{well_formed_parts}
use Rattle.book_sheets.specs.laws.SheetRules.{all_keep, well_formed_by}
use Rattle.name_edits.specs.declared.name_change.NameChange.{NameChange}
use Rattle.name_edits.specs.LookUp.{is_named}
use Rattle.name_edits.specs.NameChanges.{name_gone, name_made, names_changed, sheet_updated}
use Rattle.name_edits.specs.NameEdits.{NameEdit, scope_id, free_name, known_place, name_at, is_name_formula, with_formula}
use Rattle.name_edits.specs.NameEdits.{name_goes, update_goes, valid_name, name_added, name_removed, name_updated, name_change}
use Rattle.name_edits.specs.NameEdits.NameEdit.{Add, Remove, Update}
use Rattle.name_edits.specs.laws.Lists.{MayCome, change_at, names_stay, trees_stay}
use Rattle.name_edits.specs.laws.Replaced.{all_rules_stay, same_ids, same_names}
use Rattle.name_edits.specs.laws.BothWays.{IsMade}

-- ---- the later workbook

module _ (index : ℕ) (book : Book) (rules : IsWellFormed book) where
  -- the list of the sheets keeps its rules where names change in formulas
  sheets_stay : (old new : List ℕ) → are_sheets (map (sheet_updated index old new book.names) book.worksheets) ≡ true
  unfolding are_sheets
  sheets_stay old new =
      let sheets = book.worksheets in
      let outer = both _ _ (well_formed_parts book rules).sheets in
      let middle = both _ _ outer.0 in
      let inner = both _ _ middle.0 in
      λ i.
      (ap (nat_lt 0) (count old new sheets) ∙ inner.0) i && (ap (are_distinct (λ a b. a == b)) (same_ids index old new book.names sheets) ∙ inner.1) i
      && (ap (list_all is_sheet_name) (same_names index old new book.names sheets) ∙ middle.1) i && (ap (are_distinct same_folded) (same_names index old new book.names sheets) ∙ outer.1) i
    where
      count : (old new : List ℕ) (ss : List Sheet) → length (map (sheet_updated index old new book.names) ss) ≡ length ss
      count old new [] = refl
      count old new (s ∷ ss) = ap suc (count old new ss)

  -- the later workbook breaks no rule
  pub later_well_formed : (old new : Option DefinedName) → IfSome new (MayCome (ids_of book.worksheets) (name_gone index old book.names)) → IsWellFormed (name_made (change_at index old new) book)
  later_well_formed (Some old) (Some new) may =
      let parts = well_formed_parts book rules in
      let ids = ids_of book.worksheets in
      well_formed_by (name_made (change_at index (Some old) (Some new)) book) (sheets_stay old.name new.name)
      (all_rules_stay index old.name new.name book.names book.worksheets (all_keep book rules))
      (trees_stay ids index (Some old) (Some new) book.names parts.name_trees may)
      (ap (λ living. are_names living (names_changed (change_at index (Some old) (Some new)) book.names)) (same_ids index old.name new.name book.names book.worksheets)
      ∙ names_stay ids index (Some old) (Some new) book.names parts.names may)
  later_well_formed (Some old) None may =
      let parts = well_formed_parts book rules in
      let ids = ids_of book.worksheets in
      well_formed_by (name_made (change_at index (Some old) None) book) parts.sheets (all_keep book rules)
      (trees_stay ids index (Some old) None book.names parts.name_trees may) (names_stay ids index (Some old) None book.names parts.names may)
  later_well_formed None new may =
      let parts = well_formed_parts book rules in
      let ids = ids_of book.worksheets in
      well_formed_by (name_made (change_at index None new) book) parts.sheets (all_keep book rules)
      (trees_stay ids index None new book.names parts.name_trees may) (names_stay ids index None new book.names parts.names may)

-- ---- what an accepted edit tells

-- a second step was made on the value of a first one
record Both {A B : Type 0} (first : Result A EditError) (step : A → Result B EditError) (value : B) : Type 0 where
  of : A
  done : first ≡ Ok of
  output : step of ≡ Ok value

both_done : {A B : Type 0} (first : Result A EditError) (step : A → Result B EditError) (value : B) → and_then first step ≡ Ok value → Both first step value
both_done (Ok of) step value is = record { of = of; done = refl; output = is }
both_done (Err error) step value is = absurd (cc)

-- a function of a value
record Mapped {A B : Type 0} (first : Result A EditError) (f : A → B) (value : B) : Type 0 where
  of : A
  done : first ≡ Ok of
  output : f of ≡ value

map_done : {A B : Type 0} (f : A → B) (first : Result A EditError) (value : B) → map_ok f first ≡ Ok value → Mapped first f value
map_done f (Ok of) value is = record { of = of; done = refl; output = cc }
map_done f (Err error) value is = absurd (cc)

ok_done : {A : Type 0} (error : EditError) (o : Option A) (value : A) → ok_or error o ≡ Ok value → o ≡ Some value
ok_done error (Some x) value is = let same : x ≡ value = cc in ap Some same
ok_done error None value is = absurd (cc)

-- a name that is free: its scope is the one asked for, it may be a name, and it is not taken
record Free (id : Option ℕ) (text : List ℕ) (taken : Bool) (found : Option ℕ) : Type 0 where
  same : id ≡ found
  legal : is_defined_name text ≡ true
  free : taken ≡ false

free_done : (id : Option ℕ) (text : List ℕ) (taken : Bool) (found : Option ℕ) → free_name id text taken ≡ Ok found → Free id text taken found
free_done id text taken found is = go (is_defined_name text) refl taken refl is
  where
    go : (b : Bool) → is_defined_name text ≡ b → (t : Bool) → taken ≡ t → (if b then (if t then Err NameTaken else Ok id) else Err BadName) ≡ Ok found → Free id text taken found
    go false legal t free h = absurd (cc)
    go true legal true free h = absurd (cc)
    go true legal false free h = record { same = cc; legal = legal; free = free }

-- the name with a formula that may be one
record Formed (id : Option ℕ) (text : List ℕ) (tree : Node) (name : DefinedName) : Type 0 where
  same : record { name = text; scope = id; formula = tree } ≡ name
  fits : tree_fits_at first_place tree ≡ true

formula_done : (id : Option ℕ) (text : List ℕ) (tree : Node) (name : DefinedName) → with_formula id text tree ≡ Ok name → Formed id text tree name
formula_done id text tree name is = go (is_name_formula tree) refl is
  where
    output : DefinedName
    output = record { name = text; scope = id; formula = tree }

    go : (b : Bool) → is_name_formula tree ≡ b → (if b then Ok output else Err BadFormula) ≡ Ok name → Formed id text tree name
    go false fits h = absurd (cc)
    go true fits h = record { same = cc; fits = (both (not (is_parse_error tree)) (tree_fits_at first_place tree) fits).1 }

-- the change of an edit of a well-formed workbook can be made, and the name that comes breaks no rule
pub record IsEdited (change : NameChange) (book : Book) : Type 0 where
  pub output : IsMade change.index change.old change.new book
  pub may : IfSome change.new (MayCome (ids_of book.worksheets) (name_gone change.index change.old book.names))

module _ (book : Book) (rules : IsWellFormed book) where
  second : (a b : Bool) → b ≡ true → (a || b) ≡ true
  second true b h = refl
  second false b h = h

  is_there : (sheets : List Sheet) (index : ℕ) (sheet : Sheet) → slice_get sheets index ≡ Some sheet → is_id_of (ids_of sheets) sheet.id ≡ true
  is_there [] index sheet at = absurd (cc)
  is_there (s ∷ sheets) zero sheet at =
      let same : s ≡ sheet = cc in
      ap (λ b. b || is_id_of (ids_of sheets) sheet.id) ((unsigned_Decides sheet.id s.id).1 (ap (λ (t : Sheet). t.id) (sym same)))
  is_there (s ∷ sheets) (suc index) sheet at = second (sheet.id == s.id) (is_id_of (ids_of sheets) sheet.id) (is_there sheets index sheet at)

  abbrev Lives : Option ℕ → Type 0
  Lives id = (text : List ℕ) (tree : Node) → has_living_scope (ids_of book.worksheets) (record { name = text; scope = id; formula = tree }) ≡ true

  -- a scope that is found lives
  living_scope : (scope id : Option ℕ) → scope_id scope book ≡ Ok id → Lives id
  living_scope None id is = let same : None ≡ id = cc in subst Lives same (λ text tree. refl)
  living_scope (Some index) id is =
      let found = map_done (λ (sheet : Sheet). Some sheet.id) (sheet_at book index) id is in
      let at = ok_done InvalidSheet (slice_get book.worksheets index) found.of found.done in
      subst Lives found.output (λ text tree. is_there book.worksheets index found.of at)

  -- what a name that was formed may do
  formed_comes : (id found : Option ℕ) (text : List ℕ) (tree : Node) (name : DefinedName) (left : List DefinedName) → Lives id → Free id text (list_any (is_named id text) left) found
      → Formed found text tree name → MayCome (ids_of book.worksheets) left name
  formed_comes id found text tree name left lives free formed =
      subst (MayCome (ids_of book.worksheets) left) (ap (λ o. record { name = text; scope = o; formula = tree }) free.same ∙ formed.same)
      (record { legal = free.legal; free = free.free; living = lives text tree; fits = formed.fits })

  formed_fits : (found : Option ℕ) (text : List ℕ) (tree : Node) (name : DefinedName) → Formed found text tree name → tree_fits_at first_place name.formula ≡ true
  formed_fits found text tree name formed = ap (λ (n : DefinedName). tree_fits_at first_place n.formula) (sym formed.same) ∙ formed.fits

  added : (scope : Option ℕ) (text : List ℕ) (tree : Node) (c : NameChange) → name_added scope text tree book ≡ Ok c → IsEdited c book
  unfolding name_added valid_name name_goes
  added scope text tree c is =
      let m = map_done (λ (name : DefinedName). change_at (length book.names) None (Some name)) (valid_name scope text tree book) c is in
      let v = both_done (name_goes scope text book) (λ id. with_formula id text tree) m.of m.done in
      let g = both_done (scope_id scope book) (λ id. free_name id text (list_any (is_named id text) book.names)) v.of v.done in
      let free = free_done g.of text (list_any (is_named g.of text) book.names) v.of g.output in
      let formed = formula_done v.of text tree m.of v.output in
      subst (λ change. IsEdited change book) m.output
      (record {
        output = record { rules = rules; some = refl; at = omega arith; fits = formed_fits v.of text tree m.of formed };
        may = formed_comes g.of v.of text tree m.of book.names (living_scope scope g.of g.done) free formed;
      })

  removed : (scope : Option ℕ) (text : List ℕ) (c : NameChange) → name_removed scope text book ≡ Ok c → IsEdited c book
  unfolding name_removed
  removed scope text c is =
      let s = both_done (scope_id scope book) (λ id. and_then (known_place id text book.names) (λ place. map_ok (λ old. change_at place (Some old) None) (name_at place book.names))) c is in
      let p = both_done (known_place s.of text book.names) (λ place. map_ok (λ old. change_at place (Some old) None) (name_at place book.names)) c s.output in
      let m = map_done (λ (old : DefinedName). change_at p.of (Some old) None) (name_at p.of book.names) c p.output in
      subst (λ change. IsEdited change book) m.output
      (record {
        output = record { rules = rules; some = refl; at = ok_done UnknownName (slice_get book.names p.of) m.of m.done; fits = refl };
        may = tt;
      })

  updated : (scope : Option ℕ) (text : List ℕ) (new_scope : Option ℕ) (new_text : List ℕ) (tree : Node) (c : NameChange) → name_updated scope text new_scope new_text tree book ≡ Ok c → IsEdited c book
  unfolding name_updated update_goes
  updated scope text new_scope new_text tree c is =
      let rest = λ (found : ℕ × Option ℕ). and_then (name_at found.0 book.names) (λ old. map_ok (λ new. change_at found.0 (Some old) (Some new)) (with_formula found.1 new_text tree)) in
      let u = both_done (update_goes scope text new_scope new_text book) rest c is in
      let o = both_done (name_at u.of.0 book.names) (λ old. map_ok (λ new. change_at u.of.0 (Some old) (Some new)) (with_formula u.of.1 new_text tree)) c u.output in
      let n = map_done (λ (new : DefinedName). change_at u.of.0 (Some o.of) (Some new)) (with_formula u.of.1 new_text tree) c o.output in
      let s = both_done (scope_id scope book)
      (λ id. and_then (scope_id new_scope book) (λ new_id. and_then (known_place id text book.names) (λ place. map_ok (λ found. (place, found)) (free_name new_id new_text (list_any (is_named new_id new_text) (remove book.names place))))))
      u.of u.done in
      let t = both_done (scope_id new_scope book)
      (λ new_id. and_then (known_place s.of text book.names) (λ place. map_ok (λ found. (place, found)) (free_name new_id new_text (list_any (is_named new_id new_text) (remove book.names place)))))
      u.of s.output in
      let p = both_done (known_place s.of text book.names) (λ place. map_ok (λ found. (place, found)) (free_name t.of new_text (list_any (is_named t.of new_text) (remove book.names place)))) u.of t.output in
      let f = map_done (λ (found : Option ℕ). (p.of, found)) (free_name t.of new_text (list_any (is_named t.of new_text) (remove book.names p.of))) u.of p.output in
      let free = free_done t.of new_text (list_any (is_named t.of new_text) (remove book.names p.of)) f.of f.done in
      let place : p.of ≡ u.of.0 = ap (λ (x : ℕ × Option ℕ). x.0) f.output in
      let formed = subst (λ found. Formed found new_text tree n.of) (sym (ap (λ (x : ℕ × Option ℕ). x.1) f.output)) (formula_done u.of.1 new_text tree n.of n.done) in
      subst (λ change. IsEdited change book) n.output
      (record {
        output = record { rules = rules; some = refl; at = ok_done UnknownName (slice_get book.names u.of.0) o.of o.done; fits = formed_fits f.of new_text tree n.of formed };
        may = subst (λ at. MayCome (ids_of book.worksheets) (remove book.names at) n.of) place
            (formed_comes t.of f.of new_text tree n.of (remove book.names p.of) (living_scope new_scope t.of t.done) free formed);
      })

  -- the change of an edit
  pub edited : (edit : NameEdit) (c : NameChange) → name_change edit book ≡ Ok c → IsEdited c book
  edited (Add scope text tree) c is = added scope text tree c is
  edited (Remove scope text) c is = removed scope text c is
  edited (Update scope text new_scope new_text tree) c is = updated scope text new_scope new_text tree c is
