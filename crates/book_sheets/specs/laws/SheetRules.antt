-- The rules that are of one sheet: a well-formed workbook is one whose sheets keep them, with the rules of the list of sheets and of names.
use Rattle.std.proofs.Common.{◌≡◌, ℕ, Bool, true, ◌&&◌, List, [], ◌∷◌, Some, refl}
use Rattle.std.specs.Prelude.{slice_get}
use Rattle.std.specs.List.{AllByRecursion, list_all}
use Rattle.sheet_grid.specs.Sheet.{Sheet}
use Rattle.sheet_grid.specs.Book.{Book}
use Rattle.sheet_rules.specs.Names.{are_names, have_name_trees}
use Rattle.sheet_rules.specs.Occupied.{have_arrays, have_merges, are_hidden_blank}
use Rattle.sheet_rules.specs.WellFormed.{are_sheets, ids_of, has_keys_inside, have_trees, have_rule_trees, have_attributes, are_frozen, have_rule_parts, IsWellFormed}
use Rattle.sheet_rules.specs.laws.EntryLaws.{both}
use Rattle.sheet_rules.specs.laws.WellFormedLaws.{well_formed_parts, well_formed_from_parts}
use Rattle.book_sheets.specs.laws.Placed.{all_got}

pub record KeepsSheetRules (s : Sheet) : Type 0 where
  pub inside : has_keys_inside s ≡ true
  pub arrays : have_arrays s ≡ true
  pub merges : have_merges s ≡ true
  pub hidden : are_hidden_blank s ≡ true
  pub trees : have_trees s ≡ true
  pub rule_trees : have_rule_trees s ≡ true
  pub attributes : have_attributes s ≡ true
  pub frozen : are_frozen s ≡ true
  pub rule_parts : have_rule_parts s ≡ true

each_keeps : (ss : List Sheet) → list_all has_keys_inside ss ≡ true → list_all have_arrays ss ≡ true → list_all have_merges ss ≡ true → list_all are_hidden_blank ss ≡ true
    → list_all have_trees ss ≡ true → list_all have_rule_trees ss ≡ true → list_all have_attributes ss ≡ true → list_all are_frozen ss ≡ true → list_all have_rule_parts ss ≡ true
    → AllByRecursion KeepsSheetRules ss
each_keeps [] inside arrays merges hidden trees rule_trees attributes frozen rule_parts = tt
each_keeps (s ∷ ss) inside arrays merges hidden trees rule_trees attributes frozen rule_parts =
    let i = both (has_keys_inside s) (list_all has_keys_inside ss) inside in
    let a = both (have_arrays s) (list_all have_arrays ss) arrays in
    let m = both (have_merges s) (list_all have_merges ss) merges in
    let h = both (are_hidden_blank s) (list_all are_hidden_blank ss) hidden in
    let t = both (have_trees s) (list_all have_trees ss) trees in
    let r = both (have_rule_trees s) (list_all have_rule_trees ss) rule_trees in
    let b = both (have_attributes s) (list_all have_attributes ss) attributes in
    let f = both (are_frozen s) (list_all are_frozen ss) frozen in
    let p = both (have_rule_parts s) (list_all have_rule_parts ss) rule_parts in (
      record { inside = i.0; arrays = a.0; merges = m.0; hidden = h.0; trees = t.0; rule_trees = r.0; attributes = b.0; frozen = f.0; rule_parts = p.0 },
      each_keeps ss i.1 a.1 m.1 h.1 t.1 r.1 b.1 f.1 p.1,
    )

-- each sheet of a well-formed workbook keeps them
pub all_keep : (w : Book) → IsWellFormed w → AllByRecursion KeepsSheetRules w.worksheets
all_keep w rules =
    let parts = well_formed_parts w rules in
    each_keeps w.worksheets parts.inside parts.arrays parts.merges parts.hidden parts.trees parts.rule_trees parts.attributes parts.frozen parts.rule_parts

-- so does the one at an index
pub rules_at : (w : Book) (rules : IsWellFormed w) (index : ℕ) (s : Sheet) → slice_get w.worksheets index ≡ Some s → KeepsSheetRules s
rules_at w rules index s found = all_got KeepsSheetRules w.worksheets index s (all_keep w rules) found

all_pass : (rule : Sheet → Bool) → ((s : Sheet) → KeepsSheetRules s → rule s ≡ true) → (ss : List Sheet) → AllByRecursion KeepsSheetRules ss → list_all rule ss ≡ true
all_pass rule one [] all = refl
all_pass rule one (s ∷ ss) all = λ i. one s all.0 i && all_pass rule one ss all.1 i

-- a workbook whose sheets keep them is well-formed, where the list of its sheets and its names are
pub well_formed_by : (w : Book) → are_sheets w.worksheets ≡ true → AllByRecursion KeepsSheetRules w.worksheets → have_name_trees w.names ≡ true → are_names (ids_of w.worksheets) w.names ≡ true → IsWellFormed w
well_formed_by w sheets all name_trees names =
    well_formed_from_parts w
    (record {
      sheets = sheets;
      inside = all_pass has_keys_inside (λ s h. h.inside) w.worksheets all;
      arrays = all_pass have_arrays (λ s h. h.arrays) w.worksheets all;
      merges = all_pass have_merges (λ s h. h.merges) w.worksheets all;
      hidden = all_pass are_hidden_blank (λ s h. h.hidden) w.worksheets all;
      trees = all_pass have_trees (λ s h. h.trees) w.worksheets all;
      rule_trees = all_pass have_rule_trees (λ s h. h.rule_trees) w.worksheets all;
      name_trees = name_trees;
      attributes = all_pass have_attributes (λ s h. h.attributes) w.worksheets all;
      names = names;
      frozen = all_pass are_frozen (λ s h. h.frozen) w.worksheets all;
      rule_parts = all_pass have_rule_parts (λ s h. h.rule_parts) w.worksheets all;
    })
