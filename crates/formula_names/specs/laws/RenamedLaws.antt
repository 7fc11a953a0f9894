-- Laws of renaming: what stays, what a renamed tree keeps, and which trees come back.
use Rattle.std.proofs.Common.{◌≡◌, ℕ, Bool, true, false, not, ◌&&◌, List, Option, Some, None, refl, ap, sym, ◌∙◌}
use Rattle.std.specs.Prelude.{if◌then◌else◌}
use Rattle.std.specs.Bool.{Decides}
use Rattle.std.specs.Cmp.Lexicographic.{bytes_decides}
use Rattle.std.proofs.lemmas.Bool.Decides.{Decides-at, Decides-like, same_from_decides}
use Rattle.base_values.specs.CodedEq.{same_value}
use Rattle.base_values.specs.laws.CodedEq.{same_value_decides}
use Rattle.base_tables.specs.Folding.{same_folded}
use Rattle.base_tables.specs.Tables.{same_text}
use Rattle.formula_tree.specs.declared.Node.{Node}
use Rattle.formula_tree.specs.contracts.node.Node.{the_row}
use Rattle.formula_names.specs.declared.reach.Reach.{Reach}
use Rattle.formula_names.specs.declared.reach.Reach.TheVariants.{Nothing}
use Rattle.formula_names.specs.Named.{named}
use Rattle.formula_back.specs.Leaves.{has_leaf}
use Rattle.formula_names.specs.Renamed.{renamed_name, renamed_sheet, reaches_sheets, reaches_names, naming, tree_renamed, renamed_and_back, tree_kept, is_lost_name, is_lost_sheet, lost_names}
use Rattle.formula_names.specs.laws.NamedLaws.{named-named, named-stays, followed}
use Rattle.formula_names.specs.laws.NameLeaves.{tells_named}

-- ---- names

twice_not : (b : Bool) → not (not b) ≡ b
twice_not true = refl
twice_not false = refl

-- it comes back exactly where it is not lost
lost_name : (there back : Bool) (old new name : List ℕ) → Decides (not (is_lost_name there back old new name)) (renamed_name back new old (renamed_name there old new name) ≡ name)
unfolding is_lost_name
lost_name there back old new name =
    let after : List ℕ = renamed_name back new old (renamed_name there old new name) in
    Decides-at (not (not (same_text after name))) (same_text after name) (twice_not (same_text after name)) (bytes_decides after name)

-- to rename a name once more changes nothing
name_twice : (reached : Bool) (old new name : List ℕ) → renamed_name reached old new (renamed_name reached old new name) ≡ renamed_name reached old new name
unfolding renamed_name
name_twice reached old new name = go (reached && same_folded name old) refl
  where
    new_stays : (b : Bool) → (if b then new else new) ≡ new
    new_stays true = refl
    new_stays false = refl

    go : (b : Bool) → reached && same_folded name old ≡ b → renamed_name reached old new (if b then new else name) ≡ (if b then new else name)
    go true is = new_stays (reached && same_folded new old)
    go false is = ap (λ b. if b then new else name) is

-- ---- the sheets that nodes name

lost_sheet : (there back : Bool) (old new : List ℕ) (sheet : Option (List ℕ)) → Decides (not (is_lost_sheet there back old new sheet)) (renamed_sheet back new old (renamed_sheet there old new sheet) ≡ sheet)
lost_sheet there back old new None = (λ _. refl, λ _. refl)
lost_sheet there back old new (Some name) = Decides-like _ (ap Some) (λ e. cc) (lost_name there back old new name)

sheet_twice : (reached : Bool) (old new : List ℕ) (sheet : Option (List ℕ)) → renamed_sheet reached old new (renamed_sheet reached old new sheet) ≡ renamed_sheet reached old new sheet
sheet_twice reached old new None = refl
sheet_twice reached old new (Some name) = ap Some (name_twice reached old new name)

-- a renaming that reaches nothing leaves each
sheet_left : (old new : List ℕ) (sheet : Option (List ℕ)) → renamed_sheet false old new sheet ≡ sheet
unfolding renamed_name
sheet_left old new None = refl
sheet_left old new (Some name) = refl

name_left : (old new name : List ℕ) → renamed_name false old new name ≡ name
unfolding renamed_name
name_left old new name = refl

-- ---- trees

-- a tree comes back exactly where no name in it is lost
pub lost_tree : (there back : Reach) (old new : List ℕ) (tree : Node) → Decides (not (has_leaf (lost_names there back old new) tree)) (renamed_and_back there back old new tree ≡ tree)
lost_tree there back old new tree =
    let e = named-named (naming there old new) (naming back new old) tree in
    Decides-like _ (λ s. e ∙ s) (λ s. sym e ∙ s)
    (tells_named (followed (naming there old new) (naming back new old)) (lost_names there back old new)
    (λ sheet corner. lost_sheet (reaches_sheets there) (reaches_sheets back) old new sheet)
    (λ sheet first second. lost_sheet (reaches_sheets there) (reaches_sheets back) old new sheet) (lost_name (reaches_names there) (reaches_names back) old new) tree)

-- a renaming that reaches nothing leaves a tree
pub tree_left : (old new : List ℕ) (tree : Node) → tree_renamed Nothing old new tree ≡ tree
tree_left old new tree = named-stays (naming Nothing old new) (sheet_left old new) (name_left old new) tree

-- a tree stays exactly where no name in it changes
pub changed_tree : (reach : Reach) (old new : List ℕ) (tree : Node) → Decides (not (has_leaf (lost_names reach Nothing old new) tree)) (tree_renamed reach old new tree ≡ tree)
changed_tree reach old new tree =
    let e = tree_left new old (tree_renamed reach old new tree) in
    Decides-like _ (λ s. sym e ∙ s) (λ s. e ∙ s) (lost_tree reach Nothing old new tree)

-- to rename once more changes nothing
pub tree_twice : (reach : Reach) (old new : List ℕ) (tree : Node) → tree_renamed reach old new (tree_renamed reach old new tree) ≡ tree_renamed reach old new tree
tree_twice reach old new tree =
    named-named (naming reach old new) (naming reach old new) tree
    ∙ (λ i. named (record {
      sheet = λ sheet. sheet_twice (reaches_sheets reach) old new sheet i;
      name = λ name. name_twice (reaches_names reach) old new name i;
    }) tree)

-- ---- what is kept

-- a test that tells whether a tree comes back tells what is kept of it
pub kept_by_test : (there back : Reach) (old new : List ℕ) (tree : Node) (b : Bool) → Decides b (renamed_and_back there back old new tree ≡ tree) → (if b then None else Some tree) ≡ tree_kept there back old new tree
unfolding tree_kept
kept_by_test there back old new tree b told =
    ap (λ s. if s then None else Some tree) (same_from_decides b (same_value the_row.coded (renamed_and_back there back old new tree) tree) told (same_value_decides the_row.coded (renamed_and_back there back old new tree) tree))

-- where nothing is kept of a tree, the opposite renaming gives it
pub nothing_kept : (there back : Reach) (old new : List ℕ) (tree : Node) → tree_kept there back old new tree ≡ None → renamed_and_back there back old new tree ≡ tree
unfolding tree_kept
nothing_kept there back old new tree none = go (same_value the_row.coded (renamed_and_back there back old new tree) tree) (same_value_decides the_row.coded (renamed_and_back there back old new tree) tree) none
  where
    go : (b : Bool) → Decides b (renamed_and_back there back old new tree ≡ tree) → (if b then None else Some tree) ≡ None → renamed_and_back there back old new tree ≡ tree
    go true d none = d.0 refl
    go false d none = absurd (cc)

-- what is kept is the tree itself, and the opposite renaming gives another one
pub record Kept (there back : Reach) (old new : List ℕ) (tree part : Node) : Type 0 where
  pub itself : part ≡ tree
  pub lost : renamed_and_back there back old new tree ≡ tree → ⊥

pub something_kept : (there back : Reach) (old new : List ℕ) (tree part : Node) → tree_kept there back old new tree ≡ Some part → Kept there back old new tree part
unfolding tree_kept
something_kept there back old new tree part some = go (same_value the_row.coded (renamed_and_back there back old new tree) tree) (same_value_decides the_row.coded (renamed_and_back there back old new tree) tree) some
  where
    go : (b : Bool) → Decides b (renamed_and_back there back old new tree ≡ tree) → (if b then None else Some tree) ≡ Some part → Kept there back old new tree part
    go true d some = absurd (cc)
    go false d some = record { itself = let same : tree ≡ part = cc in sym same; lost = λ e. absurd (let never : false ≡ true = d.1 e in cc) }
