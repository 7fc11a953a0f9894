-- `==` of diffs is equality of their values.
use Rattle.std.proofs.Common.{◌≡◌, refl, ap}
use Rattle.std.specs.Bool.{Decides}
use Rattle.std.specs.Cmp.{signed_Decides, unsigned_Decides}
use Rattle.std.specs.Cmp.Lexicographic.{bytes_decides, pointwise_decides}
use Rattle.std.proofs.lemmas.Bool.Decides.{Decides-like, Decides-and}
use Rattle.base_values.specs.laws.Decided.{option_equals}
use Rattle.base_values.specs.laws.PositionEquals.{position_equals}
use Rattle.base_axis.specs.laws.MergedEquals.{merged_equals}
use Rattle.sheet_grid.specs.laws.CellEquals.{cell_equals}
use Rattle.sheet_grid.specs.laws.LineEquals.{line_attr_equals, link_equals}
use Rattle.line_edits.specs.laws.Equals.{kind_equals}
use Rattle.sheet_lines.specs.laws.KeptEquals.{kept_equals}
use Rattle.book_sheets.specs.laws.KeptSheetEquals.{kept_sheet_equals}
use Rattle.book_names.specs.laws.KeptTreesEquals.{kept_trees_equals}
use Rattle.name_edits.specs.laws.ChangeEquals.{name_change_equals}
use Rattle.rule_edits.specs.laws.ChangeEquals.{rule_change_equals}
use Rattle.sheet_history.specs.laws.FieldEquals.{field_change_equals}
use Rattle.sheet_history.specs.laws.SettingEquals.{setting_change_equals}
use Rattle.sheet_history.specs.declared.diff.Diff.{Diff}
use Rattle.sheet_history.specs.declared.diff.Diff.TheVariants.{Cell as CellDiff, Link as LinkDiff, Merges as MergesDiff, Field as FieldDiff, Lines as LinesDiff, NewSheet as NewDiff, DuplicateSheet as CopyDiff, DeleteSheet as DeletionDiff, MoveSheet as MoveDiff, RenameSheet as RenameDiff, ChangeName as NameDiff, Rule as RuleDiff, Attributes as AttrDiff, Setting as SettingDiff}
use Rattle.sheet_history.specs.declared.diff.DiffType.{DiffType}
use Rattle.sheet_history.specs.declared.diff.DiffType.TheVariants.{Undo, Redo}
use Rattle.sheet_history.specs.declared.diff.QueueDiffs.{QueueDiffs}
use Rattle.sheet_history.specs.contracts.diff.DiffPartialEq.TheImpl as diff
use Rattle.sheet_history.specs.declared.diff.LineAxis.{LineAxis}
use Rattle.sheet_history.specs.declared.diff.LineAxis.TheVariants.{Rows, Columns}
use Rattle.sheet_history.specs.contracts.diff.LineAxisPartialEq.TheImpl as line_axis
use Rattle.sheet_history.specs.contracts.diff.DiffTypePartialEq.TheImpl as diff_type
use Rattle.sheet_history.specs.contracts.diff.QueueDiffsPartialEq.TheImpl as queue_diffs

pub line_axis_equals : (a b : LineAxis) → Decides (line_axis.ghosts.eq a b) (a ≡ b)
line_axis_equals Rows Rows = (λ _. refl, λ _. refl)
line_axis_equals Columns Columns = (λ _. refl, λ _. refl)
line_axis_equals _ _ = (λ e. cc, λ e. cc)

pub diff_equals : (a b : Diff) → Decides (diff.ghosts.eq a b) (a ≡ b)
diff_equals (CellDiff s p o n) (CellDiff t q u v) =
    Decides-like _ (λ h i. CellDiff (h.0 i) (h.1.0 i) (h.1.1.0 i) (h.1.1.1 i)) (λ e. (sheet_of e, (place_of e, (old_of e, new_of e))))
    (Decides-and _ _ (unsigned_Decides _ _) (Decides-and _ _ (position_equals _ _) (Decides-and _ _ (option_equals cell_equals _ _) (option_equals cell_equals _ _))))
  where
    sheet_of : CellDiff s p o n ≡ CellDiff t q u v → s ≡ t
    sheet_of e = cc

    place_of : CellDiff s p o n ≡ CellDiff t q u v → p ≡ q
    place_of e = cc

    old_of : CellDiff s p o n ≡ CellDiff t q u v → o ≡ u
    old_of e = cc

    new_of : CellDiff s p o n ≡ CellDiff t q u v → n ≡ v
    new_of e = cc
diff_equals (LinesDiff s x e k) (LinesDiff t y f l) =
    Decides-like _ (λ h i. LinesDiff (h.0 i) (h.1.0 i) (h.1.1.0 i) (h.1.1.1 i)) (λ e. (sheet_of e, (axis_of e, (edit_of e, kept_of e))))
    (Decides-and _ _ (unsigned_Decides _ _) (Decides-and _ _ (line_axis_equals _ _) (Decides-and _ _ (kind_equals _ _) (kept_equals _ _))))
  where
    sheet_of : LinesDiff s x e k ≡ LinesDiff t y f l → s ≡ t
    sheet_of e = cc

    axis_of : LinesDiff s x e k ≡ LinesDiff t y f l → x ≡ y
    axis_of e = cc

    edit_of : LinesDiff s x e k ≡ LinesDiff t y f l → e ≡ f
    edit_of e = cc

    kept_of : LinesDiff s x e k ≡ LinesDiff t y f l → k ≡ l
    kept_of e = cc
diff_equals (LinkDiff s p o n) (LinkDiff t q u v) =
    Decides-like _ (λ h i. LinkDiff (h.0 i) (h.1.0 i) (h.1.1.0 i) (h.1.1.1 i)) (λ e. (sheet_of e, (place_of e, (old_of e, new_of e))))
    (Decides-and _ _ (unsigned_Decides _ _) (Decides-and _ _ (position_equals _ _) (Decides-and _ _ (option_equals link_equals _ _) (option_equals link_equals _ _))))
  where
    sheet_of : LinkDiff s p o n ≡ LinkDiff t q u v → s ≡ t
    sheet_of e = cc

    place_of : LinkDiff s p o n ≡ LinkDiff t q u v → p ≡ q
    place_of e = cc

    old_of : LinkDiff s p o n ≡ LinkDiff t q u v → o ≡ u
    old_of e = cc

    new_of : LinkDiff s p o n ≡ LinkDiff t q u v → n ≡ v
    new_of e = cc
diff_equals (MergesDiff s o n) (MergesDiff t u v) =
    Decides-like _ (λ h i. MergesDiff (h.0 i) (h.1.0 i) (h.1.1 i)) (λ e. (sheet_of e, (old_of e, new_of e)))
    (Decides-and _ _ (unsigned_Decides _ _) (Decides-and _ _ (pointwise_decides merged_equals _ _) (pointwise_decides merged_equals _ _)))
  where
    sheet_of : MergesDiff s o n ≡ MergesDiff t u v → s ≡ t
    sheet_of e = cc

    old_of : MergesDiff s o n ≡ MergesDiff t u v → o ≡ u
    old_of e = cc

    new_of : MergesDiff s o n ≡ MergesDiff t u v → n ≡ v
    new_of e = cc
diff_equals (FieldDiff s c) (FieldDiff t d) =
    Decides-like _ (λ h i. FieldDiff (h.0 i) (h.1 i)) (λ e. (sheet_of e, change_of e)) (Decides-and _ _ (unsigned_Decides _ _) (field_change_equals _ _))
  where
    sheet_of : FieldDiff s c ≡ FieldDiff t d → s ≡ t
    sheet_of e = cc

    change_of : FieldDiff s c ≡ FieldDiff t d → c ≡ d
    change_of e = cc
diff_equals (AttrDiff s x l o n) (AttrDiff t y m u v) =
    Decides-like _ (λ h i. AttrDiff (h.0 i) (h.1.0 i) (h.1.1.0 i) (h.1.1.1.0 i) (h.1.1.1.1 i)) (λ e. (sheet_of e, (axis_of e, (line_of e, (old_of e, new_of e)))))
    (Decides-and _ _ (unsigned_Decides _ _) (Decides-and _ _ (line_axis_equals _ _) (Decides-and _ _ (signed_Decides _ _)
    (Decides-and _ _ (option_equals line_attr_equals _ _) (option_equals line_attr_equals _ _)))))
  where
    sheet_of : AttrDiff s x l o n ≡ AttrDiff t y m u v → s ≡ t
    sheet_of e = cc

    axis_of : AttrDiff s x l o n ≡ AttrDiff t y m u v → x ≡ y
    axis_of e = cc

    line_of : AttrDiff s x l o n ≡ AttrDiff t y m u v → l ≡ m
    line_of e = cc

    old_of : AttrDiff s x l o n ≡ AttrDiff t y m u v → o ≡ u
    old_of e = cc

    new_of : AttrDiff s x l o n ≡ AttrDiff t y m u v → n ≡ v
    new_of e = cc
diff_equals (NewDiff s i n) (NewDiff t j m) =
    Decides-like _ (λ h k. NewDiff (h.0 k) (h.1.0 k) (h.1.1 k)) (λ e. (sheet_of e, (index_of e, name_of e)))
    (Decides-and _ _ (unsigned_Decides _ _) (Decides-and _ _ (unsigned_Decides _ _) (bytes_decides _ _)))
  where
    sheet_of : NewDiff s i n ≡ NewDiff t j m → s ≡ t
    sheet_of e = cc

    index_of : NewDiff s i n ≡ NewDiff t j m → i ≡ j
    index_of e = cc

    name_of : NewDiff s i n ≡ NewDiff t j m → n ≡ m
    name_of e = cc
diff_equals (CopyDiff o s i n) (CopyDiff p t j m) =
    Decides-like _ (λ h k. CopyDiff (h.0 k) (h.1.0 k) (h.1.1.0 k) (h.1.1.1 k)) (λ e. (source_of e, (sheet_of e, (index_of e, name_of e))))
    (Decides-and _ _ (unsigned_Decides _ _) (Decides-and _ _ (unsigned_Decides _ _) (Decides-and _ _ (unsigned_Decides _ _) (bytes_decides _ _))))
  where
    source_of : CopyDiff o s i n ≡ CopyDiff p t j m → o ≡ p
    source_of e = cc

    sheet_of : CopyDiff o s i n ≡ CopyDiff p t j m → s ≡ t
    sheet_of e = cc

    index_of : CopyDiff o s i n ≡ CopyDiff p t j m → i ≡ j
    index_of e = cc

    name_of : CopyDiff o s i n ≡ CopyDiff p t j m → n ≡ m
    name_of e = cc
diff_equals (DeletionDiff i k) (DeletionDiff j l) =
    Decides-like _ (λ h n. DeletionDiff (h.0 n) (h.1 n)) (λ e. (index_of e, kept_of e)) (Decides-and _ _ (unsigned_Decides _ _) (kept_sheet_equals _ _))
  where
    index_of : DeletionDiff i k ≡ DeletionDiff j l → i ≡ j
    index_of e = cc

    kept_of : DeletionDiff i k ≡ DeletionDiff j l → k ≡ l
    kept_of e = cc
diff_equals (MoveDiff s f o) (MoveDiff t g p) =
    Decides-like _ (λ h k. MoveDiff (h.0 k) (h.1.0 k) (h.1.1 k)) (λ e. (sheet_of e, (from_of e, to_of e)))
    (Decides-and _ _ (unsigned_Decides _ _) (Decides-and _ _ (unsigned_Decides _ _) (unsigned_Decides _ _)))
  where
    sheet_of : MoveDiff s f o ≡ MoveDiff t g p → s ≡ t
    sheet_of e = cc

    from_of : MoveDiff s f o ≡ MoveDiff t g p → f ≡ g
    from_of e = cc

    to_of : MoveDiff s f o ≡ MoveDiff t g p → o ≡ p
    to_of e = cc
diff_equals (RenameDiff s o n k) (RenameDiff t p m l) =
    Decides-like _ (λ h i. RenameDiff (h.0 i) (h.1.0 i) (h.1.1.0 i) (h.1.1.1 i)) (λ e. (sheet_of e, (old_of e, (new_of e, kept_of e))))
    (Decides-and _ _ (unsigned_Decides _ _) (Decides-and _ _ (bytes_decides _ _) (Decides-and _ _ (bytes_decides _ _) (kept_trees_equals _ _))))
  where
    sheet_of : RenameDiff s o n k ≡ RenameDiff t p m l → s ≡ t
    sheet_of e = cc

    old_of : RenameDiff s o n k ≡ RenameDiff t p m l → o ≡ p
    old_of e = cc

    new_of : RenameDiff s o n k ≡ RenameDiff t p m l → n ≡ m
    new_of e = cc

    kept_of : RenameDiff s o n k ≡ RenameDiff t p m l → k ≡ l
    kept_of e = cc
diff_equals (RuleDiff s c) (RuleDiff t d) =
    Decides-like _ (λ h i. RuleDiff (h.0 i) (h.1 i)) (λ e. (sheet_of e, change_of e)) (Decides-and _ _ (unsigned_Decides _ _) (rule_change_equals _ _))
  where
    sheet_of : RuleDiff s c ≡ RuleDiff t d → s ≡ t
    sheet_of e = cc

    change_of : RuleDiff s c ≡ RuleDiff t d → c ≡ d
    change_of e = cc
diff_equals (NameDiff c k) (NameDiff d l) =
    Decides-like _ (λ h i. NameDiff (h.0 i) (h.1 i)) (λ e. (change_of e, kept_of e)) (Decides-and _ _ (name_change_equals _ _) (kept_trees_equals _ _))
  where
    change_of : NameDiff c k ≡ NameDiff d l → c ≡ d
    change_of e = cc

    kept_of : NameDiff c k ≡ NameDiff d l → k ≡ l
    kept_of e = cc
diff_equals (SettingDiff c) (SettingDiff d) = Decides-like _ (ap SettingDiff) (λ e. cc) (setting_change_equals c d)
diff_equals _ _ = (λ e. cc, λ e. cc)

pub diff_type_equals : (a b : DiffType) → Decides (diff_type.ghosts.eq a b) (a ≡ b)
diff_type_equals Undo Undo = (λ _. refl, λ _. refl)
diff_type_equals Redo Redo = (λ _. refl, λ _. refl)
diff_type_equals _ _ = (λ e. cc, λ e. cc)

pub queue_diffs_equals : (a b : QueueDiffs) → Decides (queue_diffs.ghosts.eq a b) (a ≡ b)
queue_diffs_equals a b =
    Decides-like _ (λ p i. record { kind = p.0 i; list = p.1 i }) (λ e. (ap (λ x. x.kind) e, ap (λ x. x.list) e))
    (Decides-and _ _ (diff_type_equals _ _) (pointwise_decides diff_equals _ _))
