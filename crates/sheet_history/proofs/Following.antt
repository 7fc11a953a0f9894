-- Lists that move no sheet.
use Rattle.std.proofs.Common.{◌≡◌, ◌∙◌, ◌||◌, ℕ, Bool, false, true, ap, refl, List, [], ◌∷◌, ◌++◌, map, reverse}
use Rattle.std.specs.List.{list_any}
use Rattle.std.proofs.lemmas.Grind.{reverse_onto}
use Rattle.sheet_history.specs.declared.diff.Diff.{Diff}
use Rattle.sheet_history.specs.declared.diff.Diff.TheVariants.{Cell as CellDiff, Link as LinkDiff, Merges as MergesDiff, Field as FieldDiff, Lines as LinesDiff, NewSheet as NewDiff, DuplicateSheet as CopyDiff, DeleteSheet as DeletionDiff, MoveSheet as MoveDiff, RenameSheet as RenameDiff, ChangeName as NameDiff, Rule as RuleDiff, Attributes as AttrDiff, Setting as SettingDiff}
use Rattle.sheet_history.specs.declared.diff.DiffType.{DiffType}
use Rattle.sheet_history.specs.declared.diff.DiffType.TheVariants.{Undo, Redo}
use Rattle.sheet_history.specs.declared.selection.ListStep.{ListStep}
use Rattle.sheet_history.specs.Selection.{back_step, forward_step, has_move, is_move, ids_after, selected_after, selected_along, selection_followed}

-- a diff that moves no sheet leaves the index, either way
forward_stays : (diff : Diff) (ids : List ℕ) (selected : ℕ) → is_move diff ≡ false → selected_after (forward_step diff) ids selected ≡ selected
forward_stays (CellDiff _ _ _ _) ids selected stays = refl
forward_stays (LinkDiff _ _ _ _) ids selected stays = refl
forward_stays (MergesDiff _ _ _) ids selected stays = refl
forward_stays (FieldDiff _ _) ids selected stays = refl
forward_stays (AttrDiff _ _ _ _ _) ids selected stays = refl
forward_stays (RuleDiff _ _) ids selected stays = refl
forward_stays (LinesDiff _ _ _ _) ids selected stays = refl
forward_stays (NewDiff _ _ _) ids selected stays = refl
forward_stays (CopyDiff _ _ _ _) ids selected stays = refl
forward_stays (DeletionDiff _ _) ids selected stays = refl
forward_stays (RenameDiff _ _ _ _) ids selected stays = refl
forward_stays (NameDiff _ _) ids selected stays = refl
forward_stays (SettingDiff _) ids selected stays = refl
forward_stays (MoveDiff _ _ _) ids selected stays = absurd (let never : true ≡ false = stays in cc)

back_stays : (diff : Diff) (ids : List ℕ) (selected : ℕ) → is_move diff ≡ false → selected_after (back_step diff) ids selected ≡ selected
back_stays (CellDiff _ _ _ _) ids selected stays = refl
back_stays (LinkDiff _ _ _ _) ids selected stays = refl
back_stays (MergesDiff _ _ _) ids selected stays = refl
back_stays (FieldDiff _ _) ids selected stays = refl
back_stays (AttrDiff _ _ _ _ _) ids selected stays = refl
back_stays (RuleDiff _ _) ids selected stays = refl
back_stays (LinesDiff _ _ _ _) ids selected stays = refl
back_stays (NewDiff _ _ _) ids selected stays = refl
back_stays (CopyDiff _ _ _ _) ids selected stays = refl
back_stays (DeletionDiff _ _) ids selected stays = refl
back_stays (RenameDiff _ _ _ _) ids selected stays = refl
back_stays (NameDiff _ _) ids selected stays = refl
back_stays (SettingDiff _) ids selected stays = refl
back_stays (MoveDiff _ _ _) ids selected stays = absurd (let never : true ≡ false = stays in cc)

neither : (a b : Bool) → (a || b) ≡ false → (a ≡ false) × (b ≡ false)
neither true b h = absurd (let never : true ≡ false = h in cc)
neither false b h = (refl, h)

module _ (step : Diff → ListStep) (step_stays : (diff : Diff) (ids : List ℕ) (selected : ℕ) → is_move diff ≡ false → selected_after (step diff) ids selected ≡ selected) where
  all_stay : (list : List Diff) (ids : List ℕ) (selected : ℕ) → list_any is_move list ≡ false → selected_along (map step list) ids selected ≡ selected
  all_stay [] ids selected none = refl
  all_stay (diff ∷ list) ids selected none =
      let parts = neither (is_move diff) (list_any is_move list) none in
      ap (selected_along (map step list) (ids_after (step diff) ids)) (step_stays diff ids selected parts.0) ∙ all_stay list (ids_after (step diff) ids) selected parts.1

any_of_parts : (a b : List Diff) → list_any is_move a ≡ false → list_any is_move b ≡ false → list_any is_move (a ++ b) ≡ false
any_of_parts [] b none_a none_b = none_b
any_of_parts (diff ∷ a) b none_a none_b =
    let parts = neither (is_move diff) (list_any is_move a) none_a in (λ i. parts.0 i || any_of_parts a b parts.1 none_b i)

any_reversed : (list : List Diff) → list_any is_move list ≡ false → list_any is_move (reverse list) ≡ false
any_reversed [] none = refl
any_reversed (diff ∷ list) none =
    let parts = neither (is_move diff) (list_any is_move list) none in
    ap (list_any is_move) (reverse_onto list diff []) ∙ any_of_parts (reverse list) (diff ∷ []) (any_reversed list parts.1) (λ i. parts.0 i || false)

-- so a list of such diffs leaves it
pub selection_stays : (kind : DiffType) (ids : List ℕ) (list : List Diff) (selected : ℕ) → has_move list ≡ false → selection_followed kind ids list selected ≡ selected
unfolding selection_followed
selection_stays Undo ids list selected none = all_stay back_step back_stays (reverse list) ids selected (any_reversed list none)
selection_stays Redo ids list selected none = all_stay forward_step forward_stays list ids selected none
