-- An entry put by the id of its sheet, by the index of that sheet.
use Rattle.std.proofs.Common.{◌≡◌, ◌≢◌, ℕ, zero, suc, ◌+◌, Bool, true, false, cond, ◌&&◌, List, [], ◌∷◌, Option, Some, None, is_some, option_map, Result, Ok, Err, refl, ap, sym, subst, ◌∙◌, arith}
use Rattle.std.specs.Prelude.{◌==◌, slice_get, slice_set}
use Rattle.std.specs.List.{position_from}
use Rattle.std.proofs.lemmas.Iterator.Adapters.{position_from-zero}
use Rattle.std.proofs.lemmas.Option.{same_Some}
use Rattle.base_values.specs.declared.EditError.{EditError}
use Rattle.base_values.specs.declared.EditError.TheVariants.{DiffRefused}
use Rattle.base_values.specs.Answers.{Edits, map_ok, ok_or}
use Rattle.sheet_grid.specs.Sheet.{Sheet}
use Rattle.sheet_grid.specs.Book.{Book, index_of, sheet_at, with_sheet}
use Rattle.sheet_ids.specs.Ids.{sheet_of}
use Rattle.sheet_history.specs.Entries.{EntryKey, EntryValue, setting_of, sheet_id_of, sheet_entry, with_sheet_entry, value_fits, with_changed, entry_found, entry_placed, entry_accepted, entry_at, put_entry, accepts}
use Rattle.sheet_history.specs.Entries.EntryKey.{FieldKey}
use Rattle.sheet_history.specs.Entries.EntryValue.{FieldValue}
use Rattle.sheet_history.specs.declared.field.SheetField.{SheetField}
use Rattle.sheet_history.specs.declared.field.SheetField.TheVariants as value
use Rattle.sheet_history.specs.Fields.{field_of, with_field}
use Rattle.sheet_history.specs.Diffs.{put_in, sheet_put}
use Rattle.sheet_history.specs.laws.EntryLaws.{decide, by_id}

-- an item put where it stands changes nothing
pub set_found : {X : Type 0} (xs : List X) (i : ℕ) (x : X) → slice_get xs i ≡ Some x → slice_set xs i x ≡ xs
set_found [] i x h = refl
set_found (y ∷ ys) zero x h = ap (λ z. z ∷ ys) (sym (same_Some y x h))
set_found (y ∷ ys) (suc i) x h = ap (λ zs. y ∷ zs) (set_found ys i x h)

-- the answer was the value of the list
pub ok_or-some : {A E : Type 0} (e : E) (o : Option A) (x : A) → ok_or e o ≡ Ok x → o ≡ Some x
ok_or-some e None x h = cc
ok_or-some e (Some y) x h = cc

-- the sheet of an id stands at an index
pub record Found (id : ℕ) (ss : List Sheet) (k : ℕ) : Type 0 where
  pub sheet : Sheet
  pub at : slice_get ss k ≡ Some sheet
  pub by : by_id id ss ≡ Some sheet
  pub put : (change : Sheet → Sheet) → slice_set ss k (change sheet) ≡ with_changed id change ss

found_from : (id : ℕ) (ss : List Sheet) (n i : ℕ) → position_from (λ s. s.id == id) n ss ≡ Some i → (k : ℕ) × (i ≡ n + k) × Found id ss k
found_from id [] n i e = absurd (cc)
found_from id (s ∷ ss) n i e =
    decide (s.id == id)
    (λ hit.
    let is : Some n ≡ Some i = (λ j. cond (sym hit j) (Some n) (position_from (λ t. t.id == id) (n + 1) ss)) ∙ e in
    let here : n ≡ i = cc in (
      0,
      omega arith,
      record {
        sheet = s;
        at = refl;
        by = λ j. cond (hit j) (Some s) (by_id id ss);
        put = λ change j. cond (sym hit j) (change s ∷ ss) (s ∷ with_changed id change ss);
      },
    ))
    (λ miss.
    let rest = found_from id ss (n + 1) i ((λ j. cond (sym miss j) (Some n) (position_from (λ t. t.id == id) (n + 1) ss)) ∙ e) in (
      suc rest.0,
      let place : i ≡ n + 1 + rest.0 = rest.1 in omega arith,
      record {
        sheet = rest.2.sheet;
        at = rest.2.at;
        by = (λ j. cond (miss j) (Some s) (by_id id ss)) ∙ rest.2.by;
        put = λ change. ap (λ ts. s ∷ ts) (rest.2.put change) ∙ (λ j. cond (sym miss j) (change s ∷ ss) (s ∷ with_changed id change ss));
      },
    ))

pub found : (w : Book) (id i : ℕ) → index_of w id ≡ Some i → Found id w.worksheets i
found w id i e =
    let it = found_from id w.worksheets 0 i (sym (position_from-zero (λ s. s.id == id) w.worksheets) ∙ e) in
    let place : it.0 ≡ i = let is : i ≡ 0 + it.0 = it.1 in omega arith in
    subst (Found id w.worksheets) place it.2

missing_from : (id : ℕ) (ss : List Sheet) (n : ℕ) → position_from (λ s. s.id == id) n ss ≡ None → by_id id ss ≡ None
missing_from id [] n e = refl
missing_from id (s ∷ ss) n e =
    decide (s.id == id)
    (λ hit. absurd (let never : Some n ≡ None = (λ j. cond (sym hit j) (Some n) (position_from (λ t. t.id == id) (n + 1) ss)) ∙ e in cc))
    (λ miss. (λ j. cond (miss j) (Some s) (by_id id ss)) ∙ missing_from id ss (n + 1) ((λ j. cond (sym miss j) (Some n) (position_from (λ t. t.id == id) (n + 1) ss)) ∙ e))

-- where no sheet has the index of an id, none has the id
pub missing : (w : Book) (id : ℕ) → index_of w id ≡ None → sheet_of w id ≡ None
missing w id e = missing_from id w.worksheets 0 (sym (position_from-zero (λ s. s.id == id) w.worksheets) ∙ e)

-- the sheet at the index of an id is the one of the id
pub at_index : (w : Book) (id i : ℕ) (sheet : Sheet) → index_of w id ≡ Some i → slice_get w.worksheets i ≡ Some sheet → sheet_of w id ≡ Some sheet
at_index w id i sheet e at = let it = found w id i e in it.by ∙ sym it.at ∙ at

-- a sheet that cannot take the value, or is not there, refuses it
pub put_in-refused : (at : ℕ) (w : Book) (k : EntryKey) (v : EntryValue) → accepts w k v ≡ false → put_in at w k v ≡ Err (DiffRefused 0 at)
unfolding put_in
put_in-refused at w k v h = ap (λ b. cond b (Ok (put_entry w k v)) (Err (DiffRefused 0 at))) h

pub accepts-missing : (w : Book) (k : EntryKey) (v : EntryValue) → setting_of k ≡ None → index_of w (sheet_id_of k) ≡ None → accepts w k v ≡ false
unfolding accepts
accepts-missing w k v none e = (λ j. entry_accepted (none j) k v w) ∙ ap (λ o. is_some o && value_fits k v) (missing w (sheet_id_of k) e)

-- an entry that is put changes the sheet at the index of its sheet's id
pub put_entry-found : (w : Book) (k : EntryKey) (v : EntryValue) → setting_of k ≡ None → (i : ℕ) (sheet : Sheet) → index_of w (sheet_id_of k) ≡ Some i → slice_get w.worksheets i ≡ Some sheet
    → put_entry w k v ≡ with_sheet w i (with_sheet_entry k v sheet)
unfolding put_entry
put_entry-found w k v none i sheet e at =
    let it = found w (sheet_id_of k) i e in
    let same : it.sheet ≡ sheet = same_Some it.sheet sheet (sym it.at ∙ at) in
    (λ j. entry_placed (none j) k v w)
    ∙ (λ j. record w { worksheets = (sym (it.put (with_sheet_entry k v)) ∙ ap (λ s. slice_set w.worksheets i (with_sheet_entry k v s)) same) j })

-- what a sheet has at a key is what its workbook has
pub entry_at-found : (w : Book) (k : EntryKey) → setting_of k ≡ None → (sheet : Sheet) → sheet_of w (sheet_id_of k) ≡ Some sheet → entry_at w k ≡ Some (sheet_entry k sheet)
unfolding entry_at
entry_at-found w k none sheet there = (λ j. entry_found (none j) k w) ∙ ap (option_map (sheet_entry k)) there

either_put : (w : Book) (i : ℕ) (at : ℕ) (b : Bool) (next : Sheet)
    → ◌≡◌ {A = Result Book EditError} (cond b (Ok (with_sheet w i next)) (Err (DiffRefused 0 at))) (map_ok (with_sheet w i) (cond b (Ok next) (Err (DiffRefused 0 at))))
either_put w i at true next = refl
either_put w i at false next = refl

-- a value is put in the sheet at the index of its sheet's id
pub put_in-found : (at : ℕ) (w : Book) (k : EntryKey) (v : EntryValue) → setting_of k ≡ None → (i : ℕ) (sheet : Sheet) → index_of w (sheet_id_of k) ≡ Some i → slice_get w.worksheets i ≡ Some sheet
    → put_in at w k v ≡ map_ok (with_sheet w i) (sheet_put at k v sheet)
unfolding put_in accepts
put_in-found at w k v none i sheet e is =
    (λ j. cond (entry_accepted (none j) k v w) (Ok (put_entry w k v)) (Err (DiffRefused 0 at)))
    ∙ (λ j. cond (is_some (at_index w (sheet_id_of k) i sheet e is j) && value_fits k v) (Ok (put_entry-found w k v none i sheet e is j)) (Err (DiffRefused 0 at)))
    ∙ either_put w i at (value_fits k v) (with_sheet_entry k v sheet)

-- a value goes into its field
pub sheet_put-field : (at id : ℕ) (v : SheetField) (s : Sheet) → sheet_put at (FieldKey id (field_of v)) (FieldValue v) s ≡ Ok (with_field (field_of v) v s)
sheet_put-field at id (value.Color color) s = refl
sheet_put-field at id (value.State state) s = refl
sheet_put-field at id (value.GridLines drawn) s = refl
sheet_put-field at id (value.FrozenRows count) s = refl
sheet_put-field at id (value.FrozenColumns count) s = refl

-- an edit of that sheet is one of the workbook
pub Edits-put_in : (at : ℕ) (w : Book) (k : EntryKey) (v : EntryValue) → setting_of k ≡ None → (i : ℕ) (old new : Sheet) (result : Result (Unit {0}) EditError)
    → index_of w (sheet_id_of k) ≡ Some i → sheet_at w i ≡ Ok old → Edits result old new (sheet_put at k v old) → Edits result w (with_sheet w i new) (put_in at w k v)
Edits-put_in at w k v none i old new (Ok u) e is h = record {
  done = put_in-found at w k v none i old e (ok_or-some _ _ _ is) ∙ ap (map_ok (with_sheet w i)) h.done;
  refused = tt;
}
Edits-put_in at w k v none i old new (Err x) e is h = record {
  done = tt;
  refused = (
    ap (with_sheet w i) h.refused.0 ∙ (λ j. record w { worksheets = set_found w.worksheets i old (ok_or-some _ _ _ is) j }),
    λ other. put_in-found at w k v none i old e (ok_or-some _ _ _ is) ∙ ap (map_ok (with_sheet w i)) (h.refused.1 other),
  );
}

-- there is a sheet at the index of an id
pub sheet_at_there : (w : Book) (id i : ℕ) (x : EditError) → index_of w id ≡ Some i → sheet_at w i ≢ Err x
sheet_at_there w id i x e = λ is. let it = found w id i e in absurd (let never : ◌≡◌ {A = Result Sheet EditError} (Ok it.sheet) (Err x) = ap (ok_or _) (sym it.at) ∙ is in cc)
