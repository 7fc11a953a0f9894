-- A change of the rules of a sheet made by the id of the sheet, by the index of that sheet; and taken back.
use Rattle.std.proofs.Common.{◌≡◌, ℕ, Bool, true, false, cond, List, [], ◌∷◌, length, Option, Some, None, option_map, Result, Ok, Err, refl, ap, sym, ◌∙◌}
use Rattle.std.specs.Prelude.{◌==◌, slice_get, slice_set}
use Rattle.std.specs.List.{list_all}
use Rattle.std.proofs.lemmas.Option.{same_Some}
use Rattle.base_values.specs.declared.EditError.{EditError}
use Rattle.base_values.specs.declared.EditError.TheVariants.{DiffRefused}
use Rattle.base_values.specs.Answers.{Edits, map_ok}
use Rattle.format_rules.specs.declared.ConditionalFormatting.{ConditionalFormatting}
use Rattle.sheet_grid.specs.Sheet.{Sheet}
use Rattle.sheet_grid.specs.Book.{Book, index_of, sheet_at, with_sheet}
use Rattle.sheet_ids.specs.Ids.{sheet_of}
use Rattle.rule_edits.specs.declared.RuleChange.{RuleChange}
use Rattle.rule_edits.specs.RuleChanges.{change_at, change_goes, may_stand, opposite}
use Rattle.rule_edits.specs.Made.{IsMade}
use Rattle.rule_edits.specs.laws.Lists.{may_go, may_go_back, rules_regained}
use Rattle.sheet_history.specs.Entries.{with_changed}
use Rattle.sheet_history.specs.RuleDiffs.{book_rules_changed, rule_put, sheet_rule_put, takes_change, with_rules_changed}
use Rattle.sheet_history.specs.laws.EntryLaws.{by_id, decide, found-changed}
use Rattle.sheet_history.specs.laws.PutLaws.{at_index, found, missing, ok_or-some, set_found}

-- where the sheet is not there, the change is refused
pub rule_put-missing : (at id : ℕ) (change : RuleChange) (w : Book) → index_of w id ≡ None → rule_put at id change w ≡ Err (DiffRefused 0 at)
unfolding rule_put
rule_put-missing at id change w e = ap (λ o. cond (takes_change change o) (Ok (book_rules_changed id change w)) (Err (DiffRefused 0 at))) (missing w id e)

-- the sheet at the index of the id is changed
changed-found : (w : Book) (id i : ℕ) (change : RuleChange) (sheet : Sheet) → index_of w id ≡ Some i → slice_get w.worksheets i ≡ Some sheet
    → book_rules_changed id change w ≡ with_sheet w i (with_rules_changed change sheet)
changed-found w id i change sheet e at =
    let it = found w id i e in
    let same : it.sheet ≡ sheet = same_Some it.sheet sheet (sym it.at ∙ at) in
    λ j. record w { worksheets = (sym (it.put (with_rules_changed change)) ∙ ap (λ s. slice_set w.worksheets i (with_rules_changed change s)) same) j }

either_put : (w : Book) (i at : ℕ) (b : Bool) (next : Sheet)
    → ◌≡◌ {A = Result Book EditError} (cond b (Ok (with_sheet w i next)) (Err (DiffRefused 0 at))) (map_ok (with_sheet w i) (cond b (Ok next) (Err (DiffRefused 0 at))))
either_put w i at true next = refl
either_put w i at false next = refl

pub rule_put-found : (at id : ℕ) (change : RuleChange) (w : Book) (i : ℕ) (sheet : Sheet) → index_of w id ≡ Some i → slice_get w.worksheets i ≡ Some sheet
    → rule_put at id change w ≡ map_ok (with_sheet w i) (sheet_rule_put at change sheet)
unfolding rule_put
rule_put-found at id change w i sheet e is =
    (λ j. cond (takes_change change (at_index w id i sheet e is j)) (Ok (changed-found w id i change sheet e is j)) (Err (DiffRefused 0 at)))
    ∙ either_put w i at (change_goes change (length sheet.formattings)) (with_rules_changed change sheet)

-- an edit of that sheet is one of the workbook
pub Edits-rule_put : (at id : ℕ) (change : RuleChange) (w : Book) (i : ℕ) (old new : Sheet) (result : Result (Unit {0}) EditError)
    → index_of w id ≡ Some i → sheet_at w i ≡ Ok old → Edits result old new (sheet_rule_put at change old) → Edits result w (with_sheet w i new) (rule_put at id change w)
Edits-rule_put at id change w i old new (Ok u) e is h = record {
  done = rule_put-found at id change w i old e (ok_or-some _ _ _ is) ∙ ap (map_ok (with_sheet w i)) h.done;
  refused = tt;
}
Edits-rule_put at id change w i old new (Err x) e is h = record {
  done = tt;
  refused = (
    ap (with_sheet w i) h.refused.0 ∙ (λ j. record w { worksheets = set_found w.worksheets i old (ok_or-some _ _ _ is) j }),
    λ other. rule_put-found at id change w i old e (ok_or-some _ _ _ is) ∙ ap (map_ok (with_sheet w i)) (h.refused.1 other),
  );
}

-- what is put could be put, and is there
pub rule_put-done : (at id : ℕ) (change : RuleChange) (w next : Book) → rule_put at id change w ≡ Ok next → (takes_change change (sheet_of w id) ≡ true) × (book_rules_changed id change w ≡ next)
unfolding rule_put
rule_put-done at id change w next is = go (takes_change change (sheet_of w id)) refl is
  where
    go : (b : Bool) → takes_change change (sheet_of w id) ≡ b → cond b (Ok (book_rules_changed id change w)) (Err (DiffRefused 0 at)) ≡ Ok next
        → (takes_change change (sheet_of w id) ≡ true) × (book_rules_changed id change w ≡ next)
    go true takes done = (takes, cc)
    go false takes done = absurd (let never : ◌≡◌ {A = Result Book EditError} (Err (DiffRefused 0 at)) (Ok next) = done in cc)

-- ---- there and back

-- two changes of the sheet of an id are one
changed_again : (id : ℕ) (f g : Sheet → Sheet) → ((s : Sheet) → (f s).id ≡ s.id) → (ss : List Sheet) → with_changed id g (with_changed id f ss) ≡ with_changed id (λ s. g (f s)) ss
changed_again id f g keeps [] = refl
changed_again id f g keeps (s ∷ ss) =
    decide (s.id == id)
    (λ hit. (λ i. with_changed id g (cond (hit i) (f s ∷ ss) (s ∷ with_changed id f ss)))
    ∙ ap (λ b. cond b (g (f s) ∷ ss) (f s ∷ with_changed id g ss)) (ap (λ n. n == id) (keeps s) ∙ hit)
    ∙ ap (λ b. cond b (g (f s) ∷ ss) (s ∷ with_changed id (λ t. g (f t)) ss)) (sym hit))
    (λ miss. (λ i. with_changed id g (cond (miss i) (f s ∷ ss) (s ∷ with_changed id f ss)))
    ∙ ap (λ b. cond b (g s ∷ with_changed id f ss) (s ∷ with_changed id g (with_changed id f ss))) miss
    ∙ ap (λ ts. s ∷ ts) (changed_again id f g keeps ss)
    ∙ ap (λ b. cond b (g (f s) ∷ ss) (s ∷ with_changed id (λ t. g (f t)) ss)) (sym miss))

-- a change that leaves the sheet of the id leaves all
changed_same : (id : ℕ) (f : Sheet → Sheet) (ss : List Sheet) (sheet : Sheet) → by_id id ss ≡ Some sheet → f sheet ≡ sheet → with_changed id f ss ≡ ss
changed_same id f [] sheet there same = refl
changed_same id f (s ∷ ss) sheet there same =
    decide (s.id == id)
    (λ hit.
    let one : Some s ≡ Some sheet = (λ i. cond (sym hit i) (Some s) (by_id id ss)) ∙ there in
    let is : s ≡ sheet = cc in
    (λ i. cond (hit i) (f s ∷ ss) (s ∷ with_changed id f ss)) ∙ ap (λ t. t ∷ ss) (ap f is ∙ same ∙ sym is))
    (λ miss. (λ i. cond (miss i) (f s ∷ ss) (s ∷ with_changed id f ss))
    ∙ ap (λ ts. s ∷ ts) (changed_same id f ss sheet ((λ i. cond (sym miss i) (Some s) (by_id id ss)) ∙ there) same))

module _ (at id : ℕ) (index : ℕ) (old new : Option ConditionalFormatting) (w : Book) (sheet : Sheet) (there : sheet_of w id ≡ Some sheet) (output : IsMade index old new sheet.formattings) where
  abbrev change : RuleChange
  change = change_at index old new

  -- the change is made
  pub rule_made : rule_put at id change w ≡ Ok (book_rules_changed id change w)
  unfolding rule_put
  rule_made =
      ap (λ o. cond (takes_change change o) (Ok (book_rules_changed id change w)) (Err (DiffRefused 0 at))) there
      ∙ ap (λ b. cond b (Ok (book_rules_changed id change w)) (Err (DiffRefused 0 at))) (may_go index old new sheet.formattings output)

  -- and where each rule of the sheet may stand it is taken back
  pub rule_unmade : list_all may_stand sheet.formattings ≡ true → rule_put at id (opposite change) (book_rules_changed id change w) ≡ Ok w
  unfolding rule_put
  rule_unmade all =
      let later : Book = book_rules_changed id change w in
      let f : Sheet → Sheet = with_rules_changed change in
      let g : Sheet → Sheet = with_rules_changed (opposite change) in
      let stands : sheet_of later id ≡ Some (f sheet) = found-changed f (λ s. refl) id w.worksheets ∙ ap (option_map f) there in
      let home : g (f sheet) ≡ sheet = λ i. record sheet { formattings = rules_regained index old new sheet.formattings output.at i } in
      ap (λ o. cond (takes_change (opposite change) o) (Ok (book_rules_changed id (opposite change) later)) (Err (DiffRefused 0 at))) stands
      ∙ ap (λ b. cond b (Ok (book_rules_changed id (opposite change) later)) (Err (DiffRefused 0 at))) (may_go_back index old new sheet.formattings all output)
      ∙ (λ i. Ok (record w { worksheets = (changed_again id f g (λ s. refl) w.worksheets ∙ changed_same id (λ s. g (f s)) w.worksheets sheet there home) i }))
