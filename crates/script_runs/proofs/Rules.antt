-- A conditional rule that is added by the text of its formula.
use Rattle.std.proofs.Common.{◌≡◌, ◌≢◌, ℕ, List, [], ◌∷◌, Bool, true, false, ◌&&◌, cond, Result, Ok, Err, sym, ap, subst, ◌∙◌}
use Rattle.base_values.specs.declared.EditError.{EditError}
use Rattle.base_values.specs.declared.EditError.TheVariants.{NoMemory, InvalidArea, BadFormula}
use Rattle.base_values.specs.declared.Position.{Position}
use Rattle.base_values.specs.Answers.{and_then, map_ok}
use Rattle.base_axis.specs.declared.MergedCell.{MergedCell}
use Rattle.base_axis.specs.Rectangles.{anchor_place, is_inside}
use Rattle.base_tables.specs.declared.Language.{Language}
use Rattle.formula_tree.specs.declared.Node.{Node}
use Rattle.format_rules.specs.declared.CfRule.{CfRule}
use Rattle.format_rules.specs.RuleTrees.{each_tree}
use Rattle.sheet_grid.specs.Sheet.{Sheet}
use Rattle.sheet_grid.specs.Book.{Book, sheet_at, with_sheet}
use Rattle.rule_edits.specs.RuleEdits.{come_behind, is_rule_formula, next_priority, rule_added}
use Rattle.rule_edits.specs.RuleEdits.RuleEdit.{Add}
use Rattle.edit_plans.specs.RuleEdits.{rules_edited, with_changes}
use Rattle.script_lines.specs.declared.NamedArea.{NamedArea}
use Rattle.open_book.specs.Document.{Document}
use Rattle.open_book.specs.Machine.{State, edited}
use Rattle.user_model.specs.Places.{rule_goes}
use Rattle.user_model.specs.Reading.{formula_at, formula_typed}
use Rattle.open_book.specs.Stands.{StandsFor, MovesOrNoMemory}
use Rattle.user_model.specs.Typing.{rule_formula}
use Rattle.script_runs.specs.Script.{plain_rule, rule_asked, rule_typed}

-- ---- where a rule goes

module _ (index : ℕ) (r : MergedCell) (book : Book) where
  -- the first place of the rectangle, where that is inside
  abbrev placed : Bool → Result Position EditError
  placed inside = map_ok anchor_place (cond inside (Ok r) (Err InvalidArea))

  -- the workbook with one more rule on the rectangle, by whether that is inside
  abbrev added : CfRule → Bool → Sheet → Result Book EditError
  added rule inside sheet =
      map_ok (with_sheet book index) (map_ok (with_changes sheet) (map_ok (λ change. change ∷ [])
      (and_then (cond (inside && true) (cond (each_tree (is_rule_formula (anchor_place r)) rule) (Ok (tt {0})) (Err BadFormula)) (Err InvalidArea))
      (λ _. map_ok (come_behind (r ∷ []) rule sheet.formattings) (next_priority sheet.formattings)))))

  -- a rule is refused where it goes nowhere
  pub rule_refused : (rule : CfRule) (error : EditError) → rule_goes index r book ≡ Err error → rules_edited (Add index (r ∷ []) rule) book ≡ Err error
  unfolding rules_edited rule_added
  rule_refused rule error is = go (sheet_at book index) is
    where
      there : (sheet : Sheet) (inside : Bool) → placed inside ≡ Err error → added rule inside sheet ≡ Err error
      there sheet true e = absurd (let never : ◌≡◌ {A = Result Position EditError} (Ok (anchor_place r)) (Err error) = e in cc)
      there sheet false e = let same : InvalidArea ≡ error = cc in ap Err same

      go : (s : Result Sheet EditError) → and_then s (λ sheet. placed (is_inside r)) ≡ Err error → and_then s (λ sheet. added rule (is_inside r) sheet) ≡ Err error
      go (Ok sheet) e = there sheet (is_inside r) e
      go (Err other) e = let same : other ≡ error = cc in ap Err same

  -- what was read was read at the first place of the rectangle
  pub read_there : (text : List ℕ) (language : Language) (tree : Node) → rule_formula index r text book language ≡ Ok tree → tree ≡ formula_at (anchor_place r) text book language
  read_there text language tree is = go (sheet_at book index) is
    where
      read : Position → Node
      read place = formula_at place text book language

      there : (inside : Bool) → map_ok read (placed inside) ≡ Ok tree → tree ≡ read (anchor_place r)
      there true e = let same : read (anchor_place r) ≡ tree = cc in sym same
      there false e = absurd (let never : ◌≡◌ {A = Result Node EditError} (Err InvalidArea) (Ok tree) = e in cc)

      go : (s : Result Sheet EditError) → map_ok read (and_then s (λ sheet. placed (is_inside r))) ≡ Ok tree → tree ≡ read (anchor_place r)
      go (Ok sheet) e = there (is_inside r) e
      go (Err other) e = absurd (let never : ◌≡◌ {A = Result Node EditError} (Err other) (Ok tree) = e in cc)

module _ {A B : Type 0} (f : A → B) (error : EditError) where
  -- what has no value with a function has none before it
  unmapped : (r : Result A EditError) → map_ok f r ≡ Err error → r ≡ Err error
  unmapped (Ok value) is = absurd (let never : ◌≡◌ {A = Result B EditError} (Ok (f value)) (Err error) = is in cc)
  unmapped (Err other) is = let same : other ≡ error = cc in ap Err same

-- ---- the step

-- a text that is not read where the place is missing
pub unread_turns : (named : NamedArea) (text : List ℕ) (doc : Document) (s : State) (error : EditError) → StandsFor doc s
    → (error ≢ NoMemory → rule_formula named.sheet named.area text doc.book doc.language ≡ Err error) → MovesOrNoMemory {T = Unit {0}} (Err error) doc (rule_typed named text s)
unread_turns named text doc s error stands unread = record {
  done = tt;
  refused = λ other.
      let there : rule_formula named.sheet named.area text s.present s.language ≡ Err error =
      subst (λ (d : Document). rule_formula named.sheet named.area text d.book d.language ≡ Err error) stands.document (unread other) in
      let goes : rule_goes named.sheet named.area s.present ≡ Err error = unmapped (λ place. formula_at place text s.present s.language) error (rule_goes named.sheet named.area s.present) there in
      ap (map_ok (edited (rule_asked named text s) s))
      (rule_refused named.sheet named.area s.present (plain_rule (formula_typed s.present s.language named.area.row named.area.column text)) error goes);
}

-- out of memory
pub short_turns : (error : EditError) (doc : Document) (expected : Result State EditError) → error ≡ NoMemory → MovesOrNoMemory {T = Unit {0}} (Err error) doc expected
short_turns error doc expected short = record { done = tt; refused = λ other. absurd (other short) }

-- the rule that was made of what was read is the one that is asked for
pub rule_is : (named : NamedArea) (text : List ℕ) (doc : Document) (s : State) (tree : Node) (rule : CfRule) → StandsFor doc s
    → rule_formula named.sheet named.area text doc.book doc.language ≡ Ok tree → rule ≡ plain_rule tree
    → rule ≡ plain_rule (formula_typed s.present s.language named.area.row named.area.column text)
rule_is named text doc s tree rule stands read value =
    let there : rule_formula named.sheet named.area text s.present s.language ≡ Ok tree =
    subst (λ (d : Document). rule_formula named.sheet named.area text d.book d.language ≡ Ok tree) stands.document read in
    value ∙ ap plain_rule (read_there named.sheet named.area s.present text s.language tree there)
