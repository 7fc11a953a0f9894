-- A model that is opened from bytes.
use Rattle.std.proofs.Common.{◌≡◌, ◌≢◌, ℕ, List, Option, None, Some, Result, Ok, Err, refl, ap, sym, subst, ◌∙◌}
use Rattle.std.specs.Prelude.{IfErr, IfOk, IsOkAnd, IsOkUnless}
use Rattle.base_values.specs.Answers.{and_then, map_ok, ok_or}
use Rattle.base_values.specs.declared.EditError.{EditError}
use Rattle.base_values.specs.declared.EditError.TheVariants.{LanguageName, NoMemory, ParseWorkbook}
use Rattle.base_tables.specs.declared.Language.{Language}
use Rattle.base_tables.specs.Language.{language_of_name}
use Rattle.base_wire.specs.Reads.{ReadsWhole}
use Rattle.grid_wire.specs.BookBytes.{IsBook}
use Rattle.sheet_grid.specs.Book.{Book}
use Rattle.sheet_rules.specs.WellFormed.{IsWellFormed}
use Rattle.sheet_actions.specs.Checked.{checked, unless_broken}
use Rattle.open_book.specs.Document.{Document}
use Rattle.open_book.specs.Machine.{State, begun}
use Rattle.open_book.specs.Stands.{OpensOrNoMemory, StandsFor}
use Rattle.open_book.specs.Values.{Session}
use Rattle.user_model.specs.Beginning.{book_state}

-- the workbook of bytes is the one that was read
pub one_book : (bytes : List ℕ) (read book : Book) → ReadsWhole IsBook ParseWorkbook bytes (Ok read) → IsBook bytes book → read ≡ book
one_book bytes read book reads is = let same : ◌≡◌ {A = Result Book EditError} (Ok book) (Ok read) = (reads.again book is).done in cc

-- where reading is refused, no workbook has these bytes, or memory is short
pub unread_opens : (bytes : List ℕ) (e : EditError) (book : Book) (expected : Result State EditError) → ReadsWhole IsBook ParseWorkbook bytes (Err e) → IsBook bytes book → OpensOrNoMemory (Err e) expected
unread_opens bytes e book expected reads is = record {
  done = tt;
  refused = λ other. let never : ◌≡◌ {A = Result Book EditError} (Ok book) (Err e) = (reads.again book is).refused other in absurd cc;
}

module _ (name : List ℕ) (l : Language) (known : ok_or LanguageName (language_of_name name) ≡ Ok l) where
  found_state : (found : Result Book EditError) (book : Book) → found ≡ Ok book → book_state name found ≡ Ok (begun l book)
  found_state found book is = rw (known, is) refl

  lost_state : (found : Result Book EditError) (e : EditError) → found ≡ Err e → book_state name found ≡ Err e
  lost_state found e is = rw (known, is) refl

  -- other bytes are refused as no workbook's
  pub unread_none : (bytes : List ℕ) (e : EditError) → ReadsWhole IsBook ParseWorkbook bytes (Err e) → OpensOrNoMemory (Err e) (book_state name (Err ParseWorkbook))
  unread_none bytes e reads = record { done = tt; refused = λ other. lost_state (Err ParseWorkbook) ParseWorkbook refl ∙ ap Err (sym (reads.refused other)) }

  -- a workbook that breaks a rule is refused with the rule
  pub broken_opens : (bytes : List ℕ) (read : Book) (e : EditError) → ReadsWhole IsBook ParseWorkbook bytes (Ok read) → checked read ≡ Err e
      → (book : Book) → IsBook bytes book → OpensOrNoMemory (Err e) (book_state name (checked book))
  broken_opens bytes read e reads broken = λ book is.
      subst (λ (b : Book). OpensOrNoMemory (Err e) (book_state name (checked b))) (one_book bytes read book reads is)
      (record { done = tt; refused = λ other. lost_state (checked read) e broken })

  opened_by : (result : Result Session EditError) (state : State) → IfOk result (λ s. StandsFor s.document state) → IsOkUnless result NoMemory → OpensOrNoMemory result (Ok state)
  opened_by (Ok s) state stands only = record { done = stands; refused = tt }
  opened_by (Err e) state stands only = record { done = tt; refused = λ other. absurd (other only) }

  -- any other one is opened
  pub read_opens : (bytes : List ℕ) (read book : Book) (result : Result Session EditError) → ReadsWhole IsBook ParseWorkbook bytes (Ok read) → checked read ≡ Ok book
      → IfOk result (λ s. StandsFor s.document (begun l book)) → IsOkUnless result NoMemory
      → (other : Book) → IsBook bytes other → OpensOrNoMemory result (book_state name (checked other))
  read_opens bytes read book result reads rules stands only = λ other is.
      subst (λ (b : Book). OpensOrNoMemory result (book_state name (checked b))) (one_book bytes read other reads is)
      (subst (λ (expected : Result State EditError). OpensOrNoMemory result expected) (sym (found_state (checked read) book rules)) (opened_by result (begun l book) stands only))

-- the bytes of a well-formed workbook open as that workbook, where the language has a name
module _ (name : List ℕ) (book : Book) (rules : IsWellFormed book) where
  opened_as : (result : Result Session EditError) → OpensOrNoMemory result (book_state name (checked book)) → OpensOrNoMemory result (book_state name (Ok book))
  opened_as result opens = subst (λ (found : Option ℕ). OpensOrNoMemory result (book_state name (unless_broken found book))) rules opens

  pub opened_equal : (result : Result Session EditError) → OpensOrNoMemory result (book_state name (checked book)) → IfOk result (λ s. s.document.book ≡ book)
  opened_equal (Err e) opens = tt
  opened_equal (Ok s) opens = in_language (language_of_name name) (opened_as (Ok s) opens).done where
    in_language : (found : Option Language) → IsOkAnd (and_then (ok_or LanguageName found) (λ l. map_ok (begun l) (Ok book))) (StandsFor s.document) → s.document.book ≡ book
    in_language None never = absurd never
    in_language (Some l) stands = ap (λ (doc : Document). doc.book) stands.document

  pub opened_only : (result : Result Session EditError) → OpensOrNoMemory result (book_state name (checked book))
      → IfErr result (λ e. e ≢ NoMemory → ok_or LanguageName (language_of_name name) ≡ Err e)
  opened_only (Ok s) opens = tt
  opened_only (Err e) opens = λ other. in_language (language_of_name name) ((opened_as (Err e) opens).refused other) where
    in_language : (found : Option Language) → ◌≡◌ {A = Result State EditError} (and_then (ok_or LanguageName found) (λ l. map_ok (begun l) (Ok book))) (Err e)
        → ◌≡◌ {A = Result Language EditError} (ok_or LanguageName found) (Err e)
    in_language None is = cc
    in_language (Some l) is = absurd cc
