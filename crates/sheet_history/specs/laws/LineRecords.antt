-- The record of an edit of lines makes it, and takes it back.
use Rattle.std.proofs.Common.{◌≡◌, ℕ, true, Option, Some, None, Ok, refl, ap, ◌∙◌}
use Rattle.std.proofs.lemmas.List.Elements.{All-from_recursion}
use Rattle.base_values.specs.Answers.{and_then}
use Rattle.base_axis.specs.Along.{Along, IsAxis}
use Rattle.base_axis.specs.laws.Lawful.{rows_lawful, columns_lawful}
use Rattle.line_edits.specs.declared.EditKind.{EditKind}
use Rattle.sheet_grid.specs.Sheet.{Sheet}
use Rattle.sheet_grid.specs.Book.{Book}
use Rattle.sheet_rules.specs.WellFormed.{broken_rule, IsWellFormed}
use Rattle.sheet_lines.specs.Followed.{book_followed}
use Rattle.sheet_lines.specs.Kept.{kept_lines}
use Rattle.sheet_lines.specs.Back.{AreCanonicalLines}
use Rattle.sheet_ids.specs.Ids.{sheet_of}
use Rattle.sheet_history.specs.declared.diff.LineAxis.{LineAxis}
use Rattle.sheet_history.specs.declared.diff.LineAxis.TheVariants.{Rows, Columns}
use Rattle.sheet_history.specs.LineDiffs.{along_of, is_there_inside}
use Rattle.sheet_history.specs.Diffs.{IsCanonicalDiff, IsCanonicalList, by_rule, untested_after, untested_before, book_after, book_before}
use Rattle.sheet_history.specs.Records.{line_record, IsLineEdit}
use Rattle.sheet_history.specs.laws.TestedLaws.{by_rule-kept}
use Rattle.sheet_history.specs.laws.LineLaws.{lines_made, lines_taken_back}

-- the axis that is named is one
pub along_lawful : (axis : LineAxis) → IsAxis (along_of axis)
along_lawful Rows = rows_lawful
along_lawful Columns = columns_lawful

-- the sheet that is there
sheet_there : (a : Along) (e : EditKind) (o : Option Sheet) → is_there_inside a e o ≡ true → (sheet : Sheet) × (o ≡ Some sheet)
sheet_there a e None h = absurd (cc)
sheet_there a e (Some sheet) h = (sheet, refl)

module _ (axis : LineAxis) (e : EditKind) (id : ℕ) (book : Book) (edit : IsLineEdit axis e id book) where
  abbrev later : Book
  later = book_followed (along_of axis) e id book

  found : (sheet : Sheet) × (sheet_of book id ≡ Some sheet)
  found = sheet_there (along_of axis) e (sheet_of book id) edit.there

  -- the record of an edit of lines makes it
  pub record_made : untested_after book (line_record axis e id book) ≡ Ok later
  record_made = ap (λ r. and_then r (λ next. Ok next)) (lines_made (along_of axis) (along_lawful axis) e edit.valid id book edit.rules found.0 found.1 0 edit.there)

  -- also where the result is tested, if it is well-formed
  pub record_forwarded : IsWellFormed later → book_after book (line_record axis e id book) ≡ Ok later
  record_forwarded rules = ap (λ r. and_then r (λ next. by_rule 1 next (broken_rule next))) record_made ∙ by_rule-kept 1 later rules

  -- and takes it back
  pub record_taken_back : untested_before later (line_record axis e id book) ≡ Ok book
  record_taken_back = lines_taken_back (along_of axis) (along_lawful axis) e edit.valid id book edit.rules found.0 found.1 0

  pub record_backed : book_before later (line_record axis e id book) ≡ Ok book
  record_backed = ap (λ r. and_then r (λ next. by_rule 1 next (broken_rule next))) record_taken_back ∙ by_rule-kept 1 book edit.rules

  -- its numbers are canonical, where those of what is kept are
  pub record_kept : AreCanonicalLines (kept_lines (along_of axis) e id book) → IsCanonicalList (line_record axis e id book)
  record_kept numbers = All-from_recursion IsCanonicalDiff (line_record axis e id book) (numbers, tt)
