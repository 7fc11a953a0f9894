use Rattle.sheet_history.specs.laws.LineRecords.{record_made, record_forwarded, record_taken_back, record_backed}
use Rattle.sheet_history.proofs.laws.line_records_go_both_ways.Goals as goal

pub returns-clause-untested_after : goal.returns-clause-untested_after
returns-clause-untested_after c = record_made

pub returns-clause-book_after : goal.returns-clause-book_after
returns-clause-book_after c = record_forwarded

pub returns-clause-untested_before : goal.returns-clause-untested_before
returns-clause-untested_before c = record_taken_back

pub returns-clause-book_before : goal.returns-clause-book_before
returns-clause-book_before c = record_backed
