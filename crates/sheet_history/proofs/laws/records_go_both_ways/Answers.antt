use Rattle.sheet_history.specs.laws.SoundEntries.{entries_made, entries_forwarded, entries_taken_back, entries_backed}
use Rattle.sheet_history.proofs.laws.records_go_both_ways.Goals as goal

pub returns-clause-untested_after : goal.returns-clause-untested_after
returns-clause-untested_after c = entries_made

pub returns-clause-book_after : goal.returns-clause-book_after
returns-clause-book_after c = entries_forwarded

pub returns-clause-untested_before : goal.returns-clause-untested_before
returns-clause-untested_before c = entries_taken_back

pub returns-clause-book_before : goal.returns-clause-book_before
returns-clause-book_before c = entries_backed
