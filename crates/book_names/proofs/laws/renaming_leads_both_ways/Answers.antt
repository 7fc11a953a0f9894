use Rattle.book_names.specs.laws.Regained.{book_regained}
use Rattle.book_names.specs.laws.Stands.{rename_made, rename_taken_back}
use Rattle.book_names.proofs.laws.renaming_leads_both_ways.Goals as goal

pub returns-clause-forth : goal.returns-clause-forth
returns-clause-forth c = λ at id new sheet w rules found. rename_made id new w rules sheet found at

pub returns-clause-back : goal.returns-clause-back
returns-clause-back c = λ at id new sheet w rules found. rename_taken_back id new w rules sheet found at

pub returns-clause-regained : goal.returns-clause-regained
returns-clause-regained c = λ id new sheet w distinct found. book_regained id new w distinct sheet found
