use Rattle.line_tests.proofs.Empty.{none_there}
use Rattle.line_tests.proofs.tests.empties.links_stay.Goals as goal

pub stays-requires-clause-lies : goal.stays-requires-clause-lies
stays-requires-clause-lies c = record { places = λ p x at. absurd (none_there _ c.new-links.ensures p x at); items = λ p q x at goes. tt }
