use Rattle.line_laws.proofs.Shifts.{inserted, deleted, stepped}
use Rattle.line_laws.proofs.displaced_as_edited.Goals as goal

pub returns-clause-insertions : goal.returns-clause-insertions
returns-clause-insertions g c = inserted g.A.Axis.along.last

pub returns-clause-deletions : goal.returns-clause-deletions
returns-clause-deletions g c = deleted g.A.Axis.along.last

pub returns-clause-moves : goal.returns-clause-moves
returns-clause-moves g c = λ line delta n _. stepped g.A.Axis.along.last line delta n
