use Rattle.std.proofs.Common.{subst}
use Rattle.edit_plans.specs.Edits.{Edit}
use Rattle.edit_plans.specs.Edits.Edit.{Lines}
use Rattle.open_book.specs.Machine.{State, edit_of}
use Rattle.open_book.specs.Opened.{document_in}
use Rattle.open_book.specs.Stands.{StandsFor, Moves}
use Rattle.open_book.specs.Values.{Session}
use Rattle.open_book.proofs.Moving.{changes_same, edit_moves, reached_by, reached_rules, same_session}
use Rattle.user_model.proofs.user_model.UserModel.edit_lines.Goals as goal

pub edit_lines-requires-clause-rules : goal.edit_lines-requires-clause-rules
edit_lines-requires-clause-rules g c = reached_rules (document_in c.self.inside.book) c.self.invariant

pub returns-clause-next : goal.returns-clause-next
returns-clause-next g c =
    let edit : Edit = Lines c.args.sheet c.args.axis c.args.kind in
    subst (λ (seen : Session). (s : State) → StandsFor seen.document s → Moves c.edit_lines.result (document_in c.edit_lines.new.self) (edit_of edit s)) c.self.view_is
    (edit_moves edit (document_in c.self.inside.book) _ c.edit_lines.result c.edit_lines.ensures.document c.edit_lines.ensures.sound)

pub returns-clause-err : goal.returns-clause-err
returns-clause-err g c =
    same_session c.edit_lines.result c.self.inside.book c.edit_lines.new.self c.self.inside.results c.edit_lines.new.results _ c.self.view_is (changes_same c.edit_lines.result _ _ _ c.edit_lines.ensures.document) c.edit_lines.ensures.err

pub invariant_of-self : goal.invariant_of-self
invariant_of-self g c =
    let edit : Edit = Lines c.args.sheet c.args.axis c.args.kind in
    reached_by c.edit_lines.result (document_in c.self.inside.book) _ (edit_of edit) (changes_same c.edit_lines.result _ _ _ c.edit_lines.ensures.document)
    (edit_moves edit (document_in c.self.inside.book) _ c.edit_lines.result c.edit_lines.ensures.document c.edit_lines.ensures.sound) c.self.invariant
