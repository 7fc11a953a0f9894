use Rattle.std.proofs.Common.{subst}
use Rattle.std.specs.Prelude.{OnOk}
use Rattle.open_book.specs.Machine.{State, undo_of}
use Rattle.open_book.specs.Opened.{document_in, session_of}
use Rattle.open_book.specs.Stands.{StandsFor, MovesOrNoMemory}
use Rattle.open_book.specs.Values.{Session, Makes, is_none_left}
use Rattle.open_book.proofs.Moving.{edits_same, reached_on, same_session, undo_turns}
use Rattle.user_model.proofs.user_model.UserModel.undo.Goals as goal

pub undo-requires : goal.undo-requires
undo-requires g c = c.self.invariant

pub returns-clause-next : goal.returns-clause-next
returns-clause-next g c =
    subst (λ (seen : Session). (s : State) → StandsFor seen.document s → MovesOrNoMemory c.undo.result (document_in c.undo.new.self) (undo_of s)) c.self.view_is
    (undo_turns (document_in c.self.inside.book) _ c.undo.result c.undo.ensures.document)

pub returns-clause-output : goal.returns-clause-output
returns-clause-output g c =
    subst (λ (seen : Session). OnOk c.undo.result (Makes (is_none_left seen.document.undo) g.R.Recalc.Fits seen (session_of c.undo.new.self c.undo.new.results))) c.self.view_is
    c.undo.ensures.output

pub returns-clause-err : goal.returns-clause-err
returns-clause-err g c =
    same_session c.undo.result c.self.inside.book c.undo.new.self c.self.inside.results c.undo.new.results _ c.self.view_is (edits_same c.undo.result _ _ _ c.undo.ensures.document) c.undo.ensures.err

pub invariant_of-self : goal.invariant_of-self
invariant_of-self g c =
    reached_on c.undo.result (document_in c.self.inside.book) _ undo_of (edits_same c.undo.result _ _ _ c.undo.ensures.document)
    (undo_turns (document_in c.self.inside.book) _ c.undo.result c.undo.ensures.document) c.self.invariant
