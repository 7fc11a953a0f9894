use Rattle.std.proofs.Common.{subst}
use Rattle.std.specs.Prelude.{OnOk}
use Rattle.open_book.specs.Machine.{State, redo_of}
use Rattle.open_book.specs.Opened.{document_in, session_of}
use Rattle.open_book.specs.Stands.{StandsFor, MovesOrNoMemory}
use Rattle.open_book.specs.Values.{Session, Makes, is_none_left}
use Rattle.open_book.proofs.Moving.{edits_same, reached_on, same_session, redo_turns}
use Rattle.user_model.proofs.user_model.UserModel.redo.Goals as goal

pub redo-requires : goal.redo-requires
redo-requires g c = c.self.invariant

pub returns-clause-next : goal.returns-clause-next
returns-clause-next g c =
    subst (λ (seen : Session). (s : State) → StandsFor seen.document s → MovesOrNoMemory c.redo.result (document_in c.redo.new.self) (redo_of s)) c.self.view_is
    (redo_turns (document_in c.self.inside.book) _ c.redo.result c.redo.ensures.document)

pub returns-clause-output : goal.returns-clause-output
returns-clause-output g c =
    subst (λ (seen : Session). OnOk c.redo.result (Makes (is_none_left seen.document.redo) g.R.Recalc.Fits seen (session_of c.redo.new.self c.redo.new.results))) c.self.view_is
    c.redo.ensures.output

pub returns-clause-err : goal.returns-clause-err
returns-clause-err g c =
    same_session c.redo.result c.self.inside.book c.redo.new.self c.self.inside.results c.redo.new.results _ c.self.view_is (edits_same c.redo.result _ _ _ c.redo.ensures.document) c.redo.ensures.err

pub invariant_of-self : goal.invariant_of-self
invariant_of-self g c =
    reached_on c.redo.result (document_in c.self.inside.book) _ redo_of (edits_same c.redo.result _ _ _ c.redo.ensures.document)
    (redo_turns (document_in c.self.inside.book) _ c.redo.result c.redo.ensures.document) c.self.invariant
