use Rattle.std.proofs.Common.{sym, subst}
use Rattle.open_book.specs.Machine.{edit_of}
use Rattle.open_book.specs.Opened.{document_in}
use Rattle.open_book.specs.Stands.{StandsFor, IsAnySeenPlan, IsSeenPlan, Moves}
use Rattle.open_book.specs.Values.{Session}
use Rattle.open_book.proofs.Moving.{changes_same, edit_moves, reached_by, reached_rules, same_session}
use Rattle.user_model.proofs.user_model.UserModel.make_seen.Goals as goal

pub make-requires-clause-plan : goal.make-requires-clause-plan
make-requires-clause-plan g c = subst (λ (seen : Session). IsAnySeenPlan c.args.plan c.args.selected c.args.seen seen.document) (sym c.self.view_is) c.requires

pub make-requires-clause-rules : goal.make-requires-clause-rules
make-requires-clause-rules g c = reached_rules (document_in c.self.inside.book) c.self.invariant

pub returns-clause-next : goal.returns-clause-next
returns-clause-next g c = λ edit s it.
    let planned = subst (λ (seen : Session). IsSeenPlan edit c.args.plan c.args.selected c.args.seen seen.document) (sym c.self.view_is) it in
    subst (λ (seen : Session). StandsFor seen.document s → Moves c.make.result (document_in c.make.new.self) (edit_of edit s)) c.self.view_is
    (edit_moves edit (document_in c.self.inside.book) _ c.make.result (c.make.ensures.document edit planned) (c.make.ensures.sound edit planned) s)

pub returns-clause-err : goal.returns-clause-err
returns-clause-err g c =
    let any = subst (λ (seen : Session). IsAnySeenPlan c.args.plan c.args.selected c.args.seen seen.document) (sym c.self.view_is) c.requires in
    same_session c.make.result c.self.inside.book c.make.new.self c.self.inside.results c.make.new.results _ c.self.view_is (changes_same c.make.result _ _ _ (c.make.ensures.document any.0 any.1)) c.make.ensures.err

pub invariant_of-self : goal.invariant_of-self
invariant_of-self g c =
    let any = subst (λ (seen : Session). IsAnySeenPlan c.args.plan c.args.selected c.args.seen seen.document) (sym c.self.view_is) c.requires in
    reached_by c.make.result (document_in c.self.inside.book) _ (edit_of any.0) (changes_same c.make.result _ _ _ (c.make.ensures.document any.0 any.1))
    (edit_moves any.0 (document_in c.self.inside.book) _ c.make.result (c.make.ensures.document any.0 any.1) (c.make.ensures.sound any.0 any.1)) c.self.invariant
