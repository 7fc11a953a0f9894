use Rattle.std.proofs.Common.{sym, subst}
use Rattle.open_book.specs.Stands.{IsAnySeenPlan, IsSeenPlan}
use Rattle.open_book.specs.Values.{Session}
use Rattle.user_model.proofs.user_model.UserModel.make.Goals as goal

-- the view inside is the one that callers see
pub make_seen-requires : goal.make_seen-requires
make_seen-requires g c = subst (λ (session : Session). IsAnySeenPlan c.args.plan c.args.selected session.document.view c.args.self.now.document) (sym c.self.view_is) c.requires

pub returns-clause-next : goal.returns-clause-next
returns-clause-next g c = λ edit state it.
    c.make_seen.ensures.next edit state (subst (λ (session : Session). IsSeenPlan edit c.args.plan c.args.selected session.document.view c.args.self.now.document) (sym c.self.view_is) it)
