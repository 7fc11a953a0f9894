use Rattle.std.proofs.Common.{subst}
use Rattle.open_book.specs.Stands.{IsReached}
use Rattle.open_book.specs.Values.{Session}
use Rattle.open_book.proofs.Moving.{reached_rules}
use Rattle.user_model.proofs.user_model.UserModel.get_model.Goals as goal

pub returns-clause-rules : goal.returns-clause-rules
returns-clause-rules g c = reached_rules c.args.self.now.document (subst (λ (seen : Session). IsReached seen.document) c.self.view_is c.self.invariant)

pub returns-clause-reached : goal.returns-clause-reached
returns-clause-reached g c = subst (λ (seen : Session). IsReached seen.document) c.self.view_is c.self.invariant
