use Rattle.std.proofs.Common.{ap}
use Rattle.open_book.specs.Opened.{document_in}
use Rattle.open_book.specs.Values.{Session, speaking}
use Rattle.user_model.proofs.SettingSteps.{spoken_reached}
use Rattle.user_model.proofs.user_model.UserModel.put_language.Goals as goal

pub returns : goal.returns
returns g c = ap (λ (seen : Session). speaking seen c.args.language) c.self.view_is

pub invariant_of-self : goal.invariant_of-self
invariant_of-self g c = spoken_reached (document_in c.self.inside.book) c.args.language c.self.invariant
