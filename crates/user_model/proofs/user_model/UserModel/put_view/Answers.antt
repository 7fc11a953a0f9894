use Rattle.std.proofs.Common.{ap, length, subst, sym}
use Rattle.sheet_ids.specs.Views.{IsViewOf}
use Rattle.open_book.specs.Opened.{document_in}
use Rattle.open_book.specs.Values.{Session, seeing}
use Rattle.open_book.proofs.Moving.{seen_reached}
use Rattle.user_model.proofs.user_model.UserModel.put_view.Goals as goal

pub returns : goal.returns
returns g c = ap (λ (seen : Session). seeing seen c.args.view) c.self.view_is

pub invariant_of-self : goal.invariant_of-self
invariant_of-self g c = seen_reached (document_in c.self.inside.book) c.args.view c.self.invariant
    (subst (λ (session : Session). IsViewOf (length session.document.book.worksheets) c.args.view) (sym c.self.view_is) c.requires)
