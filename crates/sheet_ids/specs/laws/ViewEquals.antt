-- `==` of views is equality of their values.
use Rattle.std.proofs.Common.{◌≡◌, ap}
use Rattle.std.specs.Bool.{Decides}
use Rattle.std.specs.Cmp.{signed_Decides, unsigned_Decides}
use Rattle.std.specs.Cmp.Lexicographic.{pointwise_decides}
use Rattle.std.proofs.lemmas.Bool.Decides.{Decides-like, Decides-and}
use Rattle.sheet_ids.specs.declared.view.View.{View}
use Rattle.sheet_ids.specs.contracts.view.ViewPartialEq.TheImpl as view

pub view_equals : (a b : View) → Decides (view.ghosts.eq a b) (a ≡ b)
view_equals a b =
    Decides-like _ (λ p i. record { sheet = p.0 i; range = p.1 i }) (λ e. (ap (λ x. x.sheet) e, ap (λ x. x.range) e))
    (Decides-and _ _ (unsigned_Decides _ _) (pointwise_decides signed_Decides _ _))
