-- `==` of positions is equality of their values.
use Rattle.std.proofs.Common.{◌≡◌, ap}
use Rattle.std.specs.Bool.{Decides}
use Rattle.std.specs.Cmp.{signed_Decides}
use Rattle.std.proofs.lemmas.Bool.Decides.{Decides-like, Decides-and}
use Rattle.base_values.specs.declared.position.Position.{Position}
use Rattle.base_values.specs.contracts.position.PositionPartialEq.TheImpl as position

pub position_equals : (a b : Position) → Decides (position.ghosts.eq a b) (a ≡ b)
position_equals a b =
    Decides-like _ (λ p i. record { row = p.0 i; column = p.1 i }) (λ e. (ap (λ x. x.row) e, ap (λ x. x.column) e))
    (Decides-and _ _ (signed_Decides a.row b.row) (signed_Decides a.column b.column))
