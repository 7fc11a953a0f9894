-- `==` of directions is equality of their values.
use Rattle.std.proofs.Common.{◌≡◌, refl}
use Rattle.std.specs.Bool.{Decides}
use Rattle.sheet_navigation.specs.declared.direction.NavigationDirection.{NavigationDirection}
use Rattle.sheet_navigation.specs.declared.direction.NavigationDirection.TheVariants.{Left, Right, Up, Down}
use Rattle.sheet_navigation.specs.contracts.direction.NavigationDirectionPartialEq.TheImpl as direction

pub direction_equals : (a b : NavigationDirection) → Decides (direction.ghosts.eq a b) (a ≡ b)
direction_equals Left Left = (λ _. refl, λ _. refl)
direction_equals Right Right = (λ _. refl, λ _. refl)
direction_equals Up Up = (λ _. refl, λ _. refl)
direction_equals Down Down = (λ _. refl, λ _. refl)
direction_equals _ _ = (λ e. cc, λ e. cc)
