-- `==` of what a renaming reaches is equality of values.
use Rattle.std.proofs.Common.{◌≡◌, refl}
use Rattle.std.specs.Bool.{Decides}
use Rattle.formula_names.specs.declared.reach.Reach.{Reach}
use Rattle.formula_names.specs.declared.reach.Reach.TheVariants.{Sheets, Names, Nothing}
use Rattle.formula_names.specs.contracts.reach.ReachPartialEq.TheImpl as reach

pub reach_equals : (a b : Reach) → Decides (reach.ghosts.eq a b) (a ≡ b)
reach_equals Sheets Sheets = (λ _. refl, λ _. refl)
reach_equals Names Names = (λ _. refl, λ _. refl)
reach_equals Nothing Nothing = (λ _. refl, λ _. refl)
reach_equals _ _ = (λ e. cc, λ e. cc)
