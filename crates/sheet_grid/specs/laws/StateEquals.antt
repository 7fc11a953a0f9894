-- `==` of sheet states is equality of their values.
use Rattle.std.proofs.Common.{◌≡◌, refl}
use Rattle.std.specs.Bool.{Decides}
use Rattle.sheet_grid.specs.declared.state.SheetState.{SheetState}
use Rattle.sheet_grid.specs.declared.state.SheetState.TheVariants.{Visible, Hidden, VeryHidden}
use Rattle.sheet_grid.specs.contracts.state.SheetStatePartialEq.TheImpl as state

pub state_equals : (a b : SheetState) → Decides (state.ghosts.eq a b) (a ≡ b)
state_equals Visible Visible = (λ _. refl, λ _. refl)
state_equals Hidden Hidden = (λ _. refl, λ _. refl)
state_equals VeryHidden VeryHidden = (λ _. refl, λ _. refl)
state_equals _ _ = (λ e. cc, λ e. cc)
