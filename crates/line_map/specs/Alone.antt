-- What an edit carries along by itself is regained from what was kept.
use Rattle.std.specs.Prelude.{Option, IfSome}
use Rattle.line_routes.specs.RouteModel.{RouteModel, back}

-- the value is inside, and what was kept of it fits
pub record Restores {F P : Type 0} (Inside : RouteModel → F → Type 0) (Fits : RouteModel → P → Type 0) (w : RouteModel) (v : F) (kept : Option P) : Type 0 where
  pub lies : Inside (back w) v
  pub fits : IfSome kept (Fits w)
