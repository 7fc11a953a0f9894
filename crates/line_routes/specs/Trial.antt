-- What is kept by trying: the value, where going there and back gives another one.
use Rattle.std.specs.Prelude.{Bool, Option, Some, None, if◌then◌else◌}
use Rattle.line_routes.specs.RouteModel.{RouteModel, back}

module _ {F : Type 0} (same : F → F → Bool) (carry : RouteModel → F → F) where
  -- whether the way back gives the value
  abbrev pub comes_back : RouteModel → F → Bool
  comes_back w v = same (carry (back w) (carry w v)) v

  -- the value, where the way back does not give it
  unfoldable pub part_by_trial : RouteModel → F → Option F
  part_by_trial w v = if comes_back w v then None else Some v
