use Rattle.std.proofs.Common.{◌≡◌}
use Rattle.base_values.specs.Places.{IsPlace}
use Rattle.sheet_navigation.specs.Navigated.{shows_nothing, last_filled}
use Rattle.sheet_navigation.specs.Walk.{steps_left, walk}
use Rattle.sheet_navigation.proofs.navigate.last_filled.Given as goal

abbrev pub invariant-walk : goal.invariant-walk
invariant-walk l = record {
  inside : IsPlace l.place;
  same : last_filled (shows_nothing l.sheet) l.place (walk l.direction l.place) ≡ last_filled (shows_nothing l.sheet) l.fn.start (walk l.direction l.fn.start);
}

abbrev pub decreases-walk : goal.decreases-walk
decreases-walk l = steps_left l.direction l.place
