use Rattle.std.proofs.Common.{◌≡◌}
use Rattle.std.specs.List.{filter_map, last_or}
use Rattle.sheet_navigation.specs.Searches.{filled_before, last_before}
use Rattle.sheet_navigation.proofs.searches.last_before.Given as goal

-- the last of what is left, else what was found, is the last of all
abbrev pub invariant-loop-place : goal.invariant-loop-place
invariant-loop-place l =
    (goal.iterator-loop-place).can_next l.place-iterator ×
    (goal.iterator-loop-place).is_finite l.place-iterator ×
    (last_or l.last (filter_map (filled_before l.row l.column) l.place-iterator) ≡ last_before l.sheet l.row l.column)
