use Rattle.std.proofs.Common.{◌≡◌, map, take}
use Rattle.user_model.specs.Properties.{properties_of}
use Rattle.user_model.proofs.properties.list_properties.Given as goal

-- what is listed of the first sheets
abbrev pub invariant-loop-sheet : goal.invariant-loop-sheet
invariant-loop-sheet l = l.list ≡ map properties_of (take l.sheet-index l.sheets)
