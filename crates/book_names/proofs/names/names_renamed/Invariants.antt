use Rattle.std.proofs.Common.{◌≡◌, map, take}
use Rattle.formula_names.specs.declared.Reach.TheVariants.{Sheets}
use Rattle.book_names.specs.Renaming.{defined_renamed}
use Rattle.book_names.proofs.names.names_renamed.Given as goal

abbrev pub invariant-loop-name : goal.invariant-loop-name
invariant-loop-name l = l.output ≡ map (defined_renamed Sheets l.old l.new) (take l.name-index l.names)
