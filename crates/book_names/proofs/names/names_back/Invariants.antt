use Rattle.std.proofs.Common.{◌≡◌, take}
use Rattle.std.specs.FinMap.{get}
use Rattle.book_names.specs.Renaming.{names_back}
use Rattle.book_names.proofs.names.names_back.Given as goal

abbrev pub invariant-loop-place : goal.invariant-loop-place
invariant-loop-place l = l.output ≡ names_back l.reach l.old l.new (get l.kept) (take l.place l.names)
