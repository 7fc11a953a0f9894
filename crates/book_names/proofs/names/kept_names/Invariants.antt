use Rattle.std.proofs.Common.{◌≡◌, take}
use Rattle.book_names.specs.Renaming.{names_kept}
use Rattle.book_names.proofs.names.kept_names.Given as goal

abbrev pub invariant-loop-place : goal.invariant-loop-place
invariant-loop-place l = l.kept ≡ names_kept l.old l.new (take l.place l.names)
