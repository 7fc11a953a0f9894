use Rattle.std.proofs.Common.{◌≡◌, take}
use Rattle.book_names.specs.Renaming.{own_formattings_kept}
use Rattle.book_names.proofs.formattings.formattings_kept.Given as goal

abbrev pub invariant-loop-place : goal.invariant-loop-place
invariant-loop-place l = l.kept ≡ own_formattings_kept l.ways.there l.ways.back l.ways.old.now l.ways.new.now (take l.place l.formattings)
