use Rattle.std.proofs.Common.{◌≡◌, take}
use Rattle.book_names.specs.Renaming.{formattings_back, formattings_under}
use Rattle.book_names.proofs.formattings.formattings_back.Given as goal

abbrev pub invariant-loop-place : goal.invariant-loop-place
invariant-loop-place l =
    l.output ≡ formattings_back l.change.reach l.change.before.now l.change.after.now (formattings_under l.change.kept.now l.change.id) (take l.place l.formattings)
