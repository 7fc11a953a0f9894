use Rattle.std.proofs.Common.{◌≡◌, take}
use Rattle.book_names.specs.Renaming.{formattings_renamed}
use Rattle.book_names.proofs.formattings.formattings_renamed.Given as goal

abbrev pub invariant-loop-formatting : goal.invariant-loop-formatting
invariant-loop-formatting l = l.output ≡ formattings_renamed l.reach l.old l.new (take l.formatting-index l.formattings)
