use Rattle.std.proofs.Common.{◌≡◌, drop}
use Rattle.sheet_progress.specs.Names.{all_lists}
use Rattle.sheet_progress.specs.Progressions.{named_in, first_of}
use Rattle.sheet_progress.specs.Texts.{texts}
use Rattle.sheet_progress.proofs.detect.first_named.Given as goal

-- the lists that are left decide
abbrev pub invariant-loop-list : goal.invariant-loop-list
invariant-loop-list l = first_of (named_in l.locale l.style (texts l.values)) all_lists ≡ first_of (named_in l.locale l.style (texts l.values)) (drop l.list-index all_lists)
