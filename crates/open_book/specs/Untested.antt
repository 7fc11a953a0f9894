-- Lists that are followed without a test of the result.
use Rattle.std.proofs.Common.{List, Result}
use Rattle.base_values.specs.declared.EditError.{EditError}
use Rattle.sheet_grid.specs.Book.{Book}
use Rattle.sheet_history.specs.declared.Diff.{Diff}
use Rattle.sheet_history.specs.declared.DiffType.{DiffType}
use Rattle.sheet_history.specs.declared.DiffType.TheVariants.{Undo, Redo}
use Rattle.sheet_history.specs.Diffs.{untested_after, untested_before}

-- a list followed in its direction, whether or not the result is well-formed
abbrev pub follow_untested : DiffType → Book → List Diff → Result Book EditError
follow_untested Undo book list = untested_before book list
follow_untested Redo book list = untested_after book list
