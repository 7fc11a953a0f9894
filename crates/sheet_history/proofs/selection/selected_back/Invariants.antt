use Rattle.std.proofs.Common.{◌≡◌, map, reverse}
use Rattle.sheet_history.specs.Selection.{back_step, selected_along}
use Rattle.sheet_history.proofs.selection.selected_back.Given as goal

-- what is left leads from the present selection to the index where the whole list leads from the first
abbrev pub invariant-loop-diff : goal.invariant-loop-diff
invariant-loop-diff l =
    selected_along (map back_step (reverse l.diff-iterator.iter.rest.now)) l.selection.ids.items l.selection.selected
    ≡ selected_along (map back_step (reverse l.fn.list)) l.fn.selection.ids.items l.fn.selection.selected
