use Rattle.std.proofs.Common.{◌≡◌, drop, map}
use Rattle.sheet_history.specs.Selection.{forward_step, selected_along}
use Rattle.sheet_history.proofs.selection.selected_forward.Given as goal

-- what is left leads from the present selection to the index where the whole list leads from the first
abbrev pub invariant-loop-diff : goal.invariant-loop-diff
invariant-loop-diff l =
    selected_along (map forward_step (drop l.diff-index l.list)) l.selection.ids.items l.selection.selected
    ≡ selected_along (map forward_step l.fn.list) l.fn.selection.ids.items l.fn.selection.selected
