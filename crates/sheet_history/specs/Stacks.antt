-- What a history holds, and what its calls make of it.
use Rattle.std.proofs.Common.{Bool, false, List, [], ◌∷◌, Option, Some, None}
use Rattle.sheet_history.specs.declared.diff.Diff.{Diff}

-- the lists to undo and those to redo, the newest first, and whether there is room for one list more on either stack
pub record Stacks : Type 0 where
  pub undo : List (List Diff)
  pub redo : List (List Diff)
  pub has_room : Bool

abbrev pub empty_stacks : Stacks
empty_stacks = record { undo = []; redo = []; has_room = false }

-- a new list can be undone, and nothing can be redone
abbrev pub pushed : List Diff → Stacks → Stacks
pushed list stacks = record { undo = list ∷ stacks.undo; redo = []; has_room = false }

-- the answer of moving the newest list of a stack: none exactly where there is no list
abbrev pub moved_from : List (List Diff) → Option (Unit {0})
moved_from [] = None
moved_from (list ∷ older) = Some tt

-- the newest list to undo, if there is one, becomes the newest to redo
abbrev pub undone_from : List (List Diff) → Stacks → Stacks
undone_from [] stacks = stacks
undone_from (list ∷ older) stacks = record { undo = older; redo = list ∷ stacks.redo; has_room = false }

abbrev pub undone : Stacks → Stacks
undone stacks = undone_from stacks.undo stacks

-- the newest list to redo, if there is one, becomes the newest to undo
abbrev pub redone_from : List (List Diff) → Stacks → Stacks
redone_from [] stacks = stacks
redone_from (list ∷ older) stacks = record { undo = list ∷ stacks.undo; redo = older; has_room = false }

abbrev pub redone : Stacks → Stacks
redone stacks = redone_from stacks.redo stacks
