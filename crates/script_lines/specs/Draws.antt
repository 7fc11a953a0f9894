-- The commands that `make` draws from a seed. They do not depend on what the workbook is.
use Rattle.std.specs.Prelude.{ℕ, zero, suc, ℤ, pos, ◌==◌, ◌+◌, ◌*◌, ◌/◌, ◌%◌, ◌^◌, nat_lt, List, [], ◌∷◌, ◌++◌, codes, decimal, if◌then◌else◌}
use Rattle.script_lines.specs.declared.command.NamedCell.{NamedCell}
use Rattle.script_lines.specs.declared.command.NamedLines.{NamedLines}
use Rattle.script_lines.specs.declared.command.Command.{Command}
use Rattle.script_lines.specs.declared.command.Command.TheVariants.{Set, InsertRows, DeleteRows, Undo, Redo, Sync}

-- the seed that a draw leaves
unfoldable pub next_seed : ℕ → ℕ
next_seed seed = (seed * 6364136223846793005 + 1442695040888963407) % 2 ^ 64

-- what a draw gives, below a limit
unfoldable pub draw : ℕ → ℕ → ℕ
draw limit seed = (next_seed seed / 2 ^ 33) % limit

-- a line from 1 to a last one
abbrev pub drawn_line : ℕ → ℕ → ℤ
drawn_line last seed = pos (1 + draw last seed)

-- the column is drawn before the row
abbrev pub drawn_cell : ℕ → NamedCell
drawn_cell seed = record { sheet = 0; row = drawn_line 50 (next_seed seed); column = drawn_line 20 seed }

abbrev pub drawn_row : ℕ → NamedLines
drawn_row seed = record { sheet = 0; first = drawn_line 50 seed; count = pos 1 }

-- the texts that are typed into a cell
abbrev pub drawn_number : ℕ → List ℕ
drawn_number seed = decimal (draw 1000 seed)

abbrev pub drawn_formula : ℕ → List ℕ
drawn_formula seed = codes "=A" ++ decimal (1 + draw 50 seed) ++ codes "+$B$" ++ decimal (1 + draw 50 (next_seed seed))

-- the command of a kind, and the seed that its draws leave
unfoldable pub drawn_by : ℕ → ℕ → Command × ℕ
drawn_by kind seed =
    if nat_lt kind 3 then (Set (drawn_cell seed) (drawn_number (next_seed (next_seed seed))), next_seed (next_seed (next_seed seed)))
    else if kind == 3 then (Set (drawn_cell seed) (drawn_formula (next_seed (next_seed seed))), next_seed (next_seed (next_seed (next_seed seed))))
    else if kind == 4 then (InsertRows (drawn_row seed), next_seed seed)
    else if kind == 5 then (DeleteRows (drawn_row seed), next_seed seed)
    else if kind == 6 then (Undo, seed)
    else (if draw 2 seed == 0 then Redo else Sync, next_seed seed)

-- the kind is drawn first
abbrev pub drawn_command : ℕ → Command × ℕ
drawn_command seed = drawn_by (draw 8 seed) (next_seed seed)

-- so many commands, one after another
abbrev pub drawn_commands : ℕ → ℕ → List Command
drawn_commands zero seed = []
drawn_commands (suc count) seed = (drawn_command seed).0 ∷ drawn_commands count (drawn_command seed).1
