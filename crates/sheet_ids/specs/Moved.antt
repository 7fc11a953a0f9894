-- Where the selected sheet stands after another one was moved.
use Rattle.std.specs.Prelude.{ℕ, ◌+◌, ◌-◌, ◌==◌, nat_le, nat_lt, if◌then◌else◌}

-- the index of a sheet after another one, at from, was taken out
abbrev pub without : ℕ → ℕ → ℕ
without selected from = if nat_lt from selected then selected - 1 else selected

-- the moved sheet is at to. Any other one gives way to it where it stands at to or behind
abbrev pub selected_sheet_after_move : ℕ → ℕ → ℕ → ℕ
selected_sheet_after_move selected from to =
    if selected == from then to else if nat_le to (without selected from) then without selected from + 1 else without selected from
