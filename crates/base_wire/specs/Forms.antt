-- Tests that texts, options and lists pass where bytes can carry them.
use Rattle.std.specs.Prelude.{ℕ, ◌^◌, ◌&&◌, nat_lt, Bool, true, List, length, Option, Some, None}
use Rattle.std.specs.List.{list_all}
use Rattle.std.specs.Str.{is_utf8}

-- nothing, or a value that passes
abbrev pub if_passes : {A : Type 0} → (A → Bool) → Option A → Bool
if_passes test None = true
if_passes test (Some x) = test x

-- a text of Rust
abbrev pub is_text : List ℕ → Bool
is_text text = nat_lt (length text) (2 ^ 64) && is_utf8 text

-- a list of Rust, whose items pass
abbrev pub is_list : {A : Type 0} → (A → Bool) → List A → Bool
is_list test xs = nat_lt (length xs) (2 ^ 64) && list_all test xs
