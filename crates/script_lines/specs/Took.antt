-- What was taken of what a source had left, and added to what a sink had taken.
use Rattle.std.specs.Prelude.{◌≡◌, ℕ, ◌≤◌, List, ◌++◌, length}
use Rattle.std.specs.declared.option.Option.{Option}
use Rattle.std.specs.Io.KnownBytes.{prepend_known, append_known}

-- at most n bytes were taken from the front of what the source had left
pub record TookAtMost (n : ℕ) (before now : Option (List ℕ)) : Type 0 where
  pub bytes : List ℕ
  pub within : length bytes ≤ n
  pub taken : before ≡ prepend_known bytes now

-- just n bytes were taken from its front
pub record TookJust (n : ℕ) (before now : Option (List ℕ)) : Type 0 where
  pub bytes : List ℕ
  pub count : length bytes ≡ n
  pub taken : before ≡ prepend_known bytes now

-- a front of the text was added
pub record AddedFront (text : List ℕ) (before now : Option (List ℕ)) : Type 0 where
  pub front : List ℕ
  pub rest : List ℕ
  pub parts : text ≡ front ++ rest
  pub added : now ≡ append_known before front
