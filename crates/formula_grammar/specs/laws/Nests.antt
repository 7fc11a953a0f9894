-- A function value that reads a whole.
use Rattle.std.specs.Prelude.{ℕ, Result}
use Rattle.std.specs.declared.alloc.Global.{Global}
use denote.Ref.{MutBor}
use Rattle.base_values.specs.Places.{IsPlace}
use Rattle.formula_tree.specs.declared.node.Node.{Node}
use Rattle.formula_grammar.specs.declared.cursor.Cursor.{Cursor}
use Rattle.formula_grammar.specs.declared.fault.Fault.{Fault}
use Rattle.formula_grammar.specs.declared.profile.Profile.{Profile}
use Rattle.formula_grammar.specs.laws.Reading.{whole}
use Rattle.formula_grammar.specs.laws.Outcome.{Reads}

-- at a place inside the sheet, with calls and parentheses nested no deeper than this
pub record Nests (p : Profile) (nesting : ℕ) (pre : Global → Profile → MutBor Cursor → ℕ → ℕ → Type 0)
    (post : Global → Profile → MutBor Cursor → ℕ → ℕ → Result Node Fault → MutBor Cursor → Type 0) : Type 0 where
  pub placed : IsPlace p.place
  pub callable : (alloc : Global) (old : MutBor Cursor) (room : ℕ) → pre alloc p old nesting room
  pub reads : (alloc : Global) (old new : MutBor Cursor) (room : ℕ) (r : Result Node Fault) → post alloc p old nesting room r new
      → Reads (whole p nesting room old.now.rest.now) r new.now.rest.now
