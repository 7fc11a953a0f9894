-- One level of reading a tree.
use Rattle.std.proofs.Common.{◌≡◌, ℕ, suc, ◌+◌, ◌-◌, List, Err, ap, arith}
use Rattle.base_values.specs.declared.EditError.TheVariants.{ParseDiffs}
use Rattle.base_wire.specs.laws.Reading.{tagged_at}
use Rattle.formula_wire.specs.laws.Reading.{node_of, node_within}

-- no tree is at most 0 deep
pub nothing_within : (most : ℕ) (bytes : List ℕ) → most ≡ 0 → node_within most bytes ≡ Err ParseDiffs
unfolding node_within
nothing_within most bytes none = ap (λ (n : ℕ). node_within n bytes) none

-- a tag, and then children that are one less deep
pub level_within : (rest : ℕ) (bytes : List ℕ) → node_within (rest + 1) bytes ≡ tagged_at (node_of (node_within rest) rest) bytes
unfolding node_within
level_within rest bytes = let more : rest + 1 ≡ suc rest = omega arith in ap (λ (n : ℕ). node_within n bytes) more
