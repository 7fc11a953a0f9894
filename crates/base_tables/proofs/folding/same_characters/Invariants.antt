use Rattle.std.proofs.Common.{◌≡◌, length}
use Rattle.std.specs.Str.{IsUtf8}
use Rattle.std.specs.Str.Iter.{chars_rest}
use Rattle.base_tables.specs.Folding.{same_folded}
use Rattle.base_tables.proofs.folding.same_characters.Given as goal

-- what is left is equal exactly where the whole texts are
abbrev pub invariant-loop-c : goal.invariant-loop-c
invariant-loop-c l = record {
  left_so : IsUtf8 (chars_rest l.left);
  right_so : IsUtf8 (chars_rest l.right);
  same : (same_folded (chars_rest l.left) (chars_rest l.right) ≡ same_folded l.fn.a l.fn.b);
}

abbrev pub decreases-loop-c : goal.decreases-loop-c
decreases-loop-c l = length (chars_rest l.left)
