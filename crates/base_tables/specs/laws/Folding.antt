-- Laws of when two names are equal: where their characters are, after simple case folding of each.
use Rattle.std.specs.Prelude.{ℕ, List}
use Rattle.std.specs.Str.{chars}
use Rattle.std.specs.Bool.{Decides}
use Rattle.std.specs.Cmp.Lexicographic.{bytes_decides}
use Rattle.base_tables.specs.Folding.{folded, SameFolded, same_folded}

pub same_folded_decides : (a b : List ℕ) → Decides (same_folded a b) (SameFolded a b)
unfolding same_folded
same_folded_decides a b = bytes_decides (folded (chars a)) (folded (chars b))
