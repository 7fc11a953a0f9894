-- The name of a sheet that needs no quotes.
use Rattle.std.proofs.Common.{◌≡◌, ℕ, List, false}
use Rattle.std.specs.Str.{IsUtf8, chars}
use Rattle.std.proofs.lemmas.Str.{encodes-chars}
use Rattle.base_tables.specs.Word.{needs_quotes, quoted_name}
use Rattle.formula_print.specs.References.{quoted_sheet}

pub bare_sheet : (name : List ℕ) → IsUtf8 name → needs_quotes (chars name) ≡ false → quoted_sheet name ≡ name
unfolding quoted_sheet quoted_name
bare_sheet name utf8 bare = rw bare (encodes-chars name utf8)
