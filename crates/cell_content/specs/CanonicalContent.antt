-- Which contents have canonical numbers alone, as those of workbooks do.
use Rattle.std.specs.Prelude.{IsTrue, IfSome}
use Rattle.base_decimal.specs.Canonical.{IsCanonical}
use Rattle.formula_tree.specs.Numbers.{has_canonical_numbers}
use Rattle.cell_content.specs.declared.content.Content.{Content}
use Rattle.cell_content.specs.declared.content.Content.TheVariants.{Number}
use Rattle.cell_content.specs.Lens.{tree_of}

-- each of its numbers has at most 15 digits on each side of the point, and no zero digit at the end of its places
abbrev pub IsCanonicalContent : Content → Type 0
IsCanonicalContent (Number number) = IsCanonical number
IsCanonicalContent content = IfSome (tree_of content) (λ tree. IsTrue (has_canonical_numbers tree))
