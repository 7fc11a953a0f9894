-- Whether the numbers in the lines of an array are canonical. Serves private contracts and proofs.
use Rattle.std.specs.Prelude.{Bool, true}
use Rattle.base_decimal.specs.Canonical.{is_canonical}
use Rattle.formula_tree.specs.declared.ArrayItem.{ArrayItem}
use Rattle.formula_tree.specs.declared.ArrayItem.TheVariants as item

-- a constant is a canonical number, or no number
abbrev pub is_canonical_item : ArrayItem → Bool
is_canonical_item (item.Boolean value) = true
is_canonical_item (item.Number value) = is_canonical value
is_canonical_item (item.Text text) = true
is_canonical_item (item.Error error) = true
