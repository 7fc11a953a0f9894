use Rattle.std.proofs.Common.{sym, subst}
use Rattle.std.specs.Prelude.{IsTrue}
use Rattle.base_maps.specs.SheetPlaces.{sheet_place_cmp}
use Rattle.base_maps.specs.laws.Each.{no_entry}
use Rattle.formula_tree.specs.Numbers.{has_canonical_numbers}
use Rattle.sheet_lines.specs.Back.{AreCanonicalFormulas}
use Rattle.name_edits.proofs.kept.formulas_lost.Goals as goal

pub returns-in_default-clause-numbers : goal.returns-in_default-clause-numbers
returns-in_default-clause-numbers c = subst AreCanonicalFormulas (sym c.new.ensures) (no_entry sheet_place_cmp (λ _ tree. IsTrue (has_canonical_numbers tree)))
