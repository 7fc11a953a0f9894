-- `==` of cells is equality of their values.
use Rattle.std.proofs.Common.{◌≡◌, Bool, Option, refl, ap, sym}
use Rattle.std.specs.Bool.{Decides}
use Rattle.std.specs.Cmp.{IsEquivalence}
use Rattle.std.proofs.lemmas.Bool.Decides.{Decides-like, Decides-and, same_from_decides}
use Rattle.base_values.specs.laws.Decided.{option_equals}
use Rattle.base_styles.specs.laws.StyleEquals.{style_equals}
use Rattle.cell_content.specs.laws.ContentEquals.{content_equals}
use Rattle.sheet_grid.specs.declared.cell.Cell.{Cell}
use Rattle.sheet_grid.specs.contracts.cell.CellPartialEq.TheImpl as cell
use Rattle.sheet_grid.specs.SameEntry.{same_entry}

pub cell_equals : (a b : Cell) → Decides (cell.ghosts.eq a b) (a ≡ b)
cell_equals a b =
    Decides-like _ (λ p i. record { content = p.0 i; style = p.1 i }) (λ e. (ap (λ x. x.content) e, ap (λ x. x.style) e))
    (Decides-and _ _ (content_equals _ _) (style_equals _ _))

-- a test of equality is one of equivalence
decided_equiv : {A : Type 0} {E : A → A → Bool} → ((a b : A) → Decides (E a b) (a ≡ b)) → IsEquivalence E
decided_equiv {E = E} same = record {
  refl = λ x. (same x x).1 refl;
  symm = λ x y. same_from_decides _ _ (same x y) (Decides-like _ sym sym (same y x));
  congr = λ x y z e. ap (λ v. E v z) ((same x y).0 e);
}

pub cell_equiv : IsEquivalence cell.ghosts.eq
cell_equiv = decided_equiv cell_equals

-- so it is of two entries of a place, cells or none
pub same_entry_decides : (a b : Option Cell) → Decides (same_entry a b) (a ≡ b)
same_entry_decides = option_equals cell_equals
