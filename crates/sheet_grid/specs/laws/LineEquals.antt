-- `==` of links and of what rows and columns have is equality of their values.
use Rattle.std.proofs.Common.{◌≡◌, ap}
use Rattle.std.specs.Bool.{Decides}
use Rattle.std.specs.Cmp.{booleans_Decides, signed_Decides}
use Rattle.std.specs.Cmp.Lexicographic.{bytes_decides}
use Rattle.std.proofs.lemmas.Bool.Decides.{Decides-like, Decides-and}
use Rattle.base_values.specs.laws.Decided.{option_equals}
use Rattle.base_styles.specs.laws.StyleEquals.{style_equals}
use Rattle.sheet_grid.specs.declared.link.Link.{Link}
use Rattle.sheet_grid.specs.contracts.link.LinkPartialEq.TheImpl as link
use Rattle.sheet_grid.specs.declared.line_attr.LineAttr.{LineAttr}
use Rattle.sheet_grid.specs.contracts.line_attr.LineAttrPartialEq.TheImpl as line_attr
use Rattle.sheet_grid.specs.declared.row_attr.RowAttr.{RowAttr}
use Rattle.sheet_grid.specs.contracts.row_attr.RowAttrPartialEq.TheImpl as row_attr
use Rattle.sheet_grid.specs.declared.column_attr.ColumnAttr.{ColumnAttr}
use Rattle.sheet_grid.specs.contracts.column_attr.ColumnAttrPartialEq.TheImpl as column_attr
use Rattle.sheet_grid.specs.Lines.{line_of_row, row_of_line, line_of_column, column_of_line}

pub link_equals : (a b : Link) → Decides (link.ghosts.eq a b) (a ≡ b)
link_equals a b = Decides-like _ (λ p i. record { target = p i }) (ap (λ x. x.target)) (bytes_decides _ _)

pub line_attr_equals : (a b : LineAttr) → Decides (line_attr.ghosts.eq a b) (a ≡ b)
line_attr_equals a b =
    Decides-like _ (λ p i. record { size = p.0 i; style = p.1.0 i; hidden = p.1.1 i })
    (λ e. (ap (λ x. x.size) e, (ap (λ x. x.style) e, ap (λ x. x.hidden) e)))
    (Decides-and _ _ (option_equals signed_Decides _ _) (Decides-and _ _ (option_equals style_equals _ _) (booleans_Decides _ _)))

pub row_attr_equals : (a b : RowAttr) → Decides (row_attr.ghosts.eq a b) (a ≡ b)
row_attr_equals a b = Decides-like _ (ap row_of_line) (ap line_of_row) (line_attr_equals (line_of_row a) (line_of_row b))

pub column_attr_equals : (a b : ColumnAttr) → Decides (column_attr.ghosts.eq a b) (a ≡ b)
column_attr_equals a b = Decides-like _ (ap column_of_line) (ap line_of_column) (line_attr_equals (line_of_column a) (line_of_column b))
