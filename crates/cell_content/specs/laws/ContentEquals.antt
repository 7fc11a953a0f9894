-- `==` of contents is equality of their values.
use Rattle.std.proofs.Common.{◌≡◌, refl, ap}
use Rattle.std.specs.Bool.{Decides}
use Rattle.std.specs.Cmp.{booleans_Decides, signed_Decides}
use Rattle.std.specs.Cmp.Lexicographic.{bytes_decides}
use Rattle.std.proofs.lemmas.Bool.Decides.{Decides-like, Decides-and}
use Rattle.base_values.specs.laws.CodedEq.{same_value_decides}
use Rattle.base_decimal.specs.laws.DecimalEquals.{decimal_equals}
use Rattle.base_tables.specs.laws.ErrorEquals.{error_equals}
use Rattle.formula_tree.specs.contracts.node.Node.{the_row as node_row}
use Rattle.cell_content.specs.declared.content.Content.{Content}
use Rattle.cell_content.specs.declared.content.Content.TheVariants.{Empty, Number, Boolean, Error, Text, Formula, Dynamic, Array}
use Rattle.cell_content.specs.contracts.content.ContentPartialEq.TheImpl as content

pub content_equals : (a b : Content) → Decides (content.ghosts.eq a b) (a ≡ b)
content_equals Empty Empty = (λ _. refl, λ _. refl)
content_equals (Number x) (Number y) = Decides-like _ (ap Number) (λ e. cc) (decimal_equals x y)
content_equals (Boolean x) (Boolean y) = Decides-like _ (ap Boolean) (λ e. cc) (booleans_Decides x y)
content_equals (Error x) (Error y) = Decides-like _ (ap Error) (λ e. cc) (error_equals x y)
content_equals (Text x) (Text y) = Decides-like _ (ap Text) (λ e. cc) (bytes_decides x y)
content_equals (Formula x) (Formula y) = Decides-like _ (ap Formula) (λ e. cc) (same_value_decides node_row.coded x y)
content_equals (Dynamic x) (Dynamic y) = Decides-like _ (ap Dynamic) (λ e. cc) (same_value_decides node_row.coded x y)
content_equals (Array x width height) (Array y wide high) =
    Decides-like _ (λ p i. Array (p.0 i) (p.1.0 i) (p.1.1 i)) (λ e. (cc, (cc, cc)))
    (Decides-and _ _ (same_value_decides node_row.coded x y) (Decides-and _ _ (signed_Decides width wide) (signed_Decides height high)))
content_equals _ _ = (λ e. cc, λ e. cc)
