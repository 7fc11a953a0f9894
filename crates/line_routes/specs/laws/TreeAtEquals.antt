-- `==` of trees with their places is equality of their values.
use Rattle.std.proofs.Common.{◌≡◌, ap}
use Rattle.std.specs.Bool.{Decides}
use Rattle.std.specs.Cmp.Lexicographic.{bytes_decides}
use Rattle.std.proofs.lemmas.Bool.Decides.{Decides-like, Decides-and}
use Rattle.base_values.specs.laws.PositionEquals.{position_equals}
use Rattle.base_values.specs.laws.CodedEq.{same_value_decides}
use Rattle.formula_tree.specs.contracts.node.Node.{the_row}
use Rattle.line_routes.specs.declared.tree_at.TreeAt.{TreeAt}
use Rattle.line_routes.specs.contracts.tree_at.TreeAtPartialEq.TheImpl as tree_at

pub tree_at_equals : (a b : TreeAt) → Decides (tree_at.ghosts.eq a b) (a ≡ b)
tree_at_equals a b =
    Decides-like _ (λ p i. record { node = p.0 i; sheet = p.1.0 i; place = p.1.1.0 i; edited = p.1.1.1 i })
    (λ e. (ap (λ x. x.node) e, (ap (λ x. x.sheet) e, (ap (λ x. x.place) e, ap (λ x. x.edited) e))))
    (Decides-and _ _ (same_value_decides the_row.coded _ _) (Decides-and _ _ (bytes_decides _ _) (Decides-and _ _ (position_equals _ _) (bytes_decides _ _))))
