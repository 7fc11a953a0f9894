-- `==` of operators, corners, array items, parameters and contexts is equality of their values.
use Rattle.std.proofs.Common.{◌≡◌, refl, ap}
use Rattle.std.specs.Bool.{Decides}
use Rattle.std.specs.Cmp.{signed_Decides, booleans_Decides}
use Rattle.std.specs.Cmp.Lexicographic.{bytes_decides}
use Rattle.std.proofs.lemmas.Bool.Decides.{Decides-like, Decides-and}
use Rattle.base_tables.specs.laws.ErrorEquals.{error_equals}
use Rattle.base_decimal.specs.laws.DecimalEquals.{decimal_equals}
use Rattle.formula_tree.specs.declared.operator.CompareKind.{CompareKind}
use Rattle.formula_tree.specs.declared.operator.CompareKind.TheVariants as c
use Rattle.formula_tree.specs.contracts.operator.CompareKindPartialEq.TheImpl as compare_kind
use Rattle.formula_tree.specs.declared.operator.SumKind.{SumKind}
use Rattle.formula_tree.specs.declared.operator.SumKind.TheVariants as s
use Rattle.formula_tree.specs.contracts.operator.SumKindPartialEq.TheImpl as sum_kind
use Rattle.formula_tree.specs.declared.operator.ProductKind.{ProductKind}
use Rattle.formula_tree.specs.declared.operator.ProductKind.TheVariants as p
use Rattle.formula_tree.specs.contracts.operator.ProductKindPartialEq.TheImpl as product_kind
use Rattle.formula_tree.specs.declared.operator.UnaryKind.{UnaryKind}
use Rattle.formula_tree.specs.declared.operator.UnaryKind.TheVariants as u
use Rattle.formula_tree.specs.contracts.operator.UnaryKindPartialEq.TheImpl as unary_kind
use Rattle.formula_tree.specs.declared.corner.Corner.{Corner}
use Rattle.formula_tree.specs.contracts.corner.CornerPartialEq.TheImpl as corner
use Rattle.formula_tree.specs.declared.array_item.ArrayItem.{ArrayItem}
use Rattle.formula_tree.specs.declared.array_item.ArrayItem.TheVariants as i
use Rattle.formula_tree.specs.contracts.array_item.ArrayItemPartialEq.TheImpl as array_item
use Rattle.formula_tree.specs.declared.parameter.Parameter.{Parameter}
use Rattle.formula_tree.specs.contracts.parameter.ParameterPartialEq.TheImpl as parameter
use Rattle.formula_tree.specs.declared.context.CellReferenceRC.{CellReferenceRC}
use Rattle.formula_tree.specs.contracts.context.CellReferenceRCPartialEq.TheImpl as context

pub compare_kind_equals : (a b : CompareKind) → Decides (compare_kind.ghosts.eq a b) (a ≡ b)
compare_kind_equals c.Equal c.Equal = (λ _. refl, λ _. refl)
compare_kind_equals c.NotEqual c.NotEqual = (λ _. refl, λ _. refl)
compare_kind_equals c.Less c.Less = (λ _. refl, λ _. refl)
compare_kind_equals c.LessOrEqual c.LessOrEqual = (λ _. refl, λ _. refl)
compare_kind_equals c.Greater c.Greater = (λ _. refl, λ _. refl)
compare_kind_equals c.GreaterOrEqual c.GreaterOrEqual = (λ _. refl, λ _. refl)
compare_kind_equals _ _ = (λ e. cc, λ e. cc)

pub sum_kind_equals : (a b : SumKind) → Decides (sum_kind.ghosts.eq a b) (a ≡ b)
sum_kind_equals s.Add s.Add = (λ _. refl, λ _. refl)
sum_kind_equals s.Subtract s.Subtract = (λ _. refl, λ _. refl)
sum_kind_equals _ _ = (λ e. cc, λ e. cc)

pub product_kind_equals : (a b : ProductKind) → Decides (product_kind.ghosts.eq a b) (a ≡ b)
product_kind_equals p.Multiply p.Multiply = (λ _. refl, λ _. refl)
product_kind_equals p.Divide p.Divide = (λ _. refl, λ _. refl)
product_kind_equals _ _ = (λ e. cc, λ e. cc)

pub unary_kind_equals : (a b : UnaryKind) → Decides (unary_kind.ghosts.eq a b) (a ≡ b)
unary_kind_equals u.Minus u.Minus = (λ _. refl, λ _. refl)
unary_kind_equals u.Percent u.Percent = (λ _. refl, λ _. refl)
unary_kind_equals _ _ = (λ e. cc, λ e. cc)

pub corner_equals : (a b : Corner) → Decides (corner.ghosts.eq a b) (a ≡ b)
corner_equals a b =
    Decides-like _ (λ p i. record { absolute_row = p.0 i; row = p.1.0 i; absolute_column = p.1.1.0 i; column = p.1.1.1 i })
    (λ e. (ap (λ x. x.absolute_row) e, (ap (λ x. x.row) e, (ap (λ x. x.absolute_column) e, ap (λ x. x.column) e))))
    (Decides-and _ _ (booleans_Decides _ _) (Decides-and _ _ (signed_Decides _ _) (Decides-and _ _ (booleans_Decides _ _) (signed_Decides _ _))))

pub array_item_equals : (a b : ArrayItem) → Decides (array_item.ghosts.eq a b) (a ≡ b)
array_item_equals (i.Boolean x) (i.Boolean y) = Decides-like _ (ap i.Boolean) (λ e. cc) (booleans_Decides x y)
array_item_equals (i.Number x) (i.Number y) = Decides-like _ (ap i.Number) (λ e. cc) (decimal_equals x y)
array_item_equals (i.Text x) (i.Text y) = Decides-like _ (ap i.Text) (λ e. cc) (bytes_decides x y)
array_item_equals (i.Error x) (i.Error y) = Decides-like _ (ap i.Error) (λ e. cc) (error_equals x y)
array_item_equals _ _ = (λ e. cc, λ e. cc)

pub parameter_equals : (a b : Parameter) → Decides (parameter.ghosts.eq a b) (a ≡ b)
parameter_equals a b =
    Decides-like _ (λ p i. record { name = p.0 i; optional = p.1 i }) (λ e. (ap (λ x. x.name) e, ap (λ x. x.optional) e))
    (Decides-and _ _ (bytes_decides _ _) (booleans_Decides _ _))

pub context_equals : (a b : CellReferenceRC) → Decides (context.ghosts.eq a b) (a ≡ b)
context_equals a b =
    Decides-like _ (λ p i. record { sheet = p.0 i; row = p.1.0 i; column = p.1.1 i })
    (λ e. (ap (λ x. x.sheet) e, (ap (λ x. x.row) e, ap (λ x. x.column) e)))
    (Decides-and _ _ (bytes_decides _ _) (Decides-and _ _ (signed_Decides _ _) (signed_Decides _ _)))
