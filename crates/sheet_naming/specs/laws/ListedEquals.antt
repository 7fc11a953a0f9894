-- `==` of listed names is equality of their values.
use Rattle.std.proofs.Common.{◌≡◌, ap}
use Rattle.std.specs.Bool.{Decides}
use Rattle.std.specs.Cmp.{unsigned_Decides}
use Rattle.std.specs.Cmp.Lexicographic.{bytes_decides}
use Rattle.std.proofs.lemmas.Bool.Decides.{Decides-like, Decides-and}
use Rattle.base_values.specs.laws.Decided.{option_equals}
use Rattle.sheet_naming.specs.declared.listing.ScopedName.{ScopedName}
use Rattle.sheet_naming.specs.contracts.listing.ScopedNamePartialEq.TheImpl as scoped_name

pub scoped_name_equals : (a b : ScopedName) → Decides (scoped_name.ghosts.eq a b) (a ≡ b)
scoped_name_equals a b =
    Decides-like _ (λ p i. record { name = p.0 i; scope = p.1.0 i; formula = p.1.1 i })
    (λ e. (ap (λ x. x.name) e, (ap (λ x. x.scope) e, ap (λ x. x.formula) e)))
    (Decides-and _ _ (bytes_decides _ _) (Decides-and _ _ (option_equals unsigned_Decides _ _) (bytes_decides _ _)))
