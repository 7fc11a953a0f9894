-- `==` of changes of lines is equality of their values.
use Rattle.std.proofs.Common.{◌≡◌, ap}
use Rattle.std.specs.Bool.{Decides}
use Rattle.std.specs.Cmp.{signed_Decides, booleans_Decides}
use Rattle.std.proofs.lemmas.Bool.Decides.{Decides-like}
use Rattle.base_values.specs.laws.Decided.{option_equals}
use Rattle.line_sizes.specs.declared.change.LineChange.{LineChange}
use Rattle.line_sizes.specs.declared.change.LineChange.TheVariants.{Size, Hidden}
use Rattle.line_sizes.specs.contracts.change.LineChangePartialEq.TheImpl as line_change

pub line_change_equals : (a b : LineChange) → Decides (line_change.ghosts.eq a b) (a ≡ b)
line_change_equals (Size m) (Size n) = Decides-like _ (ap Size) (λ e. cc) (option_equals signed_Decides m n)
line_change_equals (Hidden m) (Hidden n) = Decides-like _ (ap Hidden) (λ e. cc) (booleans_Decides m n)
line_change_equals _ _ = (λ e. cc, λ e. cc)
