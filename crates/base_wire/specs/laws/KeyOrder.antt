-- The order of keys that contracts see is total and exact, since it is that of the code.
use Rattle.std.proofs.Common.{◌≡◌, Bool, ap, subst, ◌∙◌}
use Rattle.std.proofs.lemmas.Map.Lookups.{CmpEqualImpliesEq}
use Rattle.std.specs.Bool.{Decides}
use Rattle.std.specs.Cmp.{IsTotalOrder}
use Rattle.std.specs.Ordering.{is_eq}
use Rattle.std.specs.declared.cmp.Ordering.{Ordering}

module _ {K : Type 0} {S R : K → K → Ordering} (same : S ≡ R) where
  pub order_total : IsTotalOrder S → IsTotalOrder R
  order_total total = subst IsTotalOrder same total

  pub order_exact : {D : K → K → Bool} → ((a b : K) → Decides (D a b) (a ≡ b)) → ((a b : K) → D a b ≡ is_eq (S a b)) → CmpEqualImpliesEq R
  order_exact equals ties = subst CmpEqualImpliesEq same (λ a b tied. (equals a b).0 (ties a b ∙ ap is_eq tied))
