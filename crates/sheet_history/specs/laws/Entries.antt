-- What holds of every entry of a map.
use Rattle.std.proofs.Common.{◌≡◌, Bool, true, false, cond, Option, Some, refl, ap, sym, ◌∙◌}
use Rattle.std.specs.List.{list_all}
use Rattle.std.specs.declared.cmp.Ordering.{Ordering}
use Rattle.std.specs.Ordering.{eq_by_cmp}
use Rattle.std.specs.Cmp.{IsTotalOrder}
use Rattle.std.specs.FinMap.{FinMap, entries, get}
use Rattle.std.proofs.lemmas.Map.Lookups.{CmpEqualImpliesEq}
use Rattle.base_values.specs.KeyMap.{with_entry}
use Rattle.base_values.specs.laws.KeyMap.{get-with_entry}
use Rattle.base_maps.specs.laws.Keys.{one_key}
pub use Rattle.book_names.specs.laws.Entries.{all_entries, entry_holds}

module _ {K X : Type 0} (R : K → K → Ordering) (total : IsTotalOrder R) (exact : CmpEqualImpliesEq R) (P : K × X → Bool) where
  -- another entry keeps what holds of it too
  pub all_with_entry : (m : FinMap R X) (key : K) (w : Option X) → ((x : X) → w ≡ Some x → P (key, x) ≡ true) → list_all P (entries m) ≡ true → list_all P (entries (with_entry m key w)) ≡ true
  all_with_entry m key w new old = all_entries R total exact P (with_entry m key w) (λ k x found. go k x (eq_by_cmp R k key) refl (sym (get-with_entry total m key w k) ∙ found))
    where
      go : (k : K) (x : X) (b : Bool) → eq_by_cmp R k key ≡ b → cond b w (get m k) ≡ Some x → P (k, x) ≡ true
      go k x true same it = ap (λ q. P (q, x)) (one_key R total exact k key same) ∙ new x it
      go k x false other it = entry_holds R total exact P m old k x it
