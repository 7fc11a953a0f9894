-- The laws of the bytes of maps.
use Rattle.std.proofs.Common.{◌≡◌, ℕ, ◌≤◌, Bool, true, false, T, List, length, refl, ap, sym, subst, ◌∙◌, arith}
use Rattle.std.proofs.lemmas.List.{length-append}
use Rattle.std.proofs.lemmas.Map.Lookups.{CmpEqualImpliesEq}
use Rattle.std.specs.Cmp.{IsTotalOrder}
use Rattle.std.specs.declared.cmp.Ordering.{Ordering}
use Rattle.std.specs.FinMap.{FinMap, entries, entries_sorted, from_entries, is_sorted}
use Rattle.base_maps.specs.laws.Gathering.{own_entries}
use Rattle.base_maps.specs.laws.Known.{entries_again}
use Rattle.base_wire.specs.laws.Reading.{Reader}
use Rattle.base_wire.specs.Encoding.{Both, FitsItems, encode_both}
use Rattle.base_wire.specs.laws.Format.{Format, list_format}
use Rattle.base_wire.specs.laws.Formats.{both_format, check_format, made_format}
use Rattle.base_wire.specs.MapBytes.{encode_entries, encode_map, FitsMap}
use Rattle.base_wire.specs.laws.MapReading.{entries_at, map_of_at}

holds : (b : Bool) → T b → b ≡ true
holds true h = refl
holds false h = absurd h

-- an entry takes a byte at least
pub entry_some : {K X : Type 0} (s : K → List ℕ) → ((k : K) → 1 ≤ length (s k)) → (t : X → List ℕ) → (e : K × X) → 1 ≤ length (encode_both s t e)
entry_some s some t e = omega (arith, some e.0, length-append (s e.0) (t e.1))

module _ {K X : Type 0} {F : K → Type 0} {G : X → Type 0} {s : K → List ℕ} {t : X → List ℕ} {r : Reader K} {n : Reader X} where
  -- entries in order
  pub entries_format : (R : K → K → Ordering) → Format F s r → Format G t n → ((k : K) → 1 ≤ length (s k)) → Format (λ es. FitsItems (Both F G) es × (is_sorted R es ≡ true)) (encode_entries s t) (entries_at R r n)
  entries_format R key value some = check_format (list_format (both_format key value) (entry_some s some t)) (is_sorted R)

  -- a map that is seen as a finite map, and made of it
  pub map_format : {M : Type 0} {R : K → K → Ordering} → IsTotalOrder R → CmpEqualImpliesEq R → Format F s r → Format G t n → ((k : K) → 1 ≤ length (s k))
      → (seen : M → FinMap R X) (model : FinMap R X → M) → ((m : FinMap R X) → seen (model m) ≡ m) → ((map : M) → model (seen map) ≡ map)
      → Format (λ map. FitsMap F G (seen map)) (λ map. encode_map s t (seen map)) (map_of_at R model r n)
  map_format {R} total exact key value some seen model there back =
      made_format (entries_format R key value some) (λ es. model (from_entries es)) (λ map. entries (seen map))
      (λ map fits. (ap model (own_entries R total exact (seen map)) ∙ back map, (fits, holds (is_sorted R (entries (seen map))) (entries_sorted (seen map)))))
      (λ es fits. let same : entries (seen (model (from_entries es))) ≡ es = ap entries (there (from_entries es)) ∙ entries_again R total exact es fits.1 in (same, subst (FitsItems (Both F G)) (sym same) fits.0))
