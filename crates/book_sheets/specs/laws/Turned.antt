-- Where two are not the same in one order, they are not in the other.
use Rattle.std.proofs.Common.{◌≡◌, ℕ, Bool, true, false, List, refl, sym, ◌∙◌, true≢false}
use Rattle.std.specs.Prelude.{◌==◌}
use Rattle.std.specs.Bool.{Decides}
use Rattle.std.specs.Cmp.{unsigned_Decides}
use Rattle.base_tables.specs.Folding.{SameFolded, same_folded}
use Rattle.base_tables.specs.laws.Folding.{same_folded_decides}

turned : {X : Type 0} (same : X → X → Bool) (P : X → X → Type 0) → ((a b : X) → Decides (same a b) (P a b)) → ((a b : X) → P a b → P b a) → (a b : X) → same a b ≡ false → same b a ≡ false
turned same P decides other_way a b apart = go (same b a) refl
  where
    go : (t : Bool) → same b a ≡ t → t ≡ false
    go true is = absurd (true≢false (sym ((decides a b).1 (other_way b a ((decides b a).0 is))) ∙ apart))
    go false is = refl

-- so it is with ids
pub ids_turned : (a b : ℕ) → (a == b) ≡ false → (b == a) ≡ false
ids_turned = turned ◌==◌ (λ a b. a ≡ b) unsigned_Decides (λ a b same. sym same)

-- and with names
pub names_turned : (a b : List ℕ) → same_folded a b ≡ false → same_folded b a ≡ false
names_turned = turned same_folded SameFolded same_folded_decides (λ a b same. sym same)
