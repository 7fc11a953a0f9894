-- What parts encode that are written one after another.
use Rattle.std.proofs.Common.{◌≡◌, List, ℕ, ◌++◌, ap, ◌∙◌, append_assoc}

-- a part, and what is written after it
followed : (out part rest between later : List ℕ) → between ≡ out ++ part → later ≡ between ++ rest → later ≡ out ++ (part ++ rest)
followed out part rest between later first after = after ∙ ap (λ (bytes : List ℕ). bytes ++ rest) first ∙ append_assoc out part rest

-- three parts
pub three_joined : (out a b d x y z : List ℕ) → x ≡ out ++ a → y ≡ x ++ b → z ≡ y ++ d → z ≡ out ++ (a ++ (b ++ d))
three_joined out a b d x y z first second third = followed out a (b ++ d) x z first (followed x b d y z second third)

-- four parts
pub four_joined : (out a b d e x y z w : List ℕ) → x ≡ out ++ a → y ≡ x ++ b → z ≡ y ++ d → w ≡ z ++ e → w ≡ out ++ (a ++ (b ++ (d ++ e)))
four_joined out a b d e x y z w first second third fourth = followed out a (b ++ (d ++ e)) x w first (three_joined x b d e y z w second third fourth)
