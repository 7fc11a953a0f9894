-- Entries written one by one.
use Rattle.std.proofs.Common.{◌≡◌, ℕ, List, ◌∷◌, ◌++◌, sym, ap, ◌∙◌, append_assoc}
use Rattle.std.specs.List.{flat_map}

-- what is written and what is left make the whole, also after one more entry
pub written_on : {X : Type 0} (f : X → List ℕ) (before after whole : List ℕ) (entry : X) (rest left : List X) → left ≡ entry ∷ rest → after ≡ before ++ f entry → before ++ flat_map f left ≡ whole → after ++ flat_map f rest ≡ whole
written_on f before after whole entry rest left step written so_far =
    ap (λ (bytes : List ℕ). bytes ++ flat_map f rest) written ∙ append_assoc before (f entry) (flat_map f rest)
    ∙ ap (λ (es : List _). before ++ flat_map f es) (sym step) ∙ so_far
