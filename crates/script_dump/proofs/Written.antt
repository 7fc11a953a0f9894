-- A list written entry by entry.
use Rattle.std.proofs.Common.{◌≡◌, ◌∷◌, ◌++◌, List, ℕ, sym, ap, ◌∙◌, append_assoc}
use Rattle.std.specs.List.{flat_map}

-- what is written and what is left make the whole, also after one more entry
pub written_more : {X : Type 0} (f : X → List ℕ) (before after whole : List ℕ) (entry : X) (rest left : List X)
    → left ≡ entry ∷ rest → after ≡ before ++ f entry → before ++ flat_map f left ≡ whole → after ++ flat_map f rest ≡ whole
written_more f before after whole entry rest left step written so_far =
    ap (λ text. text ++ flat_map f rest) written
    ∙ append_assoc before (f entry) (flat_map f rest)
    ∙ ap (λ entries. before ++ flat_map f entries) (sym step)
    ∙ so_far
