-- The characters of a text but one, as they are written one by one.
use Rattle.std.proofs.Common.{◌≡◌, ℕ, Bool, List, [], ◌∷◌, ◌++◌, ap, sym, ◌∙◌, append_assoc}
use Rattle.std.specs.Prelude.{encode_utf8_all, filter}
use Rattle.std.proofs.lemmas.List.Elements.{filter-append}
use Rattle.std.proofs.lemmas.Str.{encodes-append}

-- one character more
pub others_turn : (p : ℕ → Bool) (old text before new : List ℕ) (c : ℕ) → before ≡ old ++ encode_utf8_all (filter p text) → new ≡ before ++ encode_utf8_all (filter p (c ∷ []))
    → new ≡ old ++ encode_utf8_all (filter p (text ++ c ∷ []))
others_turn p old text before new c e f =
    let more : encode_utf8_all (filter p (text ++ c ∷ [])) ≡ encode_utf8_all (filter p text) ++ encode_utf8_all (filter p (c ∷ [])) =
    ap encode_utf8_all (filter-append p text (c ∷ [])) ∙ encodes-append (filter p text) (filter p (c ∷ [])) in
    f ∙ ap (λ (x : List ℕ). x ++ encode_utf8_all (filter p (c ∷ []))) e ∙ append_assoc old (encode_utf8_all (filter p text)) (encode_utf8_all (filter p (c ∷ [])))
    ∙ ap (λ (x : List ℕ). old ++ x) (sym more)
