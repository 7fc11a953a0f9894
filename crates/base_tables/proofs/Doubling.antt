-- The characters of a name, each quote twice, as they are written one by one.
use Rattle.std.proofs.Common.{◌≡◌, ℕ, List, [], ◌∷◌, ◌++◌, ap, sym, ◌∙◌, append-nil, append_assoc}
use Rattle.std.specs.Prelude.{encode_utf8, encode_utf8_all}
use Rattle.std.proofs.lemmas.Grind.{flat_map-append}
use Rattle.std.proofs.lemmas.Str.{encodes-append}
use Rattle.base_tables.specs.Word.{twice, doubled}

doubled_more : (quote : ℕ) (text : List ℕ) (c : ℕ) → doubled quote (text ++ c ∷ []) ≡ doubled quote text ++ twice quote c
doubled_more quote text c = flat_map-append (twice quote) text (c ∷ []) ∙ ap (λ (z : List ℕ). doubled quote text ++ z) (append-nil (twice quote c))

pub doubled_turn : (quote : ℕ) (old new before text : List ℕ) (c : ℕ) → before ≡ old ++ encode_utf8_all (doubled quote text) → new ≡ before ++ encode_utf8_all (twice quote c)
    → new ≡ old ++ encode_utf8_all (doubled quote (text ++ c ∷ []))
doubled_turn quote old new before text c e f =
    f ∙ ap (λ (z : List ℕ). z ++ encode_utf8_all (twice quote c)) e ∙ append_assoc old (encode_utf8_all (doubled quote text)) (encode_utf8_all (twice quote c))
    ∙ ap (λ (z : List ℕ). old ++ z) (sym (encodes-append (doubled quote text) (twice quote c)) ∙ sym (ap encode_utf8_all (doubled_more quote text c)))

-- a quote, the text and a quote, written one after the other
pub quoted_bytes : (empty first next last text : List ℕ) → empty ≡ [] → first ≡ empty ++ encode_utf8 39 → next ≡ first ++ encode_utf8_all text → last ≡ next ++ encode_utf8 39 → last ≡ encode_utf8_all (39 ∷ text ++ 39 ∷ [])
quoted_bytes empty first next last text a b c d =
    let front : first ≡ encode_utf8 39 = b ∙ ap (λ (z : List ℕ). z ++ encode_utf8 39) a in
    let end : encode_utf8_all (text ++ 39 ∷ []) ≡ encode_utf8_all text ++ encode_utf8 39 = encodes-append text (39 ∷ []) ∙ ap (λ (z : List ℕ). encode_utf8_all text ++ z) (append-nil (encode_utf8 39)) in
    d ∙ ap (λ (z : List ℕ). z ++ encode_utf8 39) (c ∙ ap (λ (z : List ℕ). z ++ encode_utf8_all text) front)
    ∙ append_assoc (encode_utf8 39) (encode_utf8_all text) (encode_utf8 39) ∙ ap (λ (z : List ℕ). encode_utf8 39 ++ z) (sym end)
