-- Characters, each by what becomes of it, as they are written one by one.
use Rattle.std.proofs.Common.{◌≡◌, ℕ, ◌+◌, ◌<◌, List, [], ◌∷◌, ◌++◌, length, take, get_or, map, refl, ap, sym, ◌∙◌, append-nil, append_assoc, add-one}
use Rattle.std.specs.Prelude.{encode_utf8, encode_utf8_all}
use Rattle.std.proofs.Math.Seq.{take-suc}
use Rattle.std.proofs.lemmas.List.{map-append}
use Rattle.std.proofs.lemmas.Str.{encodes-append}

-- one character more
pub mapped_turn : (f : ℕ → ℕ) (old text before new : List ℕ) (i : ℕ) → i < length text → before ≡ old ++ encode_utf8_all (map f (take i text)) → new ≡ before ++ encode_utf8 (f (get_or text i 0))
    → new ≡ old ++ encode_utf8_all (map f (take (i + 1) text))
mapped_turn f old text before new i h e g =
    let front = map f (take i text) in
    let c = f (get_or text i 0) in
    let more : map f (take (i + 1) text) ≡ front ++ c ∷ [] =
    ap (λ (n : ℕ). map f (take n text)) (add-one i) ∙ ap (map f) (take-suc text i 0 h) ∙ map-append f (take i text) (get_or text i 0 ∷ []) in
    let all : encode_utf8_all (map f (take (i + 1) text)) ≡ encode_utf8_all front ++ encode_utf8 c =
    ap encode_utf8_all more ∙ encodes-append front (c ∷ []) ∙ ap (λ (x : List ℕ). encode_utf8_all front ++ x) (append-nil (encode_utf8 c)) in
    g ∙ ap (λ (x : List ℕ). x ++ encode_utf8 c) e ∙ append_assoc old (encode_utf8_all front) (encode_utf8 c) ∙ ap (λ (x : List ℕ). old ++ x) (sym all)

unchanged : (f : ℕ → ℕ) → ((c : ℕ) → f c ≡ c) → (text : List ℕ) → map f text ≡ text
unchanged f same [] = refl
unchanged f same (c ∷ text) = ap (λ (x : ℕ). x ∷ map f text) (same c) ∙ ap (λ (x : List ℕ). c ∷ x) (unchanged f same text)

-- a character, and others as they are
pub first_and_rest : (f : ℕ → ℕ) → ((c : ℕ) → f c ≡ c) → (old before new rest : List ℕ) (c : ℕ) → before ≡ old ++ encode_utf8 c → new ≡ before ++ encode_utf8_all (map f rest) → new ≡ old ++ encode_utf8_all (c ∷ rest)
first_and_rest f same old before new rest c e g =
    g ∙ ap (λ (x : List ℕ). before ++ encode_utf8_all x) (unchanged f same rest) ∙ ap (λ (x : List ℕ). x ++ encode_utf8_all rest) e ∙ append_assoc old (encode_utf8 c) (encode_utf8_all rest)
