-- A text is unescaped byte by byte.
use Rattle.std.proofs.Common.{◌≡◌, ℕ, List, [], ◌∷◌, ◌++◌, Option, Some, None, option_map, refl, sym, ap, subst, ◌∙◌, append_assoc, append-nil, length, arith}
use Rattle.std.specs.Prelude.{IfSome}
use Rattle.std.specs.Str.{IsUtf8}
use Rattle.script_lines.specs.Escapes.{unescaped, onto}
use Rattle.script_lines.proofs.EscapeLaws.{unescaped-IsUtf8}

-- one byte more
one_more : (text : List ℕ) (b : ℕ) (o : Option (List ℕ)) → option_map (λ t. text ++ t) (onto b o) ≡ option_map (λ t. (text ++ b ∷ []) ++ t) o
one_more text b None = refl
one_more text b (Some t) = ap Some (sym (append_assoc text (b ∷ []) t))

pub goes_on : (all text : List ℕ) (rest : List ℕ) (b : ℕ) (others : List ℕ) → unescaped all ≡ option_map (λ t. text ++ t) (unescaped rest)
    → unescaped rest ≡ onto b (unescaped others) → unescaped all ≡ option_map (λ t. (text ++ b ∷ []) ++ t) (unescaped others)
goes_on all text rest b others so_far first = so_far ∙ ap (option_map (λ t. text ++ t)) first ∙ one_more text b (unescaped others)

no_bytes : (bytes : List ℕ) → length bytes ≡ 0 → bytes ≡ []
no_bytes [] e = refl
no_bytes (b ∷ bytes) e = absurd (omega arith)

pub stands_utf8 : (all text rest : List ℕ) → IsUtf8 all → unescaped all ≡ option_map (λ t. text ++ t) (unescaped rest) → length rest ≡ 0 → IsUtf8 text
stands_utf8 all text rest h so_far none =
    let is : unescaped all ≡ Some text = so_far ∙ ap (λ l. option_map (λ t. text ++ t) (unescaped l)) (no_bytes rest none) ∙ ap Some (append-nil text) in
    subst (λ o. IfSome o IsUtf8) is (unescaped-IsUtf8 all h)
