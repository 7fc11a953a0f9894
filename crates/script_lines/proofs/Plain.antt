-- Texts that stand for themselves, and texts that are written as they are.
use Rattle.std.proofs.Common.{◌≡◌, ℕ, ◌==◌, Bool, true, false, List, [], ◌∷◌, Some, refl, ap, ◌∙◌}
use Rattle.std.specs.Prelude.{IsTrue, not, ◌||◌}
use Rattle.std.specs.List.{list_any}
use Rattle.script_lines.specs.Escapes.{needs_escape, escaped, unescaped, onto}
use Rattle.script_lines.proofs.EscapeLaws.{unescaped-byte}

pub plain_unescaped : (bytes : List ℕ) → list_any (λ b. b == 92) bytes ≡ false → unescaped bytes ≡ Some bytes
plain_unescaped [] none = refl
plain_unescaped (b ∷ bytes) none = go (plain_unescaped bytes) (b == 92) refl none
  where
    go : (list_any (λ c. c == 92) bytes ≡ false → unescaped bytes ≡ Some bytes)
        → (t : Bool) → b == 92 ≡ t → (t || list_any (λ c. c == 92) bytes) ≡ false → unescaped (b ∷ bytes) ≡ Some (b ∷ bytes)
    go rest true is e = absurd (let never : true ≡ false = e in cc)
    go rest false is e = unescaped-byte b bytes is ∙ ap (onto b) (rest e)

pub stands_for_itself : (bytes : List ℕ) (t : Bool) → t ≡ not (list_any (λ b. b == 92) bytes) → IsTrue t → unescaped bytes ≡ Some bytes
stands_for_itself bytes t is true_ = plain_unescaped bytes (go (list_any (λ b. b == 92) bytes) is true_)
  where
    go : (found : Bool) → t ≡ not found → t ≡ true → found ≡ false
    go false e h = refl
    go true e h = absurd (cc)

-- a text without a line feed and a backslash is written as it is
pub plain_escaped : (text : List ℕ) → list_any needs_escape text ≡ false → escaped text ≡ text
plain_escaped [] plain = refl
plain_escaped (b ∷ text) plain = go (plain_escaped text) (b == 10) refl (b == 92) refl plain
  where
    go : (list_any needs_escape text ≡ false → escaped text ≡ text) → (n : Bool) → (b == 10) ≡ n → (s : Bool) → (b == 92) ≡ s
        → ((n || s) || list_any needs_escape text) ≡ false → escaped (b ∷ text) ≡ b ∷ text
    go rest true e s f plain = absurd cc
    go rest false e true f plain = absurd cc
    go rest false e false f plain = rw (e, f) (ap (λ t. b ∷ t) (rest plain))
