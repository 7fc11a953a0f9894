-- A number read digit by digit, and cut off at a bound.
use Rattle.std.proofs.Common.{◌≡◌, ℕ, ◌+◌, ◌*◌, ◌-◌, ◌<◌, min, List, [], ◌∷◌, length, get_or, drop, drop-cons, add-one, ap, sym, ◌∙◌, arith}
use Rattle.base_tables.specs.Word.{number_after}

-- a start that is as large as the bound may be cut off
pub capped : (cap n m : ℕ) (digits : List ℕ) → min n cap ≡ min m cap → min (number_after n digits) cap ≡ min (number_after m digits) cap
capped cap n m [] e = e
capped cap n m (c ∷ digits) e = capped cap (n * 10 + (c - 48)) (m * 10 + (c - 48)) digits (omega (arith, e))

-- one digit more
pub capped_turn : (most n i : ℕ) (digits : List ℕ) → i < length digits
    → min (number_after n (drop i digits)) most ≡ min (number_after (min (n * 10 + (get_or digits i 0 - 48)) most) (drop (i + 1) digits)) most
capped_turn most n i digits h =
    ap (λ (z : List ℕ). min (number_after n z) most) (drop-cons digits i 0 h ∙ ap (λ (j : ℕ). get_or digits i 0 ∷ drop j digits) (sym (add-one i)))
    ∙ capped most (n * 10 + (get_or digits i 0 - 48)) (min (n * 10 + (get_or digits i 0 - 48)) most) (drop (i + 1) digits) (omega arith)
