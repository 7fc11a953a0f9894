-- Characters that are taken one after another, and numbers that are tried one after another.
use Rattle.std.proofs.Common.{◌≡◌, ℕ, zero, suc, ◌+◌, ◌-◌, Bool, true, false, cond, ◌||◌, List, [], ◌∷◌, ◌++◌, length, map, take, refl, ap, sym, ◌∙◌, append_assoc, append-nil, arith}
use Rattle.std.specs.List.{list_any}
use Rattle.std.specs.Char.{encode_utf8}
use Rattle.std.specs.Str.{chars, encode_utf8_all, IsUtf8}
use Rattle.std.proofs.lemmas.Str.{chars-nil, chars_past_char}
use Rattle.sheet_naming.specs.FreeNames.{least_free}

-- an element of a mapped list passes where one of the list does after the map
pub list_any-map : {X Y : Type 0} (test : X → Bool) (f : Y → X) (ys : List Y) → list_any test (map f ys) ≡ list_any (λ y. test (f y)) ys
list_any-map test f [] = refl
list_any-map test f (y ∷ ys) = ap (λ b. test (f y) || b) (list_any-map test f ys)

-- ---- characters

-- one more character is taken
pub one_taken : (taken text rest : List ℕ) (c more : ℕ) → IsUtf8 text → text ≡ encode_utf8 c ++ rest
    → (taken ++ encode_utf8 c) ++ encode_utf8_all (take more (chars rest)) ≡ taken ++ encode_utf8_all (take (suc more) (chars text))
one_taken taken text rest c more valid parts =
    append_assoc taken (encode_utf8 c) (encode_utf8_all (take more (chars rest)))
    ∙ ap (λ cs. taken ++ encode_utf8_all (take (suc more) cs)) (sym (chars_past_char text rest c valid parts))

-- none is left
pub none_left : (taken text : List ℕ) (more : ℕ) → length text ≡ 0 → taken ≡ taken ++ encode_utf8_all (take more (chars text))
none_left taken [] zero none = sym (append-nil taken)
none_left taken [] (suc more) none = sym (ap (λ cs. taken ++ encode_utf8_all (take (suc more) cs)) chars-nil ∙ append-nil taken)
none_left taken (c ∷ text) more none = absurd (omega (arith, none))

-- none is asked for
pub none_asked : (taken text : List ℕ) (more : ℕ) → more ≡ 0 → taken ≡ taken ++ encode_utf8_all (take more (chars text))
none_asked taken text zero none = sym (append-nil taken)
none_asked taken text (suc more) none = absurd (omega (arith, none))

-- ---- numbers

-- a number that is free is the one
pub least_here : (taken : ℕ → Bool) (n more : ℕ) → taken n ≡ false → least_free taken n more ≡ n
least_here taken n zero free = refl
least_here taken n (suc more) free = ap (λ b. cond b (least_free taken (n + 1) more) n) free

-- one that is taken is not
pub least_next : (taken : ℕ → Bool) (n more left : ℕ) → left ≡ suc more → taken n ≡ true → least_free taken n left ≡ least_free taken (n + 1) more
least_next taken n more left one hit = ap (least_free taken n) one ∙ ap (λ b. cond b (least_free taken (n + 1) more) n) hit

-- the last one that is tried is
pub least_last : (taken : ℕ → Bool) (n left : ℕ) → left ≡ 0 → least_free taken n left ≡ n
least_last taken n left none = ap (least_free taken n) none
