-- Equality by folding, character by character.
use Rattle.std.proofs.Common.{◌≡◌, ℕ, Bool, true, false, List, [], ◌∷◌, ◌++◌, length, sym, ap, ◌∙◌, arith}
use Rattle.std.proofs.lemmas.Str.{chars-nil, chars_past_char}
use Rattle.std.specs.Prelude.{encode_utf8, nat_eq, ◌&&◌}
use Rattle.std.specs.Str.{chars, IsUtf8}
use Rattle.ucd_case.specs.CaseFolding.{simple_fold}
use Rattle.base_tables.specs.Tables.{same_text}
use Rattle.base_tables.specs.Folding.{folded, same_folded}

-- the bytes begin with a character, and the rest follows
pub record Begins (text : List ℕ) (c : ℕ) (rest : List ℕ) : Type 0 where
  pub valid : IsUtf8 text
  pub parts : text ≡ encode_utf8 c ++ rest

pub by_characters : (a b x y : List ℕ) → chars a ≡ x → chars b ≡ y → same_folded a b ≡ same_text (folded x) (folded y)
unfolding same_folded
by_characters a b x y e f = λ i. same_text (folded (e i)) (folded (f i))

first : (text : List ℕ) (c : ℕ) (rest : List ℕ) → Begins text c rest → chars text ≡ c ∷ chars rest
first text c rest h = chars_past_char text rest c h.valid h.parts

none : (text : List ℕ) → length text ≡ 0 → chars text ≡ []
none [] e = chars-nil
none (c ∷ text) e = absurd (omega arith)

same_fold : (m n : ℕ) (rest : Bool) → nat_eq m n ≡ true → nat_eq m n && rest ≡ rest
same_fold m n rest e = ap (λ (b : Bool). b && rest) e

other_fold : (m n : ℕ) (rest : Bool) → nat_eq m n ≡ false → nat_eq m n && rest ≡ false
other_fold m n rest e = ap (λ (b : Bool). b && rest) e

-- two characters that fold alike
pub fold_turn : (a b : List ℕ) (c d : ℕ) (x y : List ℕ) → Begins a c x → Begins b d y → nat_eq (simple_fold c) (simple_fold d) ≡ true → same_folded x y ≡ same_folded a b
unfolding same_folded
fold_turn a b c d x y g h e =
    sym (by_characters a b (c ∷ chars x) (d ∷ chars y) (first a c x g) (first b d y h) ∙ same_fold (simple_fold c) (simple_fold d) (same_text (folded (chars x)) (folded (chars y))) e)

-- two that do not
pub fold_differs : (a b : List ℕ) (c d : ℕ) (x y : List ℕ) → Begins a c x → Begins b d y → nat_eq (simple_fold c) (simple_fold d) ≡ false → false ≡ same_folded a b
fold_differs a b c d x y g h e =
    sym (by_characters a b (c ∷ chars x) (d ∷ chars y) (first a c x g) (first b d y h) ∙ other_fold (simple_fold c) (simple_fold d) (same_text (folded (chars x)) (folded (chars y))) e)

pub fold_longer : (a b : List ℕ) (c : ℕ) (x : List ℕ) → Begins a c x → length b ≡ 0 → false ≡ same_folded a b
fold_longer a b c x g e = sym (by_characters a b (c ∷ chars x) [] (first a c x g) (none b e))

-- both have ended
pub fold_end : (a b : List ℕ) → length a ≡ 0 → length b ≡ 0 → true ≡ same_folded a b
fold_end a b e f = sym (by_characters a b [] [] (none a e) (none b f))

pub fold_shorter : (a b : List ℕ) (d : ℕ) (y : List ℕ) → length a ≡ 0 → Begins b d y → false ≡ same_folded a b
fold_shorter a b d y e h = sym (by_characters a b [] (d ∷ chars y) (none a e) (first b d y h))
