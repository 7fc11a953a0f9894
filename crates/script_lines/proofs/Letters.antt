-- The letters at the front.
use Rattle.std.proofs.Common.{◌≡◌, ℕ, ◌+◌, suc, Bool, true, false, cond, List, [], ◌∷◌, take, refl, ap, ◌∙◌, arith}
use Rattle.std.specs.Prelude.{◌&&◌}
use Rattle.std.specs.List.{list_all, prefix_len}
use Rattle.base_tables.specs.Column.{is_letter}
use Rattle.script_lines.specs.References.{letters_of}

front : (p : ℕ → Bool) (bytes : List ℕ) → list_all p (take (prefix_len p bytes) bytes) ≡ true
front p [] = refl
front p (b ∷ bytes) = by (front p bytes) (p b) refl
  where
    by : list_all p (take (prefix_len p bytes) bytes) ≡ true → (t : Bool) → p b ≡ t → list_all p (take (cond t (1 + prefix_len p bytes) 0) (b ∷ bytes)) ≡ true
    by rest true e =
        let more : 1 + prefix_len p bytes ≡ suc (prefix_len p bytes) = omega arith in
        ap (λ n. list_all p (take n (b ∷ bytes))) more ∙ ap (λ t. t && list_all p (take (prefix_len p bytes) bytes)) e ∙ rest
    by rest false e = refl

pub all_letters : (bytes : List ℕ) → list_all is_letter (letters_of bytes) ≡ true
all_letters bytes = front is_letter bytes
