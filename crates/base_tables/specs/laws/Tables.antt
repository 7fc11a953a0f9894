-- Laws of tables of named entries.
use Rattle.std.proofs.Common.{refl, sym, ap, subst, add-zero, ◌∙◌, arith, ◌≡◌, ℕ, zero, suc, ◌+◌, ◌&&◌, Bool, true, false, cond, Option, Some, None, List, [], ◌∷◌}
use Rattle.std.specs.Prelude.{IfSome, nat_eq, slice_get}
use Rattle.std.specs.List.{find}
use Rattle.std.proofs.lemmas.Bool.Decides.{nat_tests}
use Rattle.std.specs.Cmp.Lexicographic.{bytes_decides}
use Rattle.base_tables.specs.Tables.{same_text, entry_named}

module _ {T : Type 0} (p : T → Bool) where
  found_first : (first entry : T) (b : Bool) (rest : Option T) → p first ≡ b → (rest ≡ Some entry → p entry ≡ true) → cond b (Some first) rest ≡ Some entry → p entry ≡ true
  found_first first entry true rest is h e = let same : first ≡ entry = cc in subst (λ x. p x ≡ true) same is
  found_first first entry false rest is h e = h e

  -- what is found passes
  pub find_passes : (table : List T) (entry : T) → find p table ≡ Some entry → p entry ≡ true
  find_passes [] entry e = cc
  find_passes (first ∷ table) entry e = found_first first entry (p first) (find p table) refl (find_passes table entry) e

-- the entry that is found has the name
pub found_name : {T : Type 0} (name_of : T → List ℕ) (table : List T) (text : List ℕ) (entry : T) → entry_named name_of table text ≡ Some entry → name_of entry ≡ text
found_name name_of table text entry e = (bytes_decides _ _).0 (find_passes (λ entry. same_text (name_of entry) text) table entry e)

-- ---- tests of two parts

pub both : (a b : Bool) → a ≡ true → b ≡ true → a && b ≡ true
both a b e f = ap (λ x. x && b) e ∙ f

pub both_parts : (a b : Bool) → a && b ≡ true → (a ≡ true) × (b ≡ true)
both_parts true b e = (refl, e)
both_parts false b e = cc

-- ---- tables by number

-- whether the codes of the entries count up from a number
abbrev pub is_numbered : {T : Type 0} → (T → ℕ) → ℕ → List T → Bool
is_numbered code_of first [] = true
is_numbered code_of first (entry ∷ table) = nat_eq (code_of entry) first && is_numbered code_of (suc first) table

same_number : (a b : ℕ) → nat_eq a b ≡ true → a ≡ b
same_number a b e = grind (arith, nat_tests)

some_is : {A : Type 0} (p q : A) → Some p ≡ Some q → p ≡ q
some_is p q e = cc

-- what holds of each value that an option may have
pub if_some : {A : Type 0} (P : A → Type 0) (found : Option A) → ((x : A) → found ≡ Some x → P x) → IfSome found P
if_some P None h = tt
if_some P (Some x) h = h x refl

suc_over : (a b : ℕ) → a + suc b ≡ suc a + b
suc_over a b = omega arith

module _ {T : Type 0} (code_of : T → ℕ) where
  found_from : (first : ℕ) (table : List T) (place : ℕ) (entry : T) → is_numbered code_of first table ≡ true → slice_get table place ≡ Some entry → code_of entry ≡ first + place
  found_from first [] place entry h e = absurd cc
  found_from first (x ∷ table) zero entry h e = ap code_of (sym (some_is x entry e)) ∙ same_number (code_of x) first (both_parts _ _ h).0 ∙ sym (add-zero first)
  found_from first (x ∷ table) (suc place) entry h e = found_from (suc first) table place entry (both_parts _ _ h).1 e ∙ sym (suc_over first place)

  -- an entry of a numbered table stands at its number
  pub found_number : (table : List T) → is_numbered code_of 0 table ≡ true → (place : ℕ) (entry : T) → slice_get table place ≡ Some entry → code_of entry ≡ place
  found_number table h place entry e = found_from 0 table place entry h e ∙ omega arith
