-- Reading items one after the other, as a loop does.
use Rattle.std.proofs.Common.{◌≡◌, ℕ, suc, ◌-◌, ◌+◌, ◌≤◌, ◌<◌, List, [], ◌∷◌, ◌++◌, Ok, Err, refl, sym, ap, ◌∙◌, append_assoc, arith}
use Rattle.std.proofs.lemmas.List.{append-nil}
use Rattle.base_values.specs.declared.EditError.{EditError}
use Rattle.base_wire.specs.Reads.{Read}
use Rattle.base_wire.specs.laws.Reading.{Reader, ◌>>=◌, many_at}

-- what was read before, and what is still read
abbrev pub with_front : {A : Type 0} → List A → Read (List A) → Read (List A)
with_front front read = read >>= λ x. Ok (front ++ x.0, x.1)

regroup : {A : Type 0} (front : List A) (n : A) (read : Read (List A)) → with_front front (read >>= λ x. Ok (n ∷ x.0, x.1)) ≡ with_front (front ++ n ∷ []) read
regroup {A} front n (Ok x) = ap (λ (ns : List A). Ok (ns, x.1)) (simp append_assoc)
regroup front n (Err f) = refl

module _ {A : Type 0} (read : Reader A) (front : List A) (count i : ℕ) (bytes : List ℕ) (total : Read (List A)) (so_far : with_front front (many_at read (count - i) bytes) ≡ total) where
  pub goes_on : (n : A) (after : List ℕ) → i < count → read bytes ≡ Ok (n, after) → with_front (front ++ n ∷ []) (many_at read (count - (i + 1)) after) ≡ total
  unfolding many_at
  goes_on n after lt h =
      let k : count - i ≡ suc (count - (i + 1)) = omega arith in
      let one : with_front front (many_at read (count - i) bytes) ≡ with_front (front ++ n ∷ []) (many_at read (count - (i + 1)) after) = rw (k, h) (regroup front n (many_at read (count - (i + 1)) after)) in
      sym one ∙ so_far

  pub ends : (e : EditError) → i < count → read bytes ≡ Err e → total ≡ Err e
  unfolding many_at
  ends e lt h =
      let k : count - i ≡ suc (count - (i + 1)) = omega arith in
      let one : with_front front (many_at read (count - i) bytes) ≡ Err e = rw (k, h) refl in
      sym so_far ∙ one

  pub is_done : count ≤ i → total ≡ Ok (front, bytes)
  unfolding many_at
  is_done le =
      let k : count - i ≡ 0 = omega arith in
      let one : with_front front (many_at read (count - i) bytes) ≡ Ok (front, bytes) = rw k (ap (λ (ns : List A). Ok (ns, bytes)) (append-nil front)) in
      sym so_far ∙ one
