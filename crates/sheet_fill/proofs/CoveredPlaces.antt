-- Which places of the source are covered, in a list.
use Rattle.std.proofs.Common.{◌≡◌, ◌⊎◌, inl, inr, ℕ, zero, suc, ◌<◌, ◌%◌, Bool, List, [], ◌∷◌, ◌++◌, length, get_or, refl, ap, sym, subst, ◌∙◌, arith}
use Rattle.std.proofs.Math.Nat.{mod-eq_of_lt, mod-lt}
use Rattle.std.proofs.Math.ListN.{get_or-append}
use Rattle.std.proofs.Math.Seq.{get_or-append_seam}
use Rattle.base_values.specs.declared.Position.{Position}
use Rattle.base_axis.specs.Along.{Along}
use Rattle.sheet_grid.specs.Merges.{is_covered}
use Rattle.sheet_grid.specs.Sheet.{Sheet}
use Rattle.sheet_fill.specs.declared.range.FillRange.{FillRange}
use Rattle.sheet_fill.specs.FillRanges.{counted_line, lines}
use Rattle.base_axis.specs.Rectangles.{first_line, last_line}
use Rattle.sheet_fill.specs.Targets.{covered_among, source_covered}

length_more : {A : Type 0} (xs : List A) (x : A) → length (xs ++ x ∷ []) ≡ suc (length xs)
length_more [] x = refl
length_more (y ∷ xs) x = ap suc (length_more xs x)

module _ (a : Along) (f : FillRange) (sheet : Sheet) (at : Position) where
  pub hidden_len : (n : ℕ) → length (covered_among a f sheet at n) ≡ n
  hidden_len zero = refl
  hidden_len (suc n) = length_more (covered_among a f sheet at n) (source_covered a f sheet at n) ∙ ap suc (hidden_len n)

  -- what the list has at an index
  hidden_at : (n k : ℕ) (d : Bool) → k < n → get_or (covered_among a f sheet at n) k d ≡ source_covered a f sheet at k
  hidden_at zero k d below = absurd (omega arith)
  hidden_at (suc n) k d below = go (hidden_at n k d) (last_or_before n k below)
    where
      last_or_before : (n k : ℕ) → k < suc n → (k < n) ⊎ (k ≡ n)
      last_or_before zero zero h = inr refl
      last_or_before zero (suc k) h = absurd (omega arith)
      last_or_before (suc n) zero h = inl (omega arith)
      last_or_before (suc n) (suc k) h = go_up (last_or_before n k (omega arith))
        where
          go_up : (k < n) ⊎ (k ≡ n) → (suc k < suc n) ⊎ (suc k ≡ suc n)
          go_up (inl less) = inl (omega arith)
          go_up (inr same) = inr (ap suc same)

      go : (k < n → get_or (covered_among a f sheet at n) k d ≡ source_covered a f sheet at k) → (k < n) ⊎ (k ≡ n) → get_or (covered_among a f sheet at n ++ source_covered a f sheet at n ∷ []) k d ≡ source_covered a f sheet at k
      go rest (inl less) =
          get_or-append (covered_among a f sheet at n) (source_covered a f sheet at n ∷ []) d k (subst (λ m. k < m) (sym (hidden_len n)) less)
          ∙ rest less
      go rest (inr same) =
          subst (λ m. get_or (covered_among a f sheet at n ++ source_covered a f sheet at n ∷ []) m d ≡ source_covered a f sheet at m) (sym same)
          (subst (λ m. get_or (covered_among a f sheet at n ++ source_covered a f sheet at n ∷ []) m d ≡ source_covered a f sheet at n) (hidden_len n)
          (get_or-append_seam (covered_among a f sheet at n) (source_covered a f sheet at n) [] d))

  -- a target repeats what its turn in the repetition does
  turn_again : (n : ℕ) → 0 < lines a f.source → source_covered a f sheet at (n % lines a f.source) ≡ source_covered a f sheet at n
  turn_again n some =
      ap (λ turn. is_covered sheet.merges (a.with_line at (counted_line f.is_behind (first_line a f.source) (last_line a f.source) turn)))
      (mod-eq_of_lt (mod-lt n some))

  -- so the list tells of each target
  pub hidden_again : (n : ℕ) (d : Bool) → 0 < lines a f.source → get_or (covered_among a f sheet at (lines a f.source)) (n % lines a f.source) d ≡ source_covered a f sheet at n
  hidden_again n d some = hidden_at (lines a f.source) (n % lines a f.source) d (mod-lt n some) ∙ turn_again n some
