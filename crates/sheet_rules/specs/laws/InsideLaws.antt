-- What a sheet has is inside it.
use Rattle.std.proofs.Common.{◌≡◌, ℤ, pos, Bool, true, ◌&&◌, List, [], ◌∷◌, Option, Some, None, refl, ap, sym, arith, ◌∙◌}
use Rattle.std.specs.Prelude.{All, IsTrue}
use Rattle.std.specs.List.{list_all, AllByRecursion}
use Rattle.std.specs.Cmp.{int_cmp_total}
use Rattle.std.specs.FinMap.{FinMap, entries, get}
use Rattle.std.specs.Ordering.{int_cmp}
use Rattle.std.proofs.lemmas.Int.{ints}
use Rattle.std.proofs.lemmas.List.Elements.{recursion_from_All}
use Rattle.std.proofs.lemmas.Map.Lookups.{exact_signed}
use Rattle.base_values.specs.declared.Position.{Position}
use Rattle.base_values.specs.Places.{IsLine, IsPlace, is_line, position_cmp, is_place}
use Rattle.base_values.specs.laws.Places.{position_total, exact_positions}
use Rattle.sheet_rules.specs.laws.EntryLaws.{both, passes_at_from_all, all_from_passes_at}

line_passes : (last n : ℤ) → IsLine last n → is_line last n ≡ true
line_passes last n h = let a = h.0 in let b = h.1 in grind (arith, ints)

line_from_pass : (last n : ℤ) → is_line last n ≡ true → IsLine last n
line_from_pass last n h = (grind (arith, ints), grind (arith, ints))

place_passes : (p : Position) → IsPlace p → is_place p ≡ true
place_passes p h = (λ i. line_passes (pos 1048576) p.row h.0 i && is_line (pos 16384) p.column) ∙ line_passes (pos 16384) p.column h.1

place_from_pass : (p : Position) → is_place p ≡ true → IsPlace p
place_from_pass p h = let is = both _ _ h in (line_from_pass (pos 1048576) p.row is.0, line_from_pass (pos 16384) p.column is.1)

module _ {X : Type 0} where
  all_places : (es : List (Position × X)) → AllByRecursion (λ e. IsPlace e.0) es → list_all (λ e. is_place e.0) es ≡ true
  all_places [] h = refl
  all_places (e ∷ es) h = (λ i. place_passes e.0 h.0 i && list_all (λ f. is_place f.0) es) ∙ all_places es h.1

  -- places of the sheet pass the test
  pub places_pass : (es : List (Position × X)) → All (λ e. IsPlace e.0) es → list_all (λ e. is_place e.0) es ≡ true
  places_pass es h = all_places es (recursion_from_All (λ e. IsPlace e.0) es h)

  all_lines : (last : ℤ) (es : List (ℤ × X)) → AllByRecursion (λ e. IsLine last e.0) es → list_all (λ e. is_line last e.0) es ≡ true
  all_lines last [] h = refl
  all_lines last (e ∷ es) h = (λ i. line_passes last e.0 h.0 i && list_all (λ f. is_line last f.0) es) ∙ all_lines last es h.1

  -- so do lines of an axis
  pub lines_pass : (last : ℤ) (es : List (ℤ × X)) → All (λ e. IsLine last e.0) es → list_all (λ e. is_line last e.0) es ≡ true
  lines_pass last es h = all_lines last es (recursion_from_All (λ e. IsLine last e.0) es h)

  abbrev at_place : Position → Option X → Bool
  at_place p None = true
  at_place p (Some x) = is_place p

  -- a map whose entries pass has its keys inside the sheet
  pub places_from_test : (m : FinMap position_cmp X) → list_all (λ e. is_place e.0) (entries m) ≡ true → (p : Position) (x : X) → get m p ≡ Some x → IsPlace p
  places_from_test m all p x there =
      place_from_pass p (sym (ap (at_place p) there) ∙ passes_at_from_all position_cmp position_total exact_positions at_place (λ _. refl) m all p)

  -- and the entries pass of one that has
  pub test_from_places : (m : FinMap position_cmp X) → ((p : Position) (x : X) → get m p ≡ Some x → IsPlace p) → list_all (λ e. is_place e.0) (entries m) ≡ true
  test_from_places m inside = all_from_passes_at position_cmp position_total exact_positions at_place (λ _. refl) m (λ p. found p (get m p) refl)
    where
      found : (p : Position) (o : Option X) → get m p ≡ o → IsTrue (at_place p o)
      found p None is = refl
      found p (Some x) is = place_passes p (inside p x is)

  abbrev at_line : ℤ → ℤ → Option X → Bool
  at_line last n None = true
  at_line last n (Some x) = is_line last n

  -- so with lines
  pub lines_from_test : (last : ℤ) (m : FinMap int_cmp X) → list_all (λ e. is_line last e.0) (entries m) ≡ true → (n : ℤ) (x : X) → get m n ≡ Some x → IsLine last n
  lines_from_test last m all n x there =
      line_from_pass last n (sym (ap (at_line last n) there) ∙ passes_at_from_all int_cmp int_cmp_total exact_signed (at_line last) (λ _. refl) m all n)

  pub test_from_lines : (last : ℤ) (m : FinMap int_cmp X) → ((n : ℤ) (x : X) → get m n ≡ Some x → IsLine last n) → list_all (λ e. is_line last e.0) (entries m) ≡ true
  test_from_lines last m inside = all_from_passes_at int_cmp int_cmp_total exact_signed (at_line last) (λ _. refl) m (λ n. found n (get m n) refl)
    where
      found : (n : ℤ) (o : Option X) → get m n ≡ o → IsTrue (at_line last n o)
      found n None is = refl
      found n (Some x) is = line_passes last n (inside n x is)
