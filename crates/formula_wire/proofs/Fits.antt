-- Values of Rust's own types pass the tests of what bytes can carry.
use Rattle.std.proofs.Common.{◌≡◌, ℕ, ◌^◌, ◌<◌, Bool, true, false, List, [], ◌∷◌, length, refl, sym, arith}
use Rattle.std.specs.Prelude.{FitsSigned}
use Rattle.std.specs.Int.{w32}
use Rattle.std.specs.List.{list_all, AllByRecursion}
use Rattle.std.proofs.lemmas.Bool.{and_parts, and_from, lt-ltb}
use Rattle.std.proofs.lemmas.List.Folds.{list_all_more}
use Rattle.formula_tree.specs.declared.Corner.{Corner}
use Rattle.formula_tree.specs.declared.ArrayItem.{ArrayItem}
use Rattle.formula_tree.specs.declared.Parameter.{Parameter}
use Rattle.base_wire.specs.Encoding.{Any, FitsItems, FitsText}
use Rattle.base_wire.specs.Forms.{is_text, is_list}
use Rattle.base_wire.specs.laws.Form.{Passes, each_passes, items_out, text_passes}
use Rattle.formula_wire.specs.Carried.{is_corner, is_item, is_parameter}
use Rattle.formula_wire.specs.laws.CanonicalLaws.{lines_kept}
use Rattle.formula_wire.specs.laws.CanonicalNumbers.{is_canonical_item}
use Rattle.formula_wire.specs.laws.PartLaws.{signed_passes}

pub text_carried : (text : List ℕ) → FitsText text → is_text text ≡ true
text_carried = text_passes

pub corner_carried : (corner : Corner) → FitsSigned w32 corner.row → FitsSigned w32 corner.column → is_corner corner ≡ true
corner_carried corner row column = and_from _ _ (signed_passes corner.row row) (signed_passes corner.column column)

-- a list of Rust passes where its items do
pub list_carried : {A : Type 0} (test : A → Bool) (xs : List A) (b : Bool) → length xs < 2 ^ 63 → list_all test xs ≡ b → is_list test xs ≡ b
list_carried test xs b short same = rw (lt-ltb (length xs) (2 ^ 64) (omega arith)) same

pub ruleset lists = (list_carried, list_all_more)

both_ways : (a b : Bool) → (a ≡ true → b ≡ true) → (b ≡ true → a ≡ true) → a ≡ b
both_ways true b there back = sym (there refl)
both_ways false true there back = back refl
both_ways false false there back = refl

each_line : (lines : List (List ArrayItem)) → list_all (list_all is_canonical_item) lines ≡ true → AllByRecursion (AllByRecursion (Passes is_canonical_item)) lines
each_line [] h = tt
each_line (line ∷ lines) h = let p = and_parts (list_all is_canonical_item line) (list_all (list_all is_canonical_item) lines) h in (each_passes is_canonical_item line p.0, each_line lines p.1)

lines_out : (lines : List (List ArrayItem)) → AllByRecursion (FitsItems (Passes is_item)) lines → AllByRecursion (Passes (is_list is_item)) lines
lines_out [] h = tt
lines_out (line ∷ lines) h = (items_out is_item line h.0, lines_out lines h.1)

-- of an array of Rust's own types only the numbers may not fit
pub lines_carried : (lines : List (List ArrayItem)) → (AllByRecursion (AllByRecursion (Passes is_canonical_item)) lines → FitsItems (FitsItems (Passes is_item)) lines) → is_list (is_list is_item) lines ≡ list_all (list_all is_canonical_item) lines
lines_carried lines fit = both_ways _ _ (lines_kept lines) (λ h. let fits = fit (each_line lines h) in items_out (is_list is_item) lines (record { short = fits.short; each = lines_out lines fits.each }))

every : {A : Type 0} (xs : List A) → AllByRecursion Any xs
every [] = tt
every (x ∷ xs) = (tt, every xs)

-- parameters of Rust's own types fit
pub parameters_carried : (parameters : List Parameter) → (AllByRecursion Any parameters → FitsItems (Passes is_parameter) parameters) → is_list is_parameter parameters ≡ true
parameters_carried parameters fit = items_out is_parameter parameters (fit (every parameters))
