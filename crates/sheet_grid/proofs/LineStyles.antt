-- A walk that gives every column a style.
use Rattle.std.proofs.Common.{◌≡◌, ◌≢◌, ℕ, ℤ, pos, suc, Bool, true, false, cond, ◌&&◌, Option, Some, None, refl, ap, sym, subst, ◌∙◌, arith}
use Rattle.std.specs.Prelude.{is_none}
use Rattle.std.specs.Cmp.{int_cmp_total, tied_itself}
use Rattle.std.specs.declared.cmp.Ordering.TheVariants.{Equal}
use Rattle.std.specs.Ordering.{int_cmp, eq_by_cmp}
use Rattle.std.specs.FinMap.{FinMap, get}
use Rattle.std.proofs.lemmas.Bool.Decides.{nat_tests}
use Rattle.std.proofs.lemmas.Int.{ints}
use Rattle.std.proofs.lemmas.Map.Lookups.{exact_signed}
use Rattle.std.proofs.lemmas.Map.Views.{tells_apart}
use Rattle.base_styles.specs.declared.Style.{Style}
use Rattle.base_values.specs.laws.KeyMap.{get-with_entry}
use Rattle.base_values.specs.Places.{is_line}
use Rattle.sheet_grid.specs.declared.line_attr.LineAttr.{LineAttr}
use Rattle.sheet_grid.specs.Lines.{AllStyled, attr_of, stored_line, with_change, with_style}

-- no line is before the first
none_before : (line : ℤ) → is_line (pos 0) line ≡ false
none_before line = grind (arith, ints, nat_tests)

-- a line is among so many and one more where it is among so many, but for the last
same_below : (n : ℕ) (line : ℤ) → line ≢ pos (suc n) → is_line (pos (suc n)) line ≡ is_line (pos n) line
same_below n line differs = grind (arith, ints, nat_tests)

last_inside : (n : ℕ) → is_line (pos (suc n)) (pos (suc n)) ≡ true
last_inside n = grind (arith, ints, nat_tests)

next_outside : (n : ℕ) → is_line (pos n) (pos (suc n)) ≡ false
next_outside n = grind (arith, ints, nat_tests)

-- a line with a style is never plain
kept_styled : (style : Style) (attr : LineAttr) → stored_line (Some (with_style (Some style) attr)) ≡ Some (with_style (Some style) attr)
kept_styled style attr = go (is_none attr.size)
  where
    go : (b : Bool) → cond (b && false) None (Some (with_style (Some style) attr)) ≡ Some (with_style (Some style) attr)
    go true = refl
    go false = refl

-- before the walk no column has the style from it
pub styled_before : (style : Style) (lines : FinMap int_cmp LineAttr) → AllStyled (pos 0) style lines lines
styled_before style lines line = sym (ap (λ b. cond b (Some (with_style (Some style) (attr_of (get lines line)))) (get lines line)) (none_before line))

-- one more line gets it
pub styled_on : (style : Style) (old new : FinMap int_cmp LineAttr) (n : ℕ) → AllStyled (pos n) style old new
    → AllStyled (pos (suc n)) style old (with_change new (pos (suc n)) (with_style (Some style)))
styled_on style old new n so_far line =
    get-with_entry int_cmp_total new (pos (suc n)) (stored_line (Some (with_style (Some style) (attr_of (get new (pos (suc n))))))) line
    ∙ go (eq_by_cmp int_cmp line (pos (suc n))) refl
  where
    styled : ℤ → Option LineAttr
    styled at = Some (with_style (Some style) (attr_of (get old at)))

    own : get new (pos (suc n)) ≡ get old (pos (suc n))
    own = so_far (pos (suc n)) ∙ ap (λ b. cond b (styled (pos (suc n))) (get old (pos (suc n)))) (next_outside n)

    entry : stored_line (Some (with_style (Some style) (attr_of (get new (pos (suc n)))))) ≡ styled (pos (suc n))
    entry = kept_styled style (attr_of (get new (pos (suc n)))) ∙ ap (λ (o : Option LineAttr). Some (with_style (Some style) (attr_of o))) own

    at_last : (at : ℤ) → at ≡ pos (suc n) → styled (pos (suc n)) ≡ cond (is_line (pos (suc n)) at) (styled at) (get old at)
    at_last at is = subst (λ (z : ℤ). styled (pos (suc n)) ≡ cond (is_line (pos (suc n)) z) (styled z) (get old z)) (sym is) (sym (ap (λ b. cond b (styled (pos (suc n))) (get old (pos (suc n)))) (last_inside n)))

    go : (b : Bool) → eq_by_cmp int_cmp line (pos (suc n)) ≡ b
        → cond b (stored_line (Some (with_style (Some style) (attr_of (get new (pos (suc n))))))) (get new line) ≡ cond (is_line (pos (suc n)) line) (styled line) (get old line)
    go true e = entry ∙ at_last line (tells_apart exact_signed line (pos (suc n)) e)
    go false e =
        so_far line
        ∙ sym (ap (λ b. cond b (styled line) (get old line)) (same_below n line (λ is. absurd (let apart : eq_by_cmp int_cmp (pos (suc n)) (pos (suc n)) ≡ false = subst (λ (z : ℤ). eq_by_cmp int_cmp z (pos (suc n)) ≡ false) is e in let tied : int_cmp (pos (suc n)) (pos (suc n)) ≡ Equal = tied_itself int_cmp_total (pos (suc n)) in cc))))
