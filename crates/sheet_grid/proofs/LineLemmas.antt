-- A change of one line leaves what the others have.
use Rattle.std.proofs.Common.{◌≡◌, ℤ, Bool, true, false, cond, Option, Result, Ok, Err, refl, ap, ◌∙◌, w32, SFits, to_z, of_z}
use Rattle.std.specs.Prelude.{OnOk, OnErr}
use Rattle.std.specs.Cmp.{int_cmp_total}
use Rattle.std.specs.Ordering.{int_cmp, eq_by_cmp}
use Rattle.std.specs.FinMap.{FinMap, get}
use Rattle.std.proofs.lemmas.Int.{to_z-of_z}
use Rattle.std.proofs.lemmas.Map.Lookups.{exact_signed}
use Rattle.std.proofs.lemmas.Map.Views.{tells_apart}
use Rattle.base_values.specs.declared.EditError.{EditError}
use Rattle.base_values.specs.KeyMap.{with_entry}
use Rattle.base_values.specs.laws.KeyMap.{get-with_entry}
use Rattle.base_values.specs.Places.{is_line, line_of}
use Rattle.sheet_grid.specs.declared.line_attr.LineAttr.{LineAttr}
use Rattle.sheet_grid.specs.Lines.{SameBut}

-- so it is where an entry is put
same_but-with_entry : (line : ℤ) (lines : FinMap int_cmp LineAttr) (entry : Option LineAttr) → SameBut line lines (with_entry lines line entry)
same_but-with_entry line lines entry other differs = get-with_entry int_cmp_total lines line entry other ∙ either (eq_by_cmp int_cmp other line) refl
  where
    either : (b : Bool) → eq_by_cmp int_cmp other line ≡ b → cond b entry (get lines other) ≡ get lines other
    either true e = absurd (differs (tells_apart exact_signed other line e))
    either false e = refl

-- a line that is found inside is the line that was asked for
found_line : (last line found : ℤ) (refusal : EditError) → Ok found ≡ line_of last line refusal → found ≡ line
unfolding line_of
found_line last line found refusal is = go (is_line last line) is
  where
    go : (b : Bool) → ◌≡◌ {A = Result ℤ EditError} (Ok found) (cond b (Ok line) (Err refusal)) → found ≡ line
    go true e = cc
    go false e = cc

-- so it is after a change of a line that was found, whether or not there was memory for it; the casts are those of the calls
pub same_but-after : (last line found : ℤ) (refusal : EditError) (old new : FinMap int_cmp LineAttr) (entry : Option LineAttr) (result : Result (Unit {0}) EditError) → SFits w32 line
    → Ok found ≡ line_of last (to_z w32 (of_z w32 line)) refusal → OnOk result (new ≡ with_entry old (to_z w32 (of_z w32 found)) entry) → OnErr result (new ≡ old) → SameBut line old new
same_but-after last line found refusal old new entry (Ok done) fits is ok err other differs =
    let same : found ≡ line = found_line last _ found refusal is ∙ to_z-of_z w32 line fits in
    let cast : to_z w32 (of_z w32 found) ≡ line = ap (λ n. to_z w32 (of_z w32 n)) same ∙ to_z-of_z w32 line fits in
    ap (λ (lines : FinMap int_cmp LineAttr). get lines other) ok ∙ same_but-with_entry _ old entry other (λ e. differs (e ∙ cast))
same_but-after last line found refusal old new entry (Err error) fits is ok err other differs = ap (λ (lines : FinMap int_cmp LineAttr). get lines other) err
