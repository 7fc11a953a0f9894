use Rattle.std.proofs.Common.{◌≡◌, ◌+◌, ℕ, ℤ, pos, suc, Some, ap, sym, subst, ◌∙◌, rules, arith, w32, SFits, to_z, of_z}
use Rattle.std.specs.Ordering.{int_cmp}
use Rattle.std.specs.FinMap.{FinMap}
use Rattle.std.proofs.lemmas.Int.{to_z-of_z}
use Rattle.base_styles.specs.declared.Style.{Style}
use Rattle.sheet_grid.specs.declared.line_attr.LineAttr.{LineAttr}
use Rattle.sheet_grid.specs.Lines.{AllStyled, with_change, with_style}
use Rattle.sheet_grid.proofs.LineStyles.{styled_on}
use Rattle.sheet_grid.proofs.worksheet.line_styles.all_styled.Goals as goal

pub loop-index-preserved : goal.loop-index-preserved
loop-index-preserved c =
    let fits : SFits w32 c.column_at.result = search rules in
    let column : to_z w32 (of_z w32 c.column_at.result) ≡ pos (suc c.loop-index.index) = to_z-of_z w32 c.column_at.result fits ∙ c.column_at.ensures in
    let same : c.in_ok-style.style ≡ c.args.style.now = search rules in
    let put : c.set_line_style.new.lines ≡ with_change c.loop-index.styled (pos (suc c.loop-index.index)) (with_style (Some c.args.style.now)) =
    c.in_ok-set_line_style.ensures.ok
    ∙ ap (λ (z : ℤ). with_change c.loop-index.styled z (with_style (Some c.in_ok-style.style))) column
    ∙ ap (λ (style : Style). with_change c.loop-index.styled (pos (suc c.loop-index.index)) (with_style (Some style))) same in
    let next : suc c.loop-index.index ≡ c.loop-index.index + 1 = omega arith in
    subst (λ (n : ℕ). AllStyled (pos n) c.args.style.now c.args.columns.now c.set_line_style.new.lines) next
    (subst (λ (lines : FinMap int_cmp LineAttr). AllStyled (pos (suc c.loop-index.index)) c.args.style.now c.args.columns.now lines) (sym put)
    (styled_on c.args.style.now c.args.columns.now c.loop-index.styled c.loop-index.index c.loop-index.invariant))
