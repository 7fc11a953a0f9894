use Rattle.std.proofs.Common.{pos}
use Rattle.sheet_grid.specs.Lines.{AllStyled}
use Rattle.sheet_grid.proofs.worksheet.line_styles.all_styled.Given as goal

-- the columns before the index have the style
abbrev pub invariant-loop-index : goal.invariant-loop-index
invariant-loop-index l = AllStyled (pos l.index) l.style l.columns l.styled
