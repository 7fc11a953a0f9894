-- The style of a cell that was given none.
use Rattle.std.specs.Prelude.{pos, false, codes}
use Rattle.std.specs.declared.option.Option.TheVariants.{None as Nothing}
use Rattle.base_styles.specs.declared.color.Color.TheVariants.{None}
use Rattle.base_styles.specs.declared.style.Style.{Style}

-- no marks, size 13, no colours, no borders, the number format `general`, no alignment
abbrev pub default_style : Style
default_style = record {
  font = record { b = false; i = false; u = false; strike = false; sz = pos 13; color = None };
  fill = None;
  border = record { left = Nothing; right = Nothing; top = Nothing; bottom = Nothing };
  num_fmt = codes "general";
  alignment = Nothing;
}
