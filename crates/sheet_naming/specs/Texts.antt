-- Which texts are tried as the name of a sheet.
use Rattle.std.specs.Prelude.{ℕ, List}
use Rattle.sheet_naming.specs.declared.names.Numbered.{Numbered}
use Rattle.sheet_naming.specs.declared.names.Numbered.TheVariants.{Sheet, Copy}
use Rattle.sheet_naming.specs.FreeNames.{sheet_text, copy_text}

-- the text of a number
abbrev pub text_of : Numbered → ℕ → List ℕ
text_of Sheet n = sheet_text n
text_of (Copy name) n = copy_text name.now n
