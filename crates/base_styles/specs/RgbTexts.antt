-- The parts of a colour as a text.
use Rattle.std.specs.Prelude.{ℕ, ◌+◌, ◌-◌, ◌/◌, ◌%◌, List, [], ◌∷◌, ◌++◌, nat_lt, if◌then◌else◌}
use Rattle.base_styles.specs.declared.theme.RgbColor.{RgbColor}

-- a digit to base 16, in capital letters
abbrev pub hex_digit : ℕ → ℕ
hex_digit n = if nat_lt n 10 then 48 + n else 65 + (n - 10)

-- a byte in two digits
abbrev pub hex_byte : ℕ → List ℕ
hex_byte b = hex_digit (b / 16) ∷ hex_digit (b % 16) ∷ []

-- `#RRGGBB`
abbrev pub rgb_text : RgbColor → List ℕ
rgb_text color = 35 ∷ (hex_byte color.red ++ (hex_byte color.green ++ hex_byte color.blue))
