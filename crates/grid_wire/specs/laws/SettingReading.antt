-- Reading themes, locales and time zones. Serves proofs alone.
use Rattle.std.specs.Prelude.{ℕ}
use Rattle.base_styles.specs.declared.RgbColor.{RgbColor}
use Rattle.base_styles.specs.declared.Theme.{Theme}
use Rattle.base_wire.specs.laws.Reading.{Reader, map_at, ◌⊗◌, byte_at, coded_at}
use Rattle.base_tables.specs.declared.Locale.{Locale}
use Rattle.base_tables.specs.Locale.{locale_of_code}
use Rattle.base_tables.specs.declared.Zone.{Zone}
use Rattle.base_tables.specs.Zone.{zone_of_code}

-- ---- the parts of a colour

abbrev pub rgb_made : ℕ × (ℕ × ℕ) → RgbColor
rgb_made x = record { red = x.0; green = x.1.0; blue = x.1.1 }

unfoldable pub rgb_at : Reader RgbColor
rgb_at = map_at rgb_made (byte_at ⊗ byte_at ⊗ byte_at)

-- ---- themes

-- its colours as parts that follow each other
abbrev pub Colors : Type 0
Colors =
    RgbColor × (RgbColor × (RgbColor × (RgbColor × (RgbColor × (RgbColor ×
    (RgbColor × (RgbColor × (RgbColor × (RgbColor × (RgbColor × RgbColor))))))))))

abbrev pub theme_made : Colors → Theme
theme_made x = record {
  light1 = x.0;
  dark1 = x.1.0;
  light2 = x.1.1.0;
  dark2 = x.1.1.1.0;
  accent1 = x.1.1.1.1.0;
  accent2 = x.1.1.1.1.1.0;
  accent3 = x.1.1.1.1.1.1.0;
  accent4 = x.1.1.1.1.1.1.1.0;
  accent5 = x.1.1.1.1.1.1.1.1.0;
  accent6 = x.1.1.1.1.1.1.1.1.1.0;
  hyperlink = x.1.1.1.1.1.1.1.1.1.1.0;
  followed_hyperlink = x.1.1.1.1.1.1.1.1.1.1.1;
}

unfoldable pub theme_at : Reader Theme
theme_at = map_at theme_made (rgb_at ⊗ rgb_at ⊗ rgb_at ⊗ rgb_at ⊗ rgb_at ⊗ rgb_at ⊗ rgb_at ⊗ rgb_at ⊗ rgb_at ⊗ rgb_at ⊗ rgb_at ⊗ rgb_at)

-- ---- locales and time zones

unfoldable pub locale_at : Reader Locale
locale_at = coded_at locale_of_code

unfoldable pub zone_at : Reader Zone
zone_at = coded_at zone_of_code
