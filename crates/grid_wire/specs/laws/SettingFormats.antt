-- The three laws of each part.
use Rattle.std.proofs.Common.{◌≡◌, ◌≤◌, Some, length, refl, arith}
use Rattle.base_styles.specs.declared.Theme.{Theme}
use Rattle.base_tables.specs.declared.Locale.{Locale}
use Rattle.base_tables.specs.declared.Locale.TheVariants as locale
use Rattle.base_tables.specs.Locale.{all_locales, locale_code, locale_of_code}
use Rattle.base_tables.specs.declared.Zone.{Zone}
use Rattle.base_tables.specs.declared.Zone.TheVariants.{Utc, EuropeBerlin, EuropeParis, EuropeMadrid, AmericaNewYork, AsiaTokyo}
use Rattle.base_tables.specs.Zone.{all_zones, zone_code, zone_of_code}
use Rattle.base_tables.specs.laws.Tables.{found_number}
use Rattle.base_wire.specs.Encoding.{Any, Both}
use Rattle.base_wire.specs.laws.Again.{coded_again}
use Rattle.base_wire.specs.laws.Format.{Format}
use Rattle.base_wire.specs.laws.Formats.{both_format, made_format}
use Rattle.base_wire.specs.laws.Parts.{byte_format}
use Rattle.base_wire.specs.laws.Refusals.{coded_plain}
use Rattle.base_wire.specs.laws.Encoded.{coded_encoded}
use Rattle.grid_wire.specs.TableBytes.{encode_locale, encode_zone}
use Rattle.grid_wire.specs.laws.SettingReading.{locale_at, zone_at, rgb_at, rgb_made, theme_at, theme_made, Colors}
use Rattle.grid_wire.specs.ThemeBytes.{encode_rgb, encode_theme, FitsRgb, FitsTheme}

-- ---- themes

pub rgb_format : Format FitsRgb encode_rgb rgb_at
unfolding rgb_at
rgb_format =
    made_format (both_format byte_format (both_format byte_format byte_format)) rgb_made (λ color. (color.red, (color.green, color.blue)))
    (λ color fits. (refl, (fits.red, (fits.green, fits.blue)))) (λ x fits. (refl, record { red = fits.0; green = fits.1.0; blue = fits.1.1 }))

-- the parts of colours that follow each other are bytes
abbrev ColorsFit : Colors → Type 0
ColorsFit =
    Both FitsRgb (Both FitsRgb (Both FitsRgb (Both FitsRgb (Both FitsRgb (Both FitsRgb
    (Both FitsRgb (Both FitsRgb (Both FitsRgb (Both FitsRgb (Both FitsRgb FitsRgb))))))))))

-- the parts of the colours of a theme that is made are theirs
theme_fits : (x : Colors) → ColorsFit x → FitsTheme (theme_made x)
theme_fits x fits = record {
  light1 = fits.0;
  dark1 = fits.1.0;
  light2 = fits.1.1.0;
  dark2 = fits.1.1.1.0;
  accent1 = fits.1.1.1.1.0;
  accent2 = fits.1.1.1.1.1.0;
  accent3 = fits.1.1.1.1.1.1.0;
  accent4 = fits.1.1.1.1.1.1.1.0;
  accent5 = fits.1.1.1.1.1.1.1.1.0;
  accent6 = fits.1.1.1.1.1.1.1.1.1.0;
  hyperlink = fits.1.1.1.1.1.1.1.1.1.1.0;
  followed_hyperlink = fits.1.1.1.1.1.1.1.1.1.1.1;
}

pub theme_format : Format FitsTheme encode_theme theme_at
unfolding encode_theme theme_at
theme_format =
    made_format
    (both_format rgb_format (both_format rgb_format (both_format rgb_format (both_format rgb_format
    (both_format rgb_format (both_format rgb_format (both_format rgb_format (both_format rgb_format
    (both_format rgb_format (both_format rgb_format (both_format rgb_format rgb_format)))))))))))
    theme_made
    (λ theme. (
      theme.light1,
      (
        theme.dark1,
        (
          theme.light2,
          (
            theme.dark2,
            (
              theme.accent1,
              (
                theme.accent2,
                (theme.accent3, (theme.accent4, (theme.accent5, (theme.accent6, (theme.hyperlink, theme.followed_hyperlink))))),
              ),
            ),
          ),
        ),
      ),
    ))
    (λ theme fits. (
      refl,
      (
        fits.light1,
        (
          fits.dark1,
          (
            fits.light2,
            (
              fits.dark2,
              (
                fits.accent1,
                (
                  fits.accent2,
                  (fits.accent3, (fits.accent4, (fits.accent5, (fits.accent6, (fits.hyperlink, fits.followed_hyperlink))))),
                ),
              ),
            ),
          ),
        ),
      ),
    ))
    (λ x fits. (refl, theme_fits x fits))

pub theme_some : (x : Theme) → 1 ≤ length (encode_theme x)
unfolding encode_theme
theme_some x = omega arith

-- ---- locales

locale_known : (x : Locale) → locale_of_code (locale_code x) ≡ Some x
locale_known locale.En = refl
locale_known locale.De = refl
locale_known locale.Fr = refl
locale_known locale.Es = refl

pub locale_format : Format Any encode_locale locale_at
unfolding locale_at
locale_format = record {
  again = coded_again locale_code locale_of_code locale_known;
  encoded = coded_encoded locale_code locale_of_code (found_number locale_code all_locales refl);
  plain = coded_plain locale_of_code;
}

-- ---- time zones

zone_known : (x : Zone) → zone_of_code (zone_code x) ≡ Some x
zone_known Utc = refl
zone_known EuropeBerlin = refl
zone_known EuropeParis = refl
zone_known EuropeMadrid = refl
zone_known AmericaNewYork = refl
zone_known AsiaTokyo = refl

pub zone_format : Format Any encode_zone zone_at
unfolding zone_at
zone_format = record {
  again = coded_again zone_code zone_of_code zone_known;
  encoded = coded_encoded zone_code zone_of_code (found_number zone_code all_zones refl);
  plain = coded_plain zone_of_code;
}
