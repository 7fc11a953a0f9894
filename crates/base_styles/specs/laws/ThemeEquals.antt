-- `==` of themes is equality of their values.
use Rattle.std.proofs.Common.{◌≡◌, ap}
use Rattle.std.specs.Bool.{Decides}
use Rattle.std.specs.Cmp.{unsigned_Decides}
use Rattle.std.proofs.lemmas.Bool.Decides.{Decides-like, Decides-and}
use Rattle.base_styles.specs.declared.theme.RgbColor.{RgbColor}
use Rattle.base_styles.specs.contracts.theme.RgbColorPartialEq.TheImpl as rgb_color
use Rattle.base_styles.specs.declared.theme.Theme.{Theme}
use Rattle.base_styles.specs.contracts.theme.ThemePartialEq.TheImpl as theme

pub rgb_color_equals : (a b : RgbColor) → Decides (rgb_color.ghosts.eq a b) (a ≡ b)
rgb_color_equals a b =
    Decides-like _ (λ p i. record { red = p.0 i; green = p.1.0 i; blue = p.1.1 i })
    (λ e. (ap (λ x. x.red) e, (ap (λ x. x.green) e, ap (λ x. x.blue) e)))
    (Decides-and _ _ (unsigned_Decides _ _) (Decides-and _ _ (unsigned_Decides _ _) (unsigned_Decides _ _)))

pub theme_equals : (a b : Theme) → Decides (theme.ghosts.eq a b) (a ≡ b)
theme_equals a b =
    Decides-like _
    (λ p i. record { light1 = p.0 i; dark1 = p.1.0 i; light2 = p.1.1.0 i; dark2 = p.1.1.1.0 i; accent1 = p.1.1.1.1.0 i; accent2 = p.1.1.1.1.1.0 i; accent3 = p.1.1.1.1.1.1.0 i; accent4 = p.1.1.1.1.1.1.1.0 i; accent5 = p.1.1.1.1.1.1.1.1.0 i; accent6 = p.1.1.1.1.1.1.1.1.1.0 i; hyperlink = p.1.1.1.1.1.1.1.1.1.1.0 i; followed_hyperlink = p.1.1.1.1.1.1.1.1.1.1.1 i })
    (λ e. (ap (λ x. x.light1) e, (ap (λ x. x.dark1) e, (ap (λ x. x.light2) e, (ap (λ x. x.dark2) e, (ap (λ x. x.accent1) e, (ap (λ x. x.accent2) e, (ap (λ x. x.accent3) e, (ap (λ x. x.accent4) e, (ap (λ x. x.accent5) e, (ap (λ x. x.accent6) e, (ap (λ x. x.hyperlink) e, ap (λ x. x.followed_hyperlink) e))))))))))))
    (Decides-and _ _ (rgb_color_equals _ _) (Decides-and _ _ (rgb_color_equals _ _) (Decides-and _ _ (rgb_color_equals _ _) (Decides-and _ _ (rgb_color_equals _ _) (Decides-and _ _ (rgb_color_equals _ _) (Decides-and _ _ (rgb_color_equals _ _) (Decides-and _ _ (rgb_color_equals _ _) (Decides-and _ _ (rgb_color_equals _ _) (Decides-and _ _ (rgb_color_equals _ _) (Decides-and _ _ (rgb_color_equals _ _) (Decides-and _ _ (rgb_color_equals _ _) (rgb_color_equals _ _))))))))))))
