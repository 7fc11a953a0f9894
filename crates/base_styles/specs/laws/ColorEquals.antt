-- `==` of colours is equality of their values.
use Rattle.std.proofs.Common.{◌≡◌, refl, ap}
use Rattle.std.specs.Bool.{Decides}
use Rattle.std.specs.Cmp.{unsigned_Decides}
use Rattle.std.proofs.lemmas.Bool.Decides.{Decides-like, Decides-and}
use Rattle.base_styles.specs.declared.color.ThemeColor.{ThemeColor}
use Rattle.base_styles.specs.declared.color.ThemeColor.TheVariants.{Light1, Dark1, Light2, Dark2, Accent1, Accent2, Accent3, Accent4, Accent5, Accent6, Hyperlink, FollowedHyperlink}
use Rattle.base_styles.specs.contracts.color.ThemeColorPartialEq.TheImpl as theme_color
use Rattle.base_styles.specs.declared.color.Color.{Color}
use Rattle.base_styles.specs.declared.color.Color.TheVariants.{None, Rgb, Theme}
use Rattle.base_styles.specs.contracts.color.ColorPartialEq.TheImpl as color

pub theme_color_equals : (a b : ThemeColor) → Decides (theme_color.ghosts.eq a b) (a ≡ b)
theme_color_equals Light1 Light1 = (λ _. refl, λ _. refl)
theme_color_equals Dark1 Dark1 = (λ _. refl, λ _. refl)
theme_color_equals Light2 Light2 = (λ _. refl, λ _. refl)
theme_color_equals Dark2 Dark2 = (λ _. refl, λ _. refl)
theme_color_equals Accent1 Accent1 = (λ _. refl, λ _. refl)
theme_color_equals Accent2 Accent2 = (λ _. refl, λ _. refl)
theme_color_equals Accent3 Accent3 = (λ _. refl, λ _. refl)
theme_color_equals Accent4 Accent4 = (λ _. refl, λ _. refl)
theme_color_equals Accent5 Accent5 = (λ _. refl, λ _. refl)
theme_color_equals Accent6 Accent6 = (λ _. refl, λ _. refl)
theme_color_equals Hyperlink Hyperlink = (λ _. refl, λ _. refl)
theme_color_equals FollowedHyperlink FollowedHyperlink = (λ _. refl, λ _. refl)
theme_color_equals _ _ = (λ e. cc, λ e. cc)

pub color_equals : (a b : Color) → Decides (color.ghosts.eq a b) (a ≡ b)
color_equals None None = (λ _. refl, λ _. refl)
color_equals (Rgb r g b) (Rgb s h c) =
    Decides-like _ (λ p i. Rgb (p.0 i) (p.1.0 i) (p.1.1 i)) (λ e. (red_of e, (green_of e, blue_of e)))
    (Decides-and _ _ (unsigned_Decides _ _) (Decides-and _ _ (unsigned_Decides _ _) (unsigned_Decides _ _)))
  where
    red_of : Rgb r g b ≡ Rgb s h c → r ≡ s
    red_of e = cc

    green_of : Rgb r g b ≡ Rgb s h c → g ≡ h
    green_of e = cc

    blue_of : Rgb r g b ≡ Rgb s h c → b ≡ c
    blue_of e = cc
color_equals (Theme x) (Theme y) = Decides-like _ (ap Theme) (λ e. cc) (theme_color_equals x y)
color_equals _ _ = (λ e. cc, λ e. cc)
