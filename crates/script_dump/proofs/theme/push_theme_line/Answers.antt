use Rattle.std.proofs.Common.{◌++◌, ◌∷◌, [], codes, ap, ◌∙◌, append_assoc}
use Rattle.std.specs.List.{flat_map}
use Rattle.script_dump.specs.Dump.{rgb_word, theme_colors}
use Rattle.script_dump.proofs.theme.push_theme_line.Goals as goal

pub returns : goal.returns
returns c =
    let first = c.args.out.now.items in
    let colors = flat_map rgb_word (theme_colors c.args.theme) in
    c.in_ok-push.ensures.items
    ∙ ap (λ l. l ++ 10 ∷ [])
    (c.in_ok-push_colors.ensures
    ∙ ap (λ cs. c.extend_from_slice.new.self.items ++ flat_map rgb_word cs) c.theme_colors.ensures
    ∙ ap (λ l. l ++ colors) c.in_ok-extend_from_slice.ensures.items
    ∙ append_assoc first (codes "theme") colors)
    ∙ append_assoc first (codes "theme" ++ colors) (10 ∷ [])
