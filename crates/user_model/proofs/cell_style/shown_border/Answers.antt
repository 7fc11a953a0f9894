use Rattle.std.proofs.Common.{◌≡◌, ℤ, pos, ◌+ℤ◌, ◌-ℤ◌, ◌∙◌, ap, rules, w32, SFits, to_z, of_z}
use Rattle.std.proofs.lemmas.Int.{to_z-of_z}
use Rattle.base_styles.specs.declared.Border.{Border}
use Rattle.user_model.specs.CellStyles.{border_at, heavier}
use Rattle.user_model.proofs.cell_style.shown_border.Goals as goal

-- a number that fits is what its cast is, and so is the next one
cast : (z : ℤ) → SFits w32 z → to_z w32 (of_z w32 z) ≡ z
cast z fits = to_z-of_z w32 z fits

next : (z : ℤ) → SFits w32 z → SFits w32 (z +ℤ pos 1) → to_z w32 (of_z w32 (to_z w32 (of_z w32 z) +ℤ pos 1)) ≡ z +ℤ pos 1
next z fits more = ap (λ n. to_z w32 (of_z w32 (n +ℤ pos 1))) (cast z fits) ∙ cast (z +ℤ pos 1) more

pub returns : goal.returns
returns c =
    let theme = c.args.theme.now in
    let sheet = c.args.sheet.now in
    let place = c.args.place in
    let row : SFits w32 place.row = search rules in
    let column : SFits w32 place.column = search rules in
    let below : SFits w32 (place.row +ℤ pos 1) = search rules in
    let beside : SFits w32 (place.column +ℤ pos 1) = search rules in
    let left : c.heavier.result ≡ heavier theme c.args.own.left (border_at sheet place.row (place.column -ℤ pos 1)).right = search rules in
    let right : c.heavier-2.result ≡ heavier theme c.args.own.right (border_at sheet place.row (place.column +ℤ pos 1)).left =
    c.heavier-2.ensures
    ∙ ap (λ (b : Border). heavier theme c.args.own.right b.left) (c.border_at-right.ensures ∙ (λ i. border_at sheet (cast place.row row i) (next place.column column beside i))) in
    let top : c.heavier-3.result ≡ heavier theme c.args.own.top (border_at sheet (place.row -ℤ pos 1) place.column).bottom = search rules in
    let bottom : c.heavier-4.result ≡ heavier theme c.args.own.bottom (border_at sheet (place.row +ℤ pos 1) place.column).top =
    c.heavier-4.ensures
    ∙ ap (λ (b : Border). heavier theme c.args.own.bottom b.top) (c.border_at-bottom.ensures ∙ (λ i. border_at sheet (next place.row row below i) (cast place.column column i))) in
    λ i. record { left = left i; right = right i; top = top i; bottom = bottom i }
