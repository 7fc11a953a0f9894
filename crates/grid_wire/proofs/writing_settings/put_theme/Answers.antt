use Rattle.std.proofs.Common.{◌≡◌, ℕ, List, ◌++◌, Result, Ok, Err, ap, ◌∙◌, append_assoc}
use Rattle.std.specs.Prelude.{OnOk}
use Rattle.grid_wire.specs.ThemeBytes.{encode_theme}
use Rattle.grid_wire.proofs.writing_settings.put_theme.Goals as goal

-- what stands behind the first bytes, and a list behind that
more : (first s t x y : List ℕ) → x ≡ first ++ s → y ≡ x ++ t → y ≡ first ++ (s ++ t)
more first s t x y one two = two ∙ ap (λ l. l ++ t) one ∙ append_assoc first s t

if_ok : {T E P Q : Type 0} (r : Result T E) → (P → Q) → OnOk r P → OnOk r Q
if_ok (Ok x) f p = f p
if_ok (Err e) f p = tt

pub returns-clause-encoded : goal.returns-clause-encoded
unfolding encode_theme
returns-clause-encoded c =
    let first = c.args.out.now.items in
    let two = more first _ _ _ _ c.in_ok-put_rgb.ensures.encoded c.in_ok-put_rgb-2.ensures.encoded in
    let three = more first _ _ _ _ two c.in_ok-put_rgb-3.ensures.encoded in
    let four = more first _ _ _ _ three c.in_ok-put_rgb-4.ensures.encoded in
    let five = more first _ _ _ _ four c.in_ok-put_rgb-5.ensures.encoded in
    let six = more first _ _ _ _ five c.in_ok-put_rgb-6.ensures.encoded in
    let seven = more first _ _ _ _ six c.in_ok-put_rgb-7.ensures.encoded in
    let eight = more first _ _ _ _ seven c.in_ok-put_rgb-8.ensures.encoded in
    let nine = more first _ _ _ _ eight c.in_ok-put_rgb-9.ensures.encoded in
    let ten = more first _ _ _ _ nine c.in_ok-put_rgb-10.ensures.encoded in
    let eleven = more first _ _ _ _ ten c.in_ok-put_rgb-11.ensures.encoded in
    if_ok c.put_rgb-12.result (more first _ _ _ _ eleven) c.put_rgb-12.ensures.encoded
