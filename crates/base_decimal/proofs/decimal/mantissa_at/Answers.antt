use Rattle.std.proofs.Common.{◌-◌, ◌^◌, ℕ, rules, sym, ap, subst, ◌∙◌, arith}
use Rattle.std.specs.Prelude.{ℤ, pos, FitsSigned}
use Rattle.std.specs.Int.{w128, cast_signed, cast_unsigned}
use Rattle.std.proofs.lemmas.Int.{fits_signed_from_abs, to_z-of_z}
use Rattle.base_decimal.proofs.Sums.{power_room, power_fits, product_is}
use Rattle.base_decimal.proofs.decimal.mantissa_at.Goals as goal

pub ten_to-requires : goal.ten_to-requires
ten_to-requires c =
    let low = power_room c.args.number.now.mantissa (c.args.places - c.args.number.now.places) c.if-number-eq0.false c.requires.fits in
    omega arith

pub overflow_cast-result : goal.overflow_cast-result
overflow_cast-result c =
    let low = power_room c.args.number.now.mantissa (c.args.places - c.args.number.now.places) c.if-number-eq0.false c.requires.fits in
    fits_signed_from_abs w128 (pos c.ten_to.result) (power_fits c.ten_to.result c.from.result c.ten_to.ensures.value (omega arith))

pub overflow_mul-result : goal.overflow_mul-result
overflow_mul-result c =
    let low = power_room c.args.number.now.mantissa (c.args.places - c.args.number.now.places) c.if-number-eq0.false c.requires.fits in
    let fits : FitsSigned w128 c.args.number.now.mantissa = search rules in
    let is = product_is c.args.number.now.mantissa c.ten_to.result (c.args.places - c.args.number.now.places) fits
    (c.ten_to.ensures.value ∙ ap (λ (x : ℕ). 10 ^ x) c.from.ensures) low in
    subst (FitsSigned w128) (sym is) c.requires.fits

pub returns : goal.returns
returns c =
    let low = power_room c.args.number.now.mantissa (c.args.places - c.args.number.now.places) c.if-number-eq0.false c.requires.fits in
    let fits : FitsSigned w128 c.args.number.now.mantissa = search rules in
    let is = product_is c.args.number.now.mantissa c.ten_to.result (c.args.places - c.args.number.now.places) fits
    (c.ten_to.ensures.value ∙ ap (λ (x : ℕ). 10 ^ x) c.from.ensures) low in
    ap (λ (x : ℤ). cast_signed w128 (cast_unsigned w128 x)) is ∙ to_z-of_z w128 _ c.requires.fits
