use Rattle.std.proofs.Common.{◌+◌, ◌^◌, ℕ, sym, ap, ◌∙◌, arith}
use Rattle.std.specs.Prelude.{ℤ, pos, ◌+ℤ◌, ◌*ℤ◌}
use Rattle.base_decimal.specs.Arithmetic.{mantissa_at, common_places}
use Rattle.base_decimal.proofs.Sums.{sum_value, sum_is}
use Rattle.base_decimal.proofs.decimal.Decimal.add.Goals as goal

pub returns-clause-value : goal.returns-clause-value
returns-clause-value c =
    let a = c.args.self.now in
    let b = c.args.other.now in
    let p = common_places c.args.self.now c.args.other.now in
    let sum = sum_is c.mantissa_at.result c.mantissa_at-2.result (mantissa_at a p) (mantissa_at b p)
    (c.mantissa_at.ensures ∙ ap (mantissa_at a) c.max-places.ensures) (c.mantissa_at-2.ensures ∙ ap (mantissa_at b) c.max-places.ensures)
    c.requires.first c.requires.second c.requires.sum in
    ap (λ (x : ℤ). x *ℤ pos (10 ^ (c.args.self.now.places + c.args.other.now.places))) sum
    ∙ sum_value a b p (omega arith) (omega arith)
    ∙ ap (λ (x : ℕ). ((c.args.self.now.mantissa *ℤ pos (10 ^ c.args.other.now.places)) +ℤ (c.args.other.now.mantissa *ℤ pos (10 ^ c.args.self.now.places))) *ℤ pos (10 ^ x)) (sym c.max-places.ensures)
