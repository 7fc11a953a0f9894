use Rattle.std.proofs.Common.{◌≡◌, ◌+◌, ◌*◌, ◌-◌, ◌^◌, ℕ, Bool, true, false, cond, List, length, Some, None, sym, ap, ◌∙◌}
use Rattle.std.specs.Prelude.{◌&&◌, nat_lt}
use Rattle.base_decimal.proofs.Fifteen.{back_of, are_zeros, capped_front, cut_zeros, cut_digits}
use Rattle.base_decimal.proofs.value.at_fifteen.Goals as goal
use Rattle.base_decimal.proofs.value.at_fifteen.Goals.{then-are_zero, else-are_zero}

pub returns-then-not-are_zero-clause-value : goal.returns-then-not-are_zero-clause-value
returns-then-not-are_zero-clause-value c =
    let w = c.args.whole.now in
    let f = c.args.fraction.now in
    let cut = length c.args.fraction.now + c.args.scale.down - (c.args.scale.up + 15) in
    let a : back_of (length c.args.fraction.now + c.args.scale.down - (c.args.scale.up + 15) - length c.args.fraction.now) c.args.whole.now ≡ c.cut_end.result.1.now = cc in
    let b : back_of (length c.args.fraction.now + c.args.scale.down - (c.args.scale.up + 15)) c.args.fraction.now ≡ c.cut_end-2.result.1.now = cc in
    let some : are_zeros c.cut_end.result.1.now && are_zeros c.cut_end-2.result.1.now ≡ false = (elim c.if-are_zero.branch [
      | then-are_zero s ↦ ap (λ (x : Bool). x && are_zeros c.cut_end-2.result.1.now) (sym c.are_zero.ensures ∙ s.if-are_zero.true) ∙ (let e : are_zeros c.cut_end-2.result.1.now ≡ false = cc in e)
      | else-are_zero s ↦ ap (λ (x : Bool). x && are_zeros c.cut_end-2.result.1.now) (sym c.are_zero.ensures ∙ s.if-are_zero.false)
    ]) in
    sym (cut_digits w f c.args.scale.up c.args.scale.down c.requires.whole c.requires.fraction
    (ap (λ (x : List ℕ). are_zeros x && are_zeros (back_of (length c.args.fraction.now + c.args.scale.down - (c.args.scale.up + 15)) c.args.fraction.now)) a
    ∙ ap (λ (x : List ℕ). are_zeros c.cut_end.result.1.now && are_zeros x) b ∙ some))

pub returns-clause-value : goal.returns-clause-value
returns-clause-value c =
    let a : back_of (length c.args.fraction.now + c.args.scale.down - (c.args.scale.up + 15) - length c.args.fraction.now) c.args.whole.now ≡ c.cut_end.result.1.now = cc in
    let b : back_of (length c.args.fraction.now + c.args.scale.down - (c.args.scale.up + 15)) c.args.fraction.now ≡ c.cut_end-2.result.1.now = cc in
    let all : (are_zeros c.cut_end.result.1.now ≡ true) × (are_zeros c.cut_end-2.result.1.now ≡ true) = (elim c.if-are_zero.branch [
      | then-are_zero s ↦ (sym c.are_zero.ensures ∙ s.if-are_zero.true, (let e : are_zeros c.cut_end-2.result.1.now ≡ true = cc in e))
      | else-are_zero s ↦ absurd cc
    ]) in
    let r : c.saturating_sub-2.result ≡ c.args.scale.up + 15 - (length c.args.fraction.now + c.args.scale.down) = cc in
    let n : c.capped_number-number.result ≡ capped_front (length c.args.fraction.now + c.args.scale.down - (c.args.scale.up + 15)) c.args.whole.now c.args.fraction.now = cc in
    c.raised.ensures.value
    ∙ ap (λ (x : ℕ). cond (nat_lt (c.capped_number-number.result * 10 ^ x) (10 ^ 30)) (Some (c.capped_number-number.result * 10 ^ x)) None) r
    ∙ ap (λ (x : ℕ). let y = c.args.scale.up + 15 - (length c.args.fraction.now + c.args.scale.down) in cond (nat_lt (x * 10 ^ y) (10 ^ 30)) (Some (x * 10 ^ y)) None) n
    ∙ cut_zeros c.args.whole.now c.args.fraction.now c.args.scale.up c.args.scale.down c.requires.whole c.requires.fraction
    (ap are_zeros a ∙ all.0) (ap are_zeros b ∙ all.1)
