use Rattle.std.proofs.Common.{◌≡◌, ◌+◌, ◌*◌, ◌-◌, ℕ, min, drop, get_or, sym, ap, ◌∙◌, arith}
use Rattle.base_tables.specs.Word.{number_after}
use Rattle.base_tables.specs.laws.Counting.{capped_turn}
use Rattle.base_tables.proofs.digits.capped_number.Goals as goal

pub loop-c-preserved : goal.loop-c-preserved
loop-c-preserved c =
    let is : c.min-number.result ≡ min (c.loop-c.number * 10 + (get_or c.args.digits.now c.loop-c.c-index 0 - 48)) c.args.cap = omega arith in
    record {
      so_far = ap (λ (n : ℕ). min (number_after n (drop (c.loop-c.c-index + 1) c.args.digits.now)) c.args.cap) is
          ∙ sym (capped_turn c.args.cap c.loop-c.number c.loop-c.c-index c.args.digits.now c.loop-c-test.true) ∙ c.loop-c.invariant.so_far;
      small = omega arith;
    }
