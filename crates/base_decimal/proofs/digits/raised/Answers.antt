use Rattle.std.proofs.Common.{◌≡◌, ◌*◌, ◌^◌, ◌<◌, ◌≤◌, ℕ, Bool, true, false, cond, Some, None, sym, ap, ◌∙◌, arith}
use Rattle.std.specs.Prelude.{nat_lt}
use Rattle.std.proofs.lemmas.Bool.Decides.{nat_tests}
use Rattle.base_decimal.proofs.Runs.{raised_small, raised_large, raised_far}
use Rattle.base_decimal.proofs.digits.raised.Goals as goal
use Rattle.base_decimal.proofs.digits.raised.Goals.{then-power-ge30-via-then-power-ge30, then-power-ge30-via-else-power-ge30+then-number-ten_to}

too_large : (n r : ℕ) → 10 ^ 30 ≤ n * 10 ^ r → None ≡ cond (nat_lt (n * 10 ^ r) (10 ^ 30)) (Some (n * 10 ^ r)) None
too_large n r h = let no : nat_lt (n * 10 ^ r) (10 ^ 30) ≡ false = grind (arith, nat_tests) in ap (λ (b : Bool). cond b (Some (n * 10 ^ r)) None) (sym no)

fits : (n r : ℕ) → n * 10 ^ r < 10 ^ 30 → Some (n * 10 ^ r) ≡ cond (nat_lt (n * 10 ^ r) (10 ^ 30)) (Some (n * 10 ^ r)) None
fits n r h = let yes : nat_lt (n * 10 ^ r) (10 ^ 30) ≡ true = grind (arith, nat_tests) in ap (λ (b : Bool). cond b (Some (n * 10 ^ r)) None) (sym yes)

pub returns-then-power-ge30-clause-value : goal.returns-then-power-ge30-clause-value
returns-then-power-ge30-clause-value c =
    too_large c.args.number c.args.power
    (elim c.then-power-ge30.branch [
      | then-power-ge30-via-then-power-ge30 w ↦ raised_far c.args.number c.args.power (omega arith) (omega arith)
      | then-power-ge30-via-else-power-ge30+then-number-ten_to w ↦ raised_large c.args.number c.args.power (omega arith) (omega arith)
    ])

pub overflow_mul-result : goal.overflow_mul-result
overflow_mul-result c =
    let small = raised_small c.args.number c.args.power (omega arith) (omega arith) in
    let is : c.args.number * c.ten_to-2.result ≡ c.args.number * 10 ^ c.args.power = ap (λ (x : ℕ). c.args.number * x) c.ten_to-2.ensures.value in
    omega arith

pub returns-clause-value : goal.returns-clause-value
returns-clause-value c =
    let is : c.args.number * c.ten_to-2.result ≡ c.args.number * 10 ^ c.args.power = ap (λ (x : ℕ). c.args.number * x) c.ten_to-2.ensures.value in
    ap (λ (x : ℕ). Some x) is ∙ fits c.args.number c.args.power (raised_small c.args.number c.args.power (omega arith) (omega arith))

pub returns-clause-small : goal.returns-clause-small
returns-clause-small c =
    let is : c.args.number * c.ten_to-2.result ≡ c.args.number * 10 ^ c.args.power = ap (λ (x : ℕ). c.args.number * x) c.ten_to-2.ensures.value in
    let small = raised_small c.args.number c.args.power (omega arith) (omega arith) in
    omega arith
