-- A row has few digits.
use Rattle.std.proofs.Common.{◌≡◌, ℕ, ◌-◌, ◌*◌, ◌^◌, ◌<◌, ◌≤◌, Bool, true, false, cond, List, [], ◌∷◌, length, Some, None, refl, sym, ap, ◌∙◌, arith}
use Rattle.std.specs.Prelude.{IfSome, ◌&&◌, nat_le}
use Rattle.std.proofs.lemmas.Bool.{and_parts, lt-ltb, le-leb}
use Rattle.std.proofs.lemmas.Bool.Decides.{nat_tests}
use Rattle.std.proofs.Math.Nat.{mul-le-mul_left, pow-le-pow_right, pow-suc, mul_comm}
use Rattle.script_lines.specs.Number.{is_digit, are_digits, value_of, value_below, number_below}
use Rattle.base_tables.specs.Column.{is_between}
use Rattle.script_lines.specs.References.{read_row}

digit-small : (b : ℕ) → is_digit b ≡ true → b - 48 ≤ 9
digit-small b e = grind (arith, nat_tests)

-- digits spell less than the power of ten of their count
pub value_of-lt : (digits : List ℕ) → are_digits digits ≡ true → value_of digits < 10 ^ length digits
value_of-lt [] e = omega arith
value_of-lt (b ∷ digits) e =
    let so = and_parts (is_digit b) (are_digits digits) e in
    let small = digit-small b so.0 in
    let rest = value_of-lt digits so.1 in
    let most : 10 ^ length digits * (b - 48) ≤ 10 ^ length digits * 9 = mul-le-mul_left (10 ^ length digits) small in
    let power : 10 ^ length (b ∷ digits) ≡ 10 ^ length digits * 10 = pow-suc 10 (length digits) in
    let swap : (b - 48) * 10 ^ length digits ≡ 10 ^ length digits * (b - 48) = mul_comm (b - 48) (10 ^ length digits) in
    omega arith

-- seven digits at most spell less than ten million
pub row-lt : (digits : List ℕ) → length digits ≤ 7 → are_digits digits ≡ true → value_of digits < 10000000
row-lt digits few e =
    let most : 10 ^ length digits ≤ 10 ^ 7 = pow-le-pow_right {n = 10} (omega arith) few in
    omega (arith, value_of-lt digits e)

by_digits : (digits : List ℕ) → length digits ≤ 7 → (t : Bool) → are_digits digits ≡ t → cond t (value_below (2 ^ 32) digits) None ≡ cond t (Some (value_of digits)) None
by_digits digits few true e = ap (λ b. cond b (Some (value_of digits)) None) (lt-ltb (value_of digits) (2 ^ 32) (omega (arith, row-lt digits few e)))
by_digits digits few false e = refl

pub row_is : (digits : List ℕ) → length digits ≤ 7 → number_below (2 ^ 32) digits ≡ read_row digits
row_is [] few = refl
row_is (b ∷ digits) few =
    by_digits (b ∷ digits) few (are_digits (b ∷ digits)) refl
    ∙ sym (ap (λ t. cond (t && are_digits (b ∷ digits)) (Some (value_of (b ∷ digits))) None) (between (length (b ∷ digits)) (omega arith) few))
  where
    between : (n : ℕ) → 1 ≤ n → n ≤ 7 → is_between 1 7 n ≡ true
    between n low high = ap (λ t. t && nat_le n 7) (le-leb 1 n low) ∙ le-leb n 7 high

row_small : (digits : List ℕ) → length digits ≤ 7 → (t : Bool) → are_digits digits ≡ t → IfSome (cond t (Some (value_of digits)) None) (λ row. row < 10000000)
row_small digits few true e = row-lt digits few e
row_small digits few false e = tt

few_by : (digits : List ℕ) (t : Bool) → is_between 1 7 (length digits) ≡ t → IfSome (cond (t && are_digits digits) (Some (value_of digits)) None) (λ row. row < 10000000)
few_by digits true e = let few : length digits ≤ 7 = grind (arith, nat_tests) in row_small digits few (are_digits digits) refl
few_by digits false e = tt

-- a row is below ten million
pub read_row-lt : (digits : List ℕ) → IfSome (read_row digits) (λ row. row < 10000000)
read_row-lt digits = few_by digits (is_between 1 7 (length digits)) refl
