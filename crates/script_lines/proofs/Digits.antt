-- Digits one after another.
use Rattle.std.proofs.Common.{◌≡◌, ℕ, ◌+◌, ◌-◌, ◌*◌, ◌^◌, ◌<◌, ◌≤◌, cond, List, [], ◌∷◌, ◌++◌, length, take, drop, get_or, sym, ap, subst, ◌∙◌, arith, length-append}
use Rattle.std.specs.declared.option.Option.TheVariants.{Some, None}
use Rattle.std.proofs.lemmas.Bool.{lt-ltb, le-ltb}
use Rattle.std.proofs.lemmas.Nat.{pow-add}
use Rattle.std.proofs.Math.Nat.{one-le-pow, mul-le-mul_left}
use Rattle.std.proofs.lemmas.List.{take_more, take-append-drop}
use Rattle.script_lines.specs.Number.{value_of, value_below}

pub value_of-append : (xs ys : List ℕ) → value_of (xs ++ ys) ≡ value_of xs * 10 ^ length ys + value_of ys
value_of-append [] ys = omega arith
value_of-append (x ∷ xs) ys =
    let one = value_of-append xs ys in
    let two = pow-add 10 (length xs) (length ys) in
    let len = length-append xs ys in
    rw (len, two, one) (grind arith)

pub value_of-push : (xs : List ℕ) (b : ℕ) → value_of (xs ++ b ∷ []) ≡ value_of xs * 10 + (b - 48)
value_of-push xs b = value_of-append xs (b ∷ []) ∙ omega arith

-- more digits don't make it less
value_of-front : (xs ys : List ℕ) → value_of xs ≤ value_of (xs ++ ys)
value_of-front xs ys =
    let whole = value_of-append xs ys in
    let one : 1 ≤ 10 ^ length ys = one-le-pow (length ys) 10 (omega arith) in
    let more : value_of xs * 1 ≤ value_of xs * 10 ^ length ys = mul-le-mul_left (value_of xs) one in
    omega arith

module _ (digits : List ℕ) (at : ℕ) (lt : at < length digits) where
  pub value_of-take : value_of (take (at + 1) digits) ≡ value_of (take at digits) * 10 + (get_or digits at 0 - 48)
  value_of-take = ap value_of (take_more digits at 0 lt) ∙ value_of-push (take at digits) (get_or digits at 0)

  -- too much already
  pub value_below_past : (limit : ℕ) → limit ≤ value_of (take at digits) * 10 + (get_or digits at 0 - 48) → None ≡ value_below limit digits
  value_below_past limit past =
      let front : value_of (take (at + 1) digits) ≤ value_of digits = subst (λ l. value_of (take (at + 1) digits) ≤ value_of l) (take-append-drop (at + 1) digits) (value_of-front (take (at + 1) digits) (drop (at + 1) digits)) in
      let step = value_of-take in
      sym (ap (λ b. cond b (Some (value_of digits)) None) (le-ltb (value_of digits) limit (omega arith)))

pub value_below_all : (digits : List ℕ) (value limit : ℕ) → value ≡ value_of digits → value < limit → Some value ≡ value_below limit digits
value_below_all digits value limit is lt = ap Some is ∙ sym (ap (λ b. cond b (Some (value_of digits)) None) (lt-ltb (value_of digits) limit (omega arith)))
