-- A read from a list at a place.
use Rattle.std.proofs.Common.{◌≡◌, ℕ, ◌+◌, ◌-◌, ◌≤◌, min, List, [], ◌++◌, length, take, drop, Ok, sym, ◌∙◌, ap, arith, length-drop}
use Rattle.std.proofs.lemmas.List.{take-append-drop, drop-drop, drop_all, take_all}
use Rattle.std.specs.declared.option.Option.TheVariants.{Some}
use Rattle.script_lines.specs.Known.{Takes}

read_front : {E : Type 0} (xs into : List ℕ) (at n : ℕ) → at ≤ length xs → n ≡ min (length (drop at xs)) (length into) → take n into ≡ take n (drop at xs) → Takes {E = E} (Some (drop at xs)) (Some (drop (at + n) xs)) (Ok n) into
read_front xs into at n within count same = record {
  within = omega arith;
  taken = ap Some (sym (take-append-drop n (drop at xs)) ∙ ap (λ l. l ++ drop n (drop at xs)) (sym same) ∙ ap (λ l. take n into ++ l) (drop-drop n at xs));
  ended = λ none room. drop_all (at + n) xs (omega (arith, length-drop at xs));
  none_left = λ none. let empty : drop at xs ≡ [] = cc in omega (arith, ap length empty);
  failed = tt;
}

-- `&xs[at..]` is its first length xs - at elements from there
pub read_takes : {E : Type 0} (xs lent into : List ℕ) (at n : ℕ) → lent ≡ xs → at ≤ length xs → n ≡ min (length (take (length lent - at) (drop at lent))) (length into) → take n into ≡ take n (take (length lent - at) (drop at lent)) → Takes {E = E} (Some (drop at xs)) (Some (drop (at + n) xs)) (Ok n) into
read_takes xs lent into at n is within count same =
    let rest : take (length lent - at) (drop at lent) ≡ drop at xs = take_all _ _ (omega (arith, length-drop at lent)) ∙ ap (drop at) is in
    read_front xs into at n within (count ∙ ap (λ l. min (length l) (length into)) rest) (same ∙ ap (take n) rest)
