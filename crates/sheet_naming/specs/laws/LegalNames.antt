-- The name of a new sheet is legal, and so is that of a copy, where its source's is.
use Rattle.std.proofs.Common.{◌≡◌, ℕ, zero, suc, ◌+◌, ◌-◌, ◌^◌, ◌≤◌, ◌<◌, Bool, true, false, not, List, [], ◌∷◌, ◌++◌, length, take, Option, Some, None, refl, sym, ap, ◌∙◌, arith}
use Rattle.std.specs.Prelude.{◌&&◌, ◌||◌, codes, nat_le, slice_get}
use Rattle.std.specs.Fmt.{decimal}
use Rattle.std.specs.List.{AllByRecursion, last_or, list_all}
use Rattle.std.specs.Str.{chars}
use Rattle.std.proofs.Math.Nat.{min-le_left}
use Rattle.std.proofs.lemmas.Bool.{and_parts}
use Rattle.std.proofs.lemmas.Fmt.{length-decimal-le}
use Rattle.std.proofs.lemmas.List.{length-append, length-take}
use Rattle.std.proofs.lemmas.List.Folds.{list_all-append}
use Rattle.sheet_rules.specs.SheetNames.{is_forbidden, is_apostrophe, has_length, has_outer_apostrophe, is_sheet_name}
use Rattle.sheet_naming.specs.FreeNames.{sheet_text, copy_ending, copy_text, new_name, copy_name, is_taken}
use Rattle.sheet_naming.specs.laws.Characters.{IsDigit, decimal_digits}
use Rattle.sheet_naming.specs.laws.LeastFree.{least_among}
use Rattle.sheet_naming.specs.laws.Numbered.{sheet_chars, copy_chars}

abbrev is_allowed : ℕ → Bool
is_allowed c = not (is_forbidden c)

both : (a b : Bool) → a ≡ true → b ≡ true → (a && b) ≡ true
both a b h k = (λ i. h i && b) ∙ k

-- ---- digits

digit_allowed : (c : ℕ) → IsDigit c → is_allowed c ≡ true
digit_allowed c is = grind (arith, is.0, is.1)

digits_allowed : (ds : List ℕ) → AllByRecursion IsDigit ds → list_all is_allowed ds ≡ true
digits_allowed [] all = refl
digits_allowed (d ∷ ds) all = both (is_allowed d) (list_all is_allowed ds) (digit_allowed d all.0) (digits_allowed ds all.1)

decimal_short : (n : ℕ) → n < 2 ^ 64 → length (decimal n) ≤ 20
decimal_short n h = length-decimal-le 20 n (omega arith) (omega (arith, h)) h

-- ---- the last character

-- it is that of what stands behind
last_behind : {X : Type 0} (o : Option X) (xs : List X) (y : X) (ys : List X) → last_or o (xs ++ y ∷ ys) ≡ last_or (Some y) ys
last_behind o [] y ys = refl
last_behind o (x ∷ xs) y ys = last_behind (Some x) xs y ys

last_digit : (d : ℕ) (ds : List ℕ) → IsDigit d → AllByRecursion IsDigit ds → is_apostrophe (last_or (Some d) ds) ≡ false
last_digit d [] one all = grind (arith, one.0, one.1)
last_digit d (e ∷ ds) one all = last_digit e ds all.0 all.1

-- characters whose first and last one is no apostrophe
legal : (name cs : List ℕ) → chars name ≡ cs → 1 ≤ length cs → length cs ≤ 31 → list_all is_allowed cs ≡ true → is_apostrophe (slice_get cs 0) ≡ false → is_apostrophe (last_or None cs) ≡ false
    → is_sheet_name name ≡ true
unfolding is_sheet_name
legal name cs is some few allowed first last =
    ap (λ xs. has_length xs && list_all is_allowed xs && not (has_outer_apostrophe xs)) is
    ∙ both (has_length cs && list_all is_allowed cs) (not (has_outer_apostrophe cs)) (both (has_length cs) (list_all is_allowed cs) (grind (arith, some, few)) allowed)
    (λ i. not (first i || last i))

-- ---- new sheets

sheet_legal : (n : ℕ) → n < 2 ^ 64 → is_sheet_name (sheet_text n) ≡ true
sheet_legal n h =
    let short : length (decimal n) ≤ 20 = decimal_short n h in
    legal (sheet_text n) (sheet_text n) (sheet_chars n h) (omega arith) (omega (arith, short)) (digits_allowed (decimal n) (decimal_digits n h)) refl (ending (decimal n) (decimal_digits n h))
  where
    ending : (ds : List ℕ) → AllByRecursion IsDigit ds → is_apostrophe (last_or (Some 116) ds) ≡ false
    ending [] all = refl
    ending (d ∷ ds) all = last_digit d ds all.0 all.1

pub new_name_is_legal : (names : List (List ℕ)) → length names < 2 ^ 63 → is_sheet_name (new_name names) ≡ true
new_name_is_legal names below =
    let among = least_among (λ n. is_taken names (sheet_text n)) 1 (length names) in
    sheet_legal _ (omega (arith, among, below))

-- ---- copies

pub ending_length : (n : ℕ) → n < 2 ^ 64 → length (copy_ending n) ≤ 23
ending_length n h = let short : length (decimal n) ≤ 20 = decimal_short n h in let all = length-append (decimal n) (codes ")") in omega (arith, short, all)

ending_allowed : (n : ℕ) → n < 2 ^ 64 → list_all is_allowed (copy_ending n) ≡ true
ending_allowed n h = list_all-append is_allowed (decimal n) (codes ")") ∙ both (list_all is_allowed (decimal n)) true (digits_allowed (decimal n) (decimal_digits n h)) refl

some_taken : (k : ℕ) (cs : List ℕ) → list_all is_allowed cs ≡ true → list_all is_allowed (take k cs) ≡ true
some_taken zero cs all = refl
some_taken (suc k) [] all = refl
some_taken (suc k) (c ∷ cs) all =
    let parts = and_parts (is_allowed c) (list_all is_allowed cs) all in
    both (is_allowed c) (list_all is_allowed (take k cs)) parts.0 (some_taken k cs parts.1)

first_taken : (k : ℕ) (cs rest : List ℕ) → 1 ≤ k → 1 ≤ length cs → slice_get (take k cs ++ rest) 0 ≡ slice_get cs 0
first_taken zero cs rest some long = absurd (omega (arith, some))
first_taken (suc k) [] rest some long = absurd (omega (arith, long))
first_taken (suc k) (c ∷ cs) rest some long = refl

-- what is known of the characters of a legal name
record IsLegal (cs : List ℕ) : Type 0 where
  some : 1 ≤ length cs
  allowed : list_all is_allowed cs ≡ true
  first : is_apostrophe (slice_get cs 0) ≡ false

legal_parts : (name : List ℕ) → is_sheet_name name ≡ true → IsLegal (chars name)
unfolding is_sheet_name
legal_parts name is =
    let cs = chars name in
    let outer = and_parts (has_length cs && list_all is_allowed cs) (not (has_outer_apostrophe cs)) is in
    let inner = and_parts (has_length cs) (list_all is_allowed cs) outer.0 in
    let long = (and_parts (nat_le 1 (length cs)) (nat_le (length cs) 31) inner.0).0 in
    record { some = grind (arith, long); allowed = inner.1; first = none (is_apostrophe (slice_get cs 0)) (is_apostrophe (last_or None cs)) outer.1 }
  where
    none : (a b : Bool) → not (a || b) ≡ true → a ≡ false
    none false b h = refl
    none true b h = sym h

copy_legal : (name : List ℕ) (n : ℕ) → n < 2 ^ 64 → is_sheet_name name ≡ true → is_sheet_name (copy_text name n) ≡ true
copy_legal name n h is =
    let own = legal_parts name is in
    let k = 31 - length (copy_ending n) in
    let short : length (copy_ending n) ≤ 23 = ending_length n h in
    let all = length-append (take k (chars name)) (copy_ending n) in
    let taken = length-take k (chars name) in
    let low = min-le_left k (length (chars name)) in
    legal (copy_text name n) (take k (chars name) ++ copy_ending n) (copy_chars name n h)
    (omega (arith, all)) (omega (arith, all, taken, low, short))
    (list_all-append is_allowed (take k (chars name)) (copy_ending n) ∙ both (list_all is_allowed (take k (chars name))) (list_all is_allowed (copy_ending n)) (some_taken k (chars name) own.allowed) (ending_allowed n h))
    (ap is_apostrophe (first_taken k (chars name) (copy_ending n) (omega (arith, short)) own.some) ∙ own.first)
    (ap is_apostrophe (last_behind None (take k (chars name)) 32 (40 ∷ (decimal n ++ 41 ∷ [])) ∙ last_behind (Some 40) (decimal n) 41 []))

pub copy_name_is_legal : (names : List (List ℕ)) (name : List ℕ) → length names < 2 ^ 63 → is_sheet_name name ≡ true → is_sheet_name (copy_name names name) ≡ true
copy_name_is_legal names name below is =
    let among = least_among (λ n. is_taken names (copy_text name n)) 2 (length names) in
    copy_legal name _ (omega (arith, among, below)) is
