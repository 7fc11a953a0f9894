-- The id of the next sheet is no other sheet's, and sheets whose ids are distinct are no more than there are numbers of 32 bits.
use Rattle.std.proofs.Common.{◌≡◌, ℕ, ◌+◌, ◌≤◌, ◌<◌, ◌==◌, Bool, true, false, cond, not, List, [], ◌∷◌, length, max, Result, Ok, Err, refl, sym, arith, eqb-true, true≢false}
use Rattle.std.specs.Prelude.{nat_le, ◌||◌}
use Rattle.std.specs.List.{AllByRecursion, IsDistinct, list_any}
use Rattle.std.proofs.Math.Nat.{le-max_left, le-max_right}
use Rattle.std.proofs.lemmas.Bool.{and_parts}
use Rattle.std.proofs.lemmas.Map.Steps.{length-le_from_distinct_below}
use Rattle.base_values.specs.declared.EditError.{EditError}
use Rattle.base_values.specs.declared.EditError.TheVariants.{SheetIds}
use Rattle.sheet_rules.specs.Distinct.{are_distinct}
use Rattle.sheet_naming.specs.NextIds.{greatest, last_id, next_id}

above : (n : ℕ) (ids : List ℕ) → greatest ids < n → AllByRecursion (λ id. id < n) ids
above n [] h = tt
above n (id ∷ ids) h =
    let one : id ≤ max id (greatest ids) = le-max_left id (greatest ids) in
    let rest : greatest ids ≤ max id (greatest ids) = le-max_right id (greatest ids) in
    (omega (arith, one, h), above n ids (omega (arith, rest, h)))

-- each id is below one above the greatest
pub below_next : (ids : List ℕ) → AllByRecursion (λ id. id < greatest ids + 1) ids
below_next ids = above (greatest ids + 1) ids (omega arith)

-- the next id is one above the greatest, and has 32 bits
pub record IsNextId (ids : List ℕ) (id : ℕ) : Type 0 where
  pub is : id ≡ greatest ids + 1
  pub small : greatest ids < 4294967295

pub next_id_is : (ids : List ℕ) (id : ℕ) → next_id ids ≡ Ok id → IsNextId ids id
next_id_is ids id found = go (nat_le last_id (greatest ids)) refl found
  where
    go : (b : Bool) → nat_le last_id (greatest ids) ≡ b → cond b (Err SheetIds) (Ok (greatest ids + 1)) ≡ Ok id → IsNextId ids id
    go true high never = absurd (let no : ◌≡◌ {A = Result ℕ EditError} (Err SheetIds) (Ok id) = never in cc)
    go false low is = record { is = let same : ◌≡◌ {A = Result ℕ EditError} (Ok (greatest ids + 1)) (Ok id) = is in cc; small = grind (arith, low) }

-- ---- how many there are

apart : (id : ℕ) (ids : List ℕ) → not (list_any (λ other. id == other) ids) ≡ true → AllByRecursion (λ other. (id == other) ≡ false) ids
apart id [] h = tt
apart id (other ∷ ids) h =
    elim (id == other) as (λ b. not (b || list_any (λ x. id == x) ids) ≡ true → (b ≡ false) × AllByRecursion (λ x. (id == x) ≡ false) ids)
    [ true ↦ λ never. absurd (true≢false (sym never)) | false ↦ λ rest. (refl, apart id ids rest) ] h

distinct : (ids : List ℕ) → are_distinct (λ a b. a == b) ids ≡ true → IsDistinct (λ a b. a == b) ids
unfolding IsDistinct
distinct [] h = tt
distinct (id ∷ ids) h =
    let parts = and_parts (not (list_any (λ other. id == other) ids)) (are_distinct (λ a b. a == b) ids) h in
    (apart id ids parts.0, distinct ids parts.1)

held : (n q : ℕ) (ids : List ℕ) → AllByRecursion (λ id. id < n) ids → list_any (λ id. q == id) ids ≡ true → q < n
held n q [] all h = absurd (true≢false (sym h))
held n q (id ∷ ids) all h =
    elim (q == id) as (λ b. (q == id) ≡ b → (b || list_any (λ x. q == x) ids) ≡ true → q < n)
    [ true ↦ (λ same any. let is : q ≡ id = eqb-true q id same in omega (arith, is, all.0)) | false ↦ λ other any. held n q ids all.1 any ] refl h

-- sheets whose ids are distinct and below a number are at most so many
pub count_below : (n : ℕ) (ids : List ℕ) → are_distinct (λ a b. a == b) ids ≡ true → AllByRecursion (λ id. id < n) ids → length ids ≤ n
count_below n ids one all = length-le_from_distinct_below ids n (distinct ids one) (λ q h. held n q ids all h)

-- where there is a next id, they are fewer than there are numbers of 32 bits
pub count_small : (ids : List ℕ) (id : ℕ) → are_distinct (λ a b. a == b) ids ≡ true → next_id ids ≡ Ok id → length ids ≤ 4294967295
count_small ids id one found = let next = next_id_is ids id found in count_below 4294967295 ids one (above 4294967295 ids next.small)
