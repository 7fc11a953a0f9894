-- How a document takes the entries of another copy's queue.
use Rattle.std.proofs.Common.{◌≡◌, ◌≢◌, ◌⊎◌, inl, inr, Bool, true, false, ℕ, zero, suc, ◌+◌, ◌<◌, ◌≤◌, List, [], ◌∷◌, ◌++◌, length, take, drop, Result, Ok, Err, refl, sym, ap, subst, ◌∙◌, arith, length-take}
use Rattle.std.specs.Prelude.{IsOkAnd, IsOkUnless, OnOk}
use Rattle.base_values.specs.declared.EditError.{EditError}
use Rattle.base_values.specs.declared.EditError.TheVariants.{DiffRefused, NoMemory}
use Rattle.base_values.specs.Answers.{and_then, map_ok}
use Rattle.sheet_grid.specs.Book.{Book}
use Rattle.sheet_grid.specs.Computed.{Values}
use Rattle.sheet_history.specs.declared.QueueDiffs.{QueueDiffs}
use Rattle.sheet_history.specs.Diffs.{follow, in_entry, replayed, replayed_from}
use Rattle.sheet_wire.specs.QueueBytes.{IsQueue}
use Rattle.open_book.specs.Document.{Document}
use Rattle.open_book.specs.Machine.{State, received, go_on, outside, applied_from, applied}
use Rattle.open_book.specs.Sound.{WhereCarried}
use Rattle.open_book.specs.Stands.{StandsFor, Leaves}
use Rattle.open_book.specs.Values.{Session, IsMade, LeavesMade, Makes, MakesAfter, is_none_left}

-- the first entries of a queue were taken
pub record Reached (entries : List QueueDiffs) (first : State) (i : ℕ) (doc : Document) : Type 0 where
  pub now : State
  pub stands : StandsFor doc now
  pub rest : applied_from i (drop i entries) now ≡ applied_from 0 entries first
  pub front : applied_from 0 (take i entries) first ≡ (now, Ok tt)

pub reached_start : (entries : List QueueDiffs) (s : State) (doc : Document) → StandsFor doc s → Reached entries s 0 doc
reached_start entries s doc stands = record { now = s; stands = stands; rest = refl; front = refl }

-- behind the last entry there is none
pub drop_all : {A : Type 0} (n : ℕ) (xs : List A) → length xs ≤ n → drop n xs ≡ []
drop_all zero [] h = refl
drop_all (suc n) [] h = refl
drop_all zero (x ∷ xs) h = absurd (omega (arith, h))
drop_all (suc n) (x ∷ xs) h = drop_all n xs (omega (arith, h))

abbrev Outcome : Type 0
Outcome = State × Result (Unit {0}) EditError

state_is : (x y : State) → ◌≡◌ {A = Outcome} (x, Ok tt) (y, Ok tt) → x ≡ y
state_is x y is = ap (λ (p : Outcome). p.0) is

never_ok : {X : Type 0} (error : EditError) → ◌≡◌ {A = Result (Unit {0}) EditError} (Err error) (Ok tt) → X
never_ok error h = absurd cc

applied-push : (at : ℕ) (xs : List QueueDiffs) (e : QueueDiffs) (s now next : State) → applied_from at xs s ≡ (now, Ok tt) → received (at + length xs) e now ≡ Ok next → applied_from at (xs ++ e ∷ []) s ≡ (next, Ok tt)
applied-push at [] e s now next so_far is =
    let same : s ≡ now = state_is s now so_far in
    let here : at + 0 ≡ at = omega arith in
    ap (λ (r : Result State EditError). go_on s r (λ x. (x, Ok tt))) (ap (received at e) same ∙ ap (λ n. received n e now) (sym here) ∙ is)
applied-push at (x ∷ xs) e s now next so_far is =
    go (λ y h. applied-push (at + 1) xs e y now next h (ap (λ n. received n e now) (omega arith) ∙ is)) (received at x s) so_far
  where
    go : ((y : State) → applied_from (at + 1) xs y ≡ (now, Ok tt) → applied_from (at + 1) (xs ++ e ∷ []) y ≡ (next, Ok tt))
        → (r : Result State EditError) → go_on s r (applied_from (at + 1) xs) ≡ (now, Ok tt) → go_on s r (applied_from (at + 1) (xs ++ e ∷ [])) ≡ (next, Ok tt)
    go rest (Ok y) h = rest y h
    go rest (Err error) h = never_ok error (ap (λ (p : Outcome). p.1) h)

module _ (entries : List QueueDiffs) (first : State) (i : ℕ) (doc : Document) (reached : Reached entries first i doc) where
  module _ (e : QueueDiffs) (here : drop i entries ≡ e ∷ drop (i + 1) entries) where
    at_here : applied_from 0 entries first ≡ go_on reached.now (received i e reached.now) (applied_from (i + 1) (drop (i + 1) entries))
    at_here = sym reached.rest ∙ ap (λ l. applied_from i l reached.now) here

    pub reached_next : (new : Document) → i < length entries → take (i + 1) entries ≡ take i entries ++ e ∷ [] → IsOkAnd (received i e reached.now) (StandsFor new) → Reached entries first (i + 1) new
    reached_next new within front good = go (received i e reached.now) refl good
      where
        len : 0 + length (take i entries) ≡ i
        len = simp length-take (omega (arith, within))

        go : (r : Result State EditError) → received i e reached.now ≡ r → IsOkAnd r (StandsFor new) → Reached entries first (i + 1) new
        go (Ok next) is stands = record {
          now = next;
          stands = stands;
          rest = sym (at_here ∙ ap (λ (r : Result State EditError). go_on reached.now r (applied_from (i + 1) (drop (i + 1) entries))) is);
          front = ap (λ l. applied_from 0 l first) front ∙ applied-push 0 (take i entries) e first reached.now next reached.front (ap (λ n. received n e reached.now) len ∙ is);
        }
        go (Err error) is stands = absurd stands

    pub reached_refused : (new : Document) (error : EditError) → new ≡ doc → (error ≢ NoMemory → received i e reached.now ≡ Err error) → Leaves (Err error) new entries first
    reached_refused new error same refused = by_error error refused
      where
        stands : StandsFor new reached.now
        stands = subst (λ d. StandsFor d reached.now) (sym same) reached.stands

        at_error : (f : EditError) → received i e reached.now ≡ Err f → applied_from 0 entries first ≡ (reached.now, Err f)
        at_error f is = at_here ∙ ap (λ (r : Result State EditError). go_on reached.now r (applied_from (i + 1) (drop (i + 1) entries))) is

        known : (f : EditError) → received i e reached.now ≡ Err f → ((applied entries first).1 ≡ Err f) × StandsFor new (applied entries first).0
        known f is = (ap (λ (p : Outcome). p.1) (at_error f is), subst (λ (p : Outcome). StandsFor new p.0) (sym (at_error f is)) stands)

        by_error : (f : EditError) → (f ≢ NoMemory → received i e reached.now ≡ Err f) → Leaves (Err f) new entries first
        by_error NoMemory r = (i, subst (λ (p : Outcome). StandsFor new p.0) (sym reached.front) stands)
        by_error f r = known f (r (λ is. cc))

  pub reached_end : drop i entries ≡ [] → Leaves (Ok tt) doc entries first
  reached_end none =
      let all : applied_from 0 entries first ≡ (reached.now, Ok tt) = sym reached.rest ∙ ap (λ l. applied_from i l reached.now) none in
      (ap (λ (p : Outcome). p.1) all, subst (λ (p : Outcome). StandsFor doc p.0) (sym all) reached.stands)

-- ---- values

-- all entries are the first ones up to their number, or to one past it
take_all : {A : Type 0} (n : ℕ) (xs : List A) → length xs ≤ n → take n xs ≡ xs
take_all zero [] h = refl
take_all (suc n) [] h = refl
take_all zero (x ∷ xs) h = absurd (omega (arith, h))
take_all (suc n) (x ∷ xs) h = ap (λ l. x ∷ l) (take_all n xs (omega (arith, h)))

-- of a list that ends in an entry some entry is left
some_left : {A : Type 0} (xs : List A) (x : A) → is_none_left (xs ++ x ∷ []) ≡ false
some_left [] x = refl
some_left (y ∷ xs) x = refl

-- a refusal in an entry has its number
number_is : (i : ℕ) (r : Result Book EditError) (f : Book → State) (at diff : ℕ) → map_ok f (in_entry i r) ≡ Err (DiffRefused at diff) → at ≡ i
number_is i (Ok book) f at diff is = absurd (let never : ◌≡◌ {A = Result State EditError} (Ok (f book)) (Err (DiffRefused at diff)) = is in cc)
number_is i (Err (DiffRefused entry other)) f at diff is = let same : ◌≡◌ {A = Result State EditError} (Err (DiffRefused i other)) (Err (DiffRefused at diff)) = is in cc
number_is i (Err error) f at diff is = absurd (let never : ◌≡◌ {A = Result State EditError} (Err error) (Err (DiffRefused at diff)) = is in cc)

module _ (Fits : Book → Values → Type 0) (first old : Session) where
  -- one entry more was followed, and values were made
  pub made_next : (entries : List QueueDiffs) (i : ℕ) (e : QueueDiffs) → take (i + 1) entries ≡ take i entries ++ e ∷ [] → IsMade Fits old → MakesAfter (i + 1) entries Fits first old
  made_next entries i e front output = subst (λ b. Makes b Fits first old) (sym (ap (λ l. is_none_left l) front ∙ some_left (take i entries) e)) output

  -- all entries were followed
  pub made_all : (entries : List QueueDiffs) (i : ℕ) → length entries ≤ i → MakesAfter i entries Fits first old → Makes (is_none_left entries) Fits first old
  made_all entries i over output = subst (λ l. Makes (is_none_left l) Fits first old) (take_all i entries over) output

  -- a refused entry leaves what was made by those before it, or what was there at first
  pub made_refused : (new : Session) → new ≡ old → (entries : List QueueDiffs) (i : ℕ) (r : Result Book EditError) (f : Book → State) → MakesAfter i entries Fits first old
      → (error : EditError) → (error ≢ NoMemory → map_ok f (in_entry i r) ≡ Err error) → LeavesMade (Err error) entries Fits first new
  made_refused new same entries i r f output = by_error
    where
      after : MakesAfter i entries Fits first new
      after = subst (λ n. MakesAfter i entries Fits first n) (sym same) output

      by_error : (error : EditError) → (error ≢ NoMemory → map_ok f (in_entry i r) ≡ Err error) → LeavesMade (Err error) entries Fits first new
      by_error (DiffRefused at diff) refused = subst (λ n. MakesAfter n entries Fits first new) (sym (number_is i r f at diff (refused (λ is. cc)))) after
      by_error error refused = (i, after)

-- values were made, or all stays
either_made : (none : Bool) (Fits : Book → Values → Type 0) (old new : Session) → Makes none Fits old new → IsMade Fits new ⊎ (new ≡ old)
either_made true Fits old new same = inr same
either_made false Fits old new output = inl output

pub left_made : (result : Result (Unit {0}) EditError) (entries : List QueueDiffs) (Fits : Book → Values → Type 0) (old new : Session) → LeavesMade result entries Fits old new → IsMade Fits new ⊎ (new ≡ old)
left_made (Ok u) entries Fits old new output = either_made (is_none_left entries) Fits old new output
left_made (Err (DiffRefused at diff)) entries Fits old new output = either_made (is_none_left (take at entries)) Fits old new output
left_made (Err error) entries Fits old new output = either_made (is_none_left (take output.0 entries)) Fits old new output.1

-- ---- entries that lead to a later workbook

abbrev IsLed : Outcome → Book → Type 0
IsLed outcome later = (outcome.1 ≡ Ok tt) × (outcome.0.present ≡ later)

applied_led : (at : ℕ) (entries : List QueueDiffs) (s : State) (later : Book) → replayed_from at s.present entries ≡ Ok later → IsLed (applied_from at entries s) later
applied_led at [] s later is = (refl, cc)
applied_led at (entry ∷ entries) s later is = go (λ t led. applied_led (at + 1) entries t later led) (in_entry at (follow entry.kind s.present entry.list)) is
  where
    go : ((t : State) → replayed_from (at + 1) t.present entries ≡ Ok later → IsLed (applied_from (at + 1) entries t) later)
        → (r : Result Book EditError) → and_then r (λ next. replayed_from (at + 1) next entries) ≡ Ok later → IsLed (go_on s (map_ok (outside entry s) r) (applied_from (at + 1) entries)) later
    go rest (Ok next) e = rest (outside entry s next) e
    go rest (Err error) e = absurd (let never : ◌≡◌ {A = Result Book EditError} (Err error) (Ok later) = e in cc)

module _ (entries : List QueueDiffs) (s : State) (later : Book) (new : Document) (led : replayed s.present entries ≡ Ok later) where
  led_there : (result : Result (Unit {0}) EditError) → Leaves result new entries s → OnOk result (new.book ≡ later)
  led_there (Ok u) leaves = ap (λ (d : Document). d.book) leaves.1.document ∙ (applied_led 0 entries s later led).1
  led_there (Err error) leaves = tt

  refused_never : (error : EditError) → (applied entries s).1 ≡ Err error → ⊥
  refused_never error is = never_ok error (sym is ∙ (applied_led 0 entries s later led).0)

  led_only : (result : Result (Unit {0}) EditError) → Leaves result new entries s → IsOkUnless result NoMemory
  led_only (Ok u) leaves = tt
  led_only (Err NoMemory) leaves = refl
  led_only (Err error) leaves = absurd (refused_never error leaves.0)

-- bytes that carry the workbook lead to the later one, and memory alone stops them
module _ (result : Result (Unit {0}) EditError) (old new : Document) (s : State) (bytes : List ℕ) (stands : StandsFor old s)
    (leaves : (entries : List QueueDiffs) → IsQueue bytes entries → Leaves result new entries s) where
  from_there : (entries : List QueueDiffs) (later : Book) → replayed old.book entries ≡ Ok later → replayed s.present entries ≡ Ok later
  from_there entries later led = subst (λ (book : Book). replayed book entries ≡ Ok later) (ap (λ (d : Document). d.book) stands.document) led

  pub carried_there : WhereCarried bytes old.book (λ later. OnOk result (new.book ≡ later))
  carried_there = λ entries later fits carries. led_there entries s later new (from_there entries later carries.led) result (leaves entries (record { fits = fits; encoded = carries.encoded }))

  pub carried_only : WhereCarried bytes old.book (λ later. IsOkUnless result NoMemory)
  carried_only = λ entries later fits carries. led_only entries s later new (from_there entries later carries.led) result (leaves entries (record { fits = fits; encoded = carries.encoded }))
