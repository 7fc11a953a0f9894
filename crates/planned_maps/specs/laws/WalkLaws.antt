-- Plans and tests of the places of a rectangle reach each of them.
use Rattle.std.proofs.Common.{◌≡◌, ℕ, zero, suc, ◌<◌, ℤ, pos, ◌+ℤ◌, ◌-ℤ◌, ◌≤ℤ◌, Bool, true, false, cond, ◌&&◌, List, [], ◌∷◌, Option, Some, refl, ap, sym, subst, ◌∙◌, arith}
use Rattle.std.specs.Prelude.{◌==◌, ◌||◌, not, unsigned_abs}
use Rattle.std.specs.List.{fold, list_all}
use Rattle.std.specs.Ordering.{eq_by_cmp, int_cmp}
use Rattle.std.specs.Cmp.{int_cmp_total, unsigned_Decides}
use Rattle.std.specs.FinMap.{FinMap, empty, entries, get, get-entries}
use Rattle.std.specs.FinMap.Entries.{find}
use Rattle.std.proofs.lemmas.Int.{ints}
use Rattle.std.proofs.lemmas.Map.Lookups.{exact_signed}
use Rattle.base_values.specs.declared.Position.{Position}
use Rattle.base_values.specs.Places.{position_cmp}
use Rattle.base_values.specs.laws.Places.{position_total, exact_positions}
use Rattle.base_axis.specs.declared.MergedCell.{MergedCell}
use Rattle.base_axis.specs.Along.{Along, rows, columns}
use Rattle.base_axis.specs.Rectangles.{holds, last_of}
use Rattle.base_axis.specs.laws.RectangleLaws.{Holds, holds_found}
use Rattle.base_maps.specs.Carried.{if_there}
use Rattle.base_maps.specs.laws.Gathering.{get-gathered}
use Rattle.base_maps.specs.laws.Inverses.{own_inverse}
use Rattle.base_maps.specs.laws.Keys.{one_key}
use Rattle.planned_maps.specs.Planned.{lines_from, places_of, row_places}
use Rattle.planned_maps.specs.laws.PlanWalks.{chosen_put, kept_put, line_all, line_done, line_passes, line_put, lines_all, lines_put, places_put, put_one, rows_all, rows_put}
use Rattle.planned_maps.specs.Walks.{count_across, place_across}
use Rattle.planned_maps.specs.laws.PlannedLaws.{Fits, Goes, IsIn, earlier, empty_fits, goes_nowhere, goes_on, in_each, in_mapped, line_is_in, one_done, one_goes}

-- ---- lines and places by their indexes

-- a line from a first one on, by how many stand before it
pub record At (first : ℤ) (count : ℕ) (line : ℤ) : Type 0 where
  pub index : ℕ
  pub few : index < count
  pub is : line ≡ first +ℤ pos index

pub at_index : (first count line : ℤ) → first ≤ℤ line → line ≤ℤ last_of first count → At first (unsigned_abs count) line
at_index first count line low high = record { index = unsigned_abs (line -ℤ first); few = omega (arith, ints); is = omega (arith, ints) }

module _ (r : MergedCell) (q : Position) (inside : holds r q ≡ true) where
  held : Holds r q
  held = holds_found r q inside

  pub row_index : At r.row (unsigned_abs r.height) q.row
  row_index = at_index r.row r.height q.row held.row_low held.row_high

  pub column_index : At r.column (unsigned_abs r.width) q.column
  column_index = at_index r.column r.width q.column held.column_low held.column_high

  -- a place that a rectangle holds is one of its list
  pub place_is_in : IsIn q (places_of r)
  place_is_in =
      in_each (λ row. row_places row (lines_from r.column (unsigned_abs r.width))) q.row q (lines_from r.row (unsigned_abs r.height))
      (subst (λ line. IsIn line (lines_from r.row (unsigned_abs r.height))) (sym row_index.is)
      (line_is_in r.row (unsigned_abs r.height) row_index.index row_index.few))
      (in_mapped (λ column. record { row = q.row; column = column }) q.column (lines_from r.column (unsigned_abs r.width))
      (subst (λ line. IsIn line (lines_from r.column (unsigned_abs r.width))) (sym column_index.is)
      (line_is_in r.column (unsigned_abs r.width) column_index.index column_index.few)))

  -- it is the place so many columns behind the first one of its row
  pub across_row : place_across rows r q.row column_index.index ≡ q
  across_row = λ i. record { row = q.row; column = sym column_index.is i }

  -- and so many rows behind the first one of its column
  pub across_column : place_across columns r q.column row_index.index ≡ q
  across_column = λ i. record { row = sym row_index.is i; column = q.column }

-- the place of a rectangle so many rows and columns behind the first one
abbrev row_place : MergedCell → ℕ → ℕ → Position
row_place r across n = place_across rows r (r.row +ℤ pos n) across

-- ---- plans

module _ {X : Type 0} (make : Position → Option X) where
  abbrev pub GoesOn : FinMap position_cmp X → FinMap position_cmp X → Type 0
  GoesOn = Goes position_cmp position_total exact_positions make

  abbrev pub IsFit : FinMap position_cmp X → Type 0
  IsFit = Fits position_cmp position_total exact_positions make

  abbrev on : (m n o : FinMap position_cmp X) → GoesOn m n → GoesOn n o → GoesOn m o
  on = goes_on position_cmp position_total exact_positions make

  abbrev one : (m : FinMap position_cmp X) (key : Position) → GoesOn m (put_one make m key)
  one = one_goes position_cmp position_total exact_positions make

  module _ (a : Along) (r : MergedCell) (line : ℤ) (m : FinMap position_cmp X) where
    pub line_goes : (count : ℕ) → GoesOn m (line_put make a r line m count)
    line_goes zero = goes_nowhere position_cmp position_total exact_positions make m
    line_goes (suc more) =
        on m (line_put make a r line m more) (line_put make a r line m (suc more)) (line_goes more)
        (one (line_put make a r line m more) (place_across a r line more))

    pub line_made : IsFit m → (count index : ℕ) → index < count
        → get (line_put make a r line m count) (place_across a r line index) ≡ make (place_across a r line index)
    line_made fits zero index few = absurd (omega arith)
    line_made fits (suc more) index few = go (line_made fits more index) (index == more) refl
      where
        go : (index < more → get (line_put make a r line m more) (place_across a r line index) ≡ make (place_across a r line index)) → (b : Bool)
            → (index == more) ≡ b
            → get (line_put make a r line m (suc more)) (place_across a r line index) ≡ make (place_across a r line index)
        go rest true same =
            subst (λ n. get (line_put make a r line m (suc more)) (place_across a r line n) ≡ make (place_across a r line n))
            (sym ((unsigned_Decides index more).0 same))
            (one_done position_cmp position_total exact_positions make (line_put make a r line m more) (place_across a r line more)
            ((line_goes more).fits fits))
        go rest false other =
            (one (line_put make a r line m more) (place_across a r line more)).kept (place_across a r line index) (rest (earlier index more few other))

  module _ (r : MergedCell) (m : FinMap position_cmp X) where
    pub rows_go : (count : ℕ) → GoesOn m (rows_put make r m count)
    rows_go zero = goes_nowhere position_cmp position_total exact_positions make m
    rows_go (suc more) =
        on m (rows_put make r m more) (rows_put make r m (suc more)) (rows_go more)
        (line_goes rows r (r.row +ℤ pos more) (rows_put make r m more) (count_across rows r))

    pub rows_made : IsFit m → (count index : ℕ) → index < count → (across : ℕ) → across < count_across rows r
        → get (rows_put make r m count) (place_across rows r (r.row +ℤ pos index) across) ≡ make (place_across rows r (r.row +ℤ pos index) across)
    rows_made fits zero index few across near = absurd (omega arith)
    rows_made fits (suc more) index few across near = go (λ low. rows_made fits more index low across near) (index == more) refl
      where
        go : (index < more → get (rows_put make r m more) (row_place r across index) ≡ make (row_place r across index)) → (b : Bool) → (index == more) ≡ b
            → get (rows_put make r m (suc more)) (row_place r across index) ≡ make (row_place r across index)
        go rest true same =
            subst (λ n. get (rows_put make r m (suc more)) (row_place r across n) ≡ make (row_place r across n)) (sym ((unsigned_Decides index more).0 same))
            (line_made rows r (r.row +ℤ pos more) (rows_put make r m more) ((rows_go more).fits fits) (count_across rows r) across near)
        go rest false other =
            (line_goes rows r (r.row +ℤ pos more) (rows_put make r m more) (count_across rows r)).kept (row_place r across index)
            (rest (earlier index more few other))

  module _ {C : Type 0} where
    abbrev put : FinMap position_cmp X → Position × C → FinMap position_cmp X
    put output e = put_one make output e.0

    places_go : (es : List (Position × C)) (m : FinMap position_cmp X) → GoesOn m (fold put m es)
    places_go [] m = goes_nowhere position_cmp position_total exact_positions make m
    places_go (e ∷ es) m = on m (put m e) (fold put (put m e) es) (one m e.0) (places_go es (put m e))

    places_made : (es : List (Position × C)) (m : FinMap position_cmp X) → IsFit m → (q : Position) (c : C) → find position_cmp q es ≡ Some c
        → get (fold put m es) q ≡ make q
    places_made [] m fits q c found = absurd (cc)
    places_made (e ∷ es) m fits q c found = go (places_made es (put m e) ((one m e.0).fits fits) q c) (eq_by_cmp position_cmp q e.0) refl found
      where
        go : (find position_cmp q es ≡ Some c → get (fold put (put m e) es) q ≡ make q) → (b : Bool) → eq_by_cmp position_cmp q e.0 ≡ b
            → cond b (Some e.1) (find position_cmp q es) ≡ Some c → get (fold put (put m e) es) q ≡ make q
        go rest true same it = (places_go es (put m e)).kept q
            (subst (λ k. get (put m e) k ≡ make k) (sym (one_key position_cmp position_total exact_positions q e.0 same))
            (one_done position_cmp position_total exact_positions make m e.0 fits))
        go rest false other it = rest it

    pub all_places_go : (places : FinMap position_cmp C) (m : FinMap position_cmp X) → GoesOn m (places_put make m places)
    all_places_go places m = places_go (entries places) m

    pub all_places_made : (places : FinMap position_cmp C) (m : FinMap position_cmp X) → IsFit m → (q : Position) (c : C) → get places q ≡ Some c
        → get (places_put make m places) q ≡ make q
    all_places_made places m fits q c found = places_made (entries places) m fits q c (sym (get-entries places q) ∙ found)

  module _ {V : Type 0} (test : V → Bool) (a : Along) (r : MergedCell) where
    abbrev choose : FinMap position_cmp X → ℤ × V → FinMap position_cmp X
    choose output e = cond (test e.1) (line_done make a r e.0 output) output

    choice_goes : (m : FinMap position_cmp X) (e : ℤ × V) → GoesOn m (choose m e)
    choice_goes m e = elim (test e.1) as (λ b. GoesOn m (cond b (line_done make a r e.0 m) m))
        [ true ↦ line_goes a r e.0 m (count_across a r) | false ↦ goes_nowhere position_cmp position_total exact_positions make m ]

    chosen_go : (es : List (ℤ × V)) (m : FinMap position_cmp X) → GoesOn m (fold choose m es)
    chosen_go [] m = goes_nowhere position_cmp position_total exact_positions make m
    chosen_go (e ∷ es) m = on m (choose m e) (fold choose (choose m e) es) (choice_goes m e) (chosen_go es (choose m e))

    chosen_made : (es : List (ℤ × V)) (m : FinMap position_cmp X) → IsFit m → (line : ℤ) (v : V) → find int_cmp line es ≡ Some v → test v ≡ true
        → (index : ℕ) → index < count_across a r → get (fold choose m es) (place_across a r line index) ≡ make (place_across a r line index)
    chosen_made [] m fits line v found tested index few = absurd (cc)
    chosen_made (e ∷ es) m fits line v found tested index few =
        go (λ it. chosen_made es (choose m e) ((choice_goes m e).fits fits) line v it tested index few) (eq_by_cmp int_cmp line e.0) refl found
      where
        here : get (choose m e) (place_across a r e.0 index) ≡ make (place_across a r e.0 index) → line ≡ e.0
            → get (choose m e) (place_across a r line index) ≡ make (place_across a r line index)
        here output same = subst (λ l. get (choose m e) (place_across a r l index) ≡ make (place_across a r l index)) (sym same) output

        go : (find int_cmp line es ≡ Some v → get (fold choose (choose m e) es) (place_across a r line index) ≡ make (place_across a r line index))
            → (b : Bool) → eq_by_cmp int_cmp line e.0 ≡ b → cond b (Some e.1) (find int_cmp line es) ≡ Some v
            → get (fold choose (choose m e) es) (place_across a r line index) ≡ make (place_across a r line index)
        go rest true same it =
            let own : e.1 ≡ v = cc in
            let passed : test e.1 ≡ true = ap test own ∙ tested in
            (chosen_go es (choose m e)).kept (place_across a r line index)
            (here
            (ap (λ b. get (cond b (line_done make a r e.0 m) m) (place_across a r e.0 index)) passed ∙ line_made a r e.0 m fits (count_across a r) index few)
            (one_key int_cmp int_cmp_total exact_signed line e.0 same))
        go rest false other it = rest it

    pub all_chosen_go : (lines : FinMap int_cmp V) (m : FinMap position_cmp X) → GoesOn m (chosen_put make test a r m lines)
    all_chosen_go lines m = chosen_go (entries lines) m

    pub all_chosen_made : (lines : FinMap int_cmp V) (m : FinMap position_cmp X) → IsFit m → (line : ℤ) (v : V) → get lines line ≡ Some v → test v ≡ true
        → (index : ℕ) → index < count_across a r → get (chosen_put make test a r m lines) (place_across a r line index) ≡ make (place_across a r line index)
    all_chosen_made lines m fits line v found tested index few =
        chosen_made (entries lines) m fits line v (sym (get-entries lines line) ∙ found) tested index few

-- ---- plans of lines

module _ {X : Type 0} (make : ℤ → Option X) (first : ℤ) where
  pub lines_go : (count : ℕ) → Goes int_cmp int_cmp_total exact_signed make empty (lines_put make first count)
  lines_go zero = goes_nowhere int_cmp int_cmp_total exact_signed make empty
  lines_go (suc more) =
      goes_on int_cmp int_cmp_total exact_signed make empty (lines_put make first more) (lines_put make first (suc more)) (lines_go more)
      (one_goes int_cmp int_cmp_total exact_signed make (lines_put make first more) (first +ℤ pos more))

  pub lines_fit : (count : ℕ) → Fits int_cmp int_cmp_total exact_signed make (lines_put make first count)
  lines_fit count = (lines_go count).fits (empty_fits int_cmp int_cmp_total exact_signed make)

  pub lines_made : (count index : ℕ) → index < count → get (lines_put make first count) (first +ℤ pos index) ≡ make (first +ℤ pos index)
  lines_made zero index few = absurd (omega arith)
  lines_made (suc more) index few = go (lines_made more index) (index == more) refl
    where
      go : (index < more → get (lines_put make first more) (first +ℤ pos index) ≡ make (first +ℤ pos index)) → (b : Bool) → (index == more) ≡ b
          → get (lines_put make first (suc more)) (first +ℤ pos index) ≡ make (first +ℤ pos index)
      go rest true same =
          subst (λ n. get (lines_put make first (suc more)) (first +ℤ pos n) ≡ make (first +ℤ pos n)) (sym ((unsigned_Decides index more).0 same))
          (one_done int_cmp int_cmp_total exact_signed make (lines_put make first more) (first +ℤ pos more) (lines_fit more))
      go rest false other =
          (one_goes int_cmp int_cmp_total exact_signed make (lines_put make first more) (first +ℤ pos more)).kept (first +ℤ pos index)
          (rest (earlier index more few other))

-- what is made of a line that has an entry, and of no other one
pub get-kept_put : {X V : Type 0} (make : ℤ → Option X) (lines : FinMap int_cmp V) (line : ℤ)
    → get (kept_put make lines) line ≡ if_there (get lines line) (λ v. make line)
get-kept_put make lines line = get-gathered int_cmp int_cmp_total exact_signed Some Some own_inverse (λ _ line attr. make line) lines line

-- ---- tests

both : (a b : Bool) → (a && b) ≡ true → (a ≡ true) × (b ≡ true)
both true b h = (refl, h)
both false b h = absurd (let never : false ≡ true = h in cc)

or_passed : (a b : Bool) → a ≡ true → (not a || b) ≡ true → b ≡ true
or_passed true b is h = h
or_passed false b is h = absurd (let never : false ≡ true = is in cc)

or_passes : (a b : Bool) → b ≡ true → (a || b) ≡ true
or_passes true b h = refl
or_passes false b h = h

pub line_test : (passes : ℤ → Bool) (first : ℤ) (count index : ℕ) → index < count → lines_all passes first count ≡ true → passes (first +ℤ pos index) ≡ true
line_test passes first zero index few all = absurd (omega arith)
line_test passes first (suc more) index few all = go (λ low. line_test passes first more index low) (index == more) refl
  where
    parts : (lines_all passes first more ≡ true) × (passes (first +ℤ pos more) ≡ true)
    parts = both (lines_all passes first more) (passes (first +ℤ pos more)) all

    go : (index < more → lines_all passes first more ≡ true → passes (first +ℤ pos index) ≡ true) → (b : Bool) → (index == more) ≡ b
        → passes (first +ℤ pos index) ≡ true
    go rest true same = ap (λ n. passes (first +ℤ pos n)) ((unsigned_Decides index more).0 same) ∙ parts.1
    go rest false other = rest (earlier index more few other) parts.0

pub lines_pass : (passes : ℤ → Bool) (first : ℤ) → ((line : ℤ) → passes line ≡ true) → (count : ℕ) → lines_all passes first count ≡ true
lines_pass passes first each zero = refl
lines_pass passes first each (suc more) = λ i. lines_pass passes first each more i && each (first +ℤ pos more) i

module _ (passes : Position → Bool) where
  module _ (a : Along) (r : MergedCell) (line : ℤ) where
    pub across_test : (count index : ℕ) → index < count → line_all passes a r line count ≡ true → passes (place_across a r line index) ≡ true
    across_test zero index few all = absurd (omega arith)
    across_test (suc more) index few all = go (across_test more index) (index == more) refl
      where
        parts : (line_all passes a r line more ≡ true) × (passes (place_across a r line more) ≡ true)
        parts = both (line_all passes a r line more) (passes (place_across a r line more)) all

        go : (index < more → line_all passes a r line more ≡ true → passes (place_across a r line index) ≡ true) → (b : Bool) → (index == more) ≡ b
            → passes (place_across a r line index) ≡ true
        go rest true same = ap (λ n. passes (place_across a r line n)) ((unsigned_Decides index more).0 same) ∙ parts.1
        go rest false other = rest (earlier index more few other) parts.0

  pub rows_test : (r : MergedCell) (count index : ℕ) → index < count → (across : ℕ) → across < count_across rows r → rows_all passes r count ≡ true
      → passes (place_across rows r (r.row +ℤ pos index) across) ≡ true
  rows_test r zero index few across near all = absurd (omega arith)
  rows_test r (suc more) index few across near all = go (λ low. rows_test r more index low across near) (index == more) refl
    where
      parts : (rows_all passes r more ≡ true) × (line_passes passes rows r (r.row +ℤ pos more) ≡ true)
      parts = both (rows_all passes r more) (line_passes passes rows r (r.row +ℤ pos more)) all

      go : (index < more → rows_all passes r more ≡ true → passes (place_across rows r (r.row +ℤ pos index) across) ≡ true) → (b : Bool) → (index == more) ≡ b
          → passes (place_across rows r (r.row +ℤ pos index) across) ≡ true
      go rest true same =
          ap (λ n. passes (place_across rows r (r.row +ℤ pos n) across)) ((unsigned_Decides index more).0 same)
          ∙ across_test rows r (r.row +ℤ pos more) (count_across rows r) across near parts.1
      go rest false other = rest (earlier index more few other) parts.0

  pub places_test : {C : Type 0} (es : List (Position × C)) (q : Position) (c : C) → find position_cmp q es ≡ Some c
      → list_all (λ (e : Position × C). passes e.0) es ≡ true → passes q ≡ true
  places_test [] q c found all = absurd (cc)
  places_test {C} (e ∷ es) q c found all = go (λ it. places_test es q c it) (eq_by_cmp position_cmp q e.0) refl found
    where
      go : (find position_cmp q es ≡ Some c → list_all (λ (f : Position × C). passes f.0) es ≡ true → passes q ≡ true) → (b : Bool)
          → eq_by_cmp position_cmp q e.0 ≡ b
          → cond b (Some e.1) (find position_cmp q es) ≡ Some c → passes q ≡ true
      go rest true same it =
          ap passes (one_key position_cmp position_total exact_positions q e.0 same)
          ∙ (both (passes e.0) (list_all (λ (f : Position × C). passes f.0) es) all).0
      go rest false other it = rest it (both (passes e.0) (list_all (λ (f : Position × C). passes f.0) es) all).1

  pub chosen_test : {V : Type 0} (test : V → Bool) (a : Along) (r : MergedCell) (es : List (ℤ × V)) (line : ℤ) (v : V) → find int_cmp line es ≡ Some v
      → test v ≡ true → (index : ℕ) → index < count_across a r
      → list_all (λ (e : ℤ × V). not (test e.1) || line_passes passes a r e.0) es ≡ true → passes (place_across a r line index) ≡ true
  chosen_test test a r [] line v found tested index few all = absurd (cc)
  chosen_test test a r (e ∷ es) line v found tested index few all =
      go (λ it. chosen_test test a r es line v it tested index few) (eq_by_cmp int_cmp line e.0) refl found
    where
      parts : ((not (test e.1) || line_passes passes a r e.0) ≡ true) × (list_all (λ f. not (test f.1) || line_passes passes a r f.0) es ≡ true)
      parts = both (not (test e.1) || line_passes passes a r e.0) (list_all (λ f. not (test f.1) || line_passes passes a r f.0) es) all

      go : (find int_cmp line es ≡ Some v → list_all (λ f. not (test f.1) || line_passes passes a r f.0) es ≡ true → passes (place_across a r line index)
          ≡ true)
          → (b : Bool) → eq_by_cmp int_cmp line e.0 ≡ b → cond b (Some e.1) (find int_cmp line es) ≡ Some v → passes (place_across a r line index) ≡ true
      go rest true same it =
          let own : e.1 ≡ v = cc in
          ap (λ l. passes (place_across a r l index)) (one_key int_cmp int_cmp_total exact_signed line e.0 same)
          ∙ across_test a r e.0 (count_across a r) index few (or_passed (test e.1) (line_passes passes a r e.0) (ap test own ∙ tested) parts.0)
      go rest false other it = rest it parts.1

  -- where each place passes, they all do
  module _ (each : (q : Position) → passes q ≡ true) where
    pub line_each : (a : Along) (r : MergedCell) (line : ℤ) (count : ℕ) → line_all passes a r line count ≡ true
    line_each a r line zero = refl
    line_each a r line (suc more) = λ i. line_each a r line more i && each (place_across a r line more) i

    pub rows_each : (r : MergedCell) (count : ℕ) → rows_all passes r count ≡ true
    rows_each r zero = refl
    rows_each r (suc more) = λ i. rows_each r more i && line_each rows r (r.row +ℤ pos more) (count_across rows r) i

    pub places_each : {C : Type 0} (es : List (Position × C)) → list_all (λ (e : Position × C). passes e.0) es ≡ true
    places_each [] = refl
    places_each (e ∷ es) = λ i. each e.0 i && places_each es i

    pub chosen_each : {V : Type 0} (test : V → Bool) (a : Along) (r : MergedCell) (es : List (ℤ × V))
        → list_all (λ (e : ℤ × V). not (test e.1) || line_passes passes a r e.0) es ≡ true
    chosen_each test a r [] = refl
    chosen_each test a r (e ∷ es) =
        λ i. or_passes (not (test e.1)) (line_passes passes a r e.0) (line_each a r e.0 (count_across a r)) i && chosen_each test a r es i
