-- A loop over the cells of a map that adds the diffs of some of them.
use Rattle.std.proofs.Common.{◌≡◌, List, [], ◌∷◌, ◌++◌, map, Option, Some, None, ap, sym, ◌∙◌, append_assoc}
use Rattle.std.specs.List.{filter_map, cons_option}
use Rattle.std.specs.Map.Iter.{TakesFirst}
use Rattle.std.proofs.lemmas.List.{append-nil}
use Rattle.std.proofs.lemmas.Map.Iter.{rest_more, rest_all}
use Rattle.std.specs.FinMap.{FinMap, entries}
use Rattle.base_values.specs.declared.Position.{Position}
use Rattle.base_values.specs.Places.{position_cmp}
use Rattle.base_values.specs.laws.Places.{position_total, exact_positions}
use Rattle.base_maps.specs.laws.Turns.{turn_seen, turn_held}
use Rattle.sheet_grid.specs.declared.Cell.{Cell}
use Rattle.sheet_grid.specs.CanonicalCell.{IsCanonicalCell, CanonicalCells}
use Rattle.base_maps.specs.laws.Each.{each_found}
use Rattle.sheet_history.specs.declared.Diff.{Diff}
use Rattle.sheet_history.specs.Diffs.{IsCanonicalList}

-- the entries seen and those left are all, and the list has the diffs of those seen behind what it had
pub record Adds {A : Type 0} (shows : A → Position × Cell) (diff_of : Position × Cell → Option Diff) (cells : FinMap position_cmp Cell)
    (own : List Diff) (seen : List A) (left : List (Position × Cell)) (diffs : List Diff) : Type 0 where
  pub all : map shows seen ++ left ≡ entries cells
  pub now : diffs ++ filter_map diff_of left ≡ own ++ filter_map diff_of (entries cells)
  pub canonical : IsCanonicalList diffs

more : (o : Option Diff) (ds es : List Diff) → (ds ++ cons_option o []) ++ es ≡ ds ++ cons_option o es
more None ds es = ap (λ xs. xs ++ es) (append-nil ds)
more (Some d) ds es = append_assoc ds (d ∷ []) es

module _ {A : Type 0} {shows : A → Position × Cell} {diff_of : Position × Cell → Option Diff}
    {cells : FinMap position_cmp Cell} {own : List Diff} {seen : List A} {left : List (Position × Cell)} {before : List Diff}
    (so_far : Adds shows diff_of cells own seen left before) where
  -- the cell at hand is one of the map
  pub adds_kept : CanonicalCells cells → (rest : List (Position × Cell)) {r : Option A} (y : A) → r ≡ Some y → TakesFirst shows left r rest
      → IsCanonicalCell (shows y).1
  adds_kept kept rest {r = r} y is steps =
      each_found position_cmp (λ place cell. IsCanonicalCell cell) cells kept (shows y).0 (shows y).1
      (turn_held position_cmp position_total exact_positions shows cells seen y left rest so_far.all (rest_more shows left rest r y is steps))

  -- and is seen now
  pub adds_on : {rest : List (Position × Cell)} {r : Option A} {after : List Diff} (y : A) → r ≡ Some y → TakesFirst shows left r rest
      → after ≡ before ++ cons_option (diff_of (shows y)) [] → IsCanonicalList after
      → Adds shows diff_of cells own (seen ++ y ∷ []) rest after
  adds_on {rest = rest} {r = r} {after = after} y is steps now kept = record {
    all = turn_seen position_cmp position_total exact_positions shows cells seen y left rest so_far.all (rest_more shows left rest r y is steps);
    now = ap (λ ds. ds ++ filter_map diff_of rest) now ∙ more (diff_of (shows y)) before (filter_map diff_of rest)
        ∙ sym (ap (λ es. before ++ filter_map diff_of es) (rest_more shows left rest r y is steps)) ∙ so_far.now;
    canonical = kept;
  }

  -- all are seen
  pub adds_all : (rest : List (Position × Cell)) {r : Option A} → r ≡ None → TakesFirst shows left r rest → before ≡ own ++ filter_map diff_of (entries cells)
  adds_all rest {r = r} is steps =
      sym (append-nil before) ∙ sym (ap (λ es. before ++ filter_map diff_of es) (rest_all shows left rest r is steps)) ∙ so_far.now
