-- What lines have that are brought in, line by line.
use Rattle.std.proofs.Common.{◌≡◌, ℕ, zero, suc, ℤ, pos, negsuc, ◌+ℤ◌, Bool, true, false, cond, Option, Some, None, refl, ap, sym, ◌∙◌, arith}
use Rattle.std.specs.Prelude.{◌&&◌, ◌||◌, List, is_some, if◌then◌else◌}
use Rattle.std.proofs.lemmas.Int.{ints}
use Rattle.std.specs.Cmp.{int_cmp_total}
use Rattle.std.specs.List.{cons_option, list_any}
use Rattle.std.specs.Ordering.{int_cmp, eq_by_cmp}
use Rattle.std.specs.FinMap.{FinMap, get, get-insert, int_cmp-IsAntisymmetric, same_map}
use Rattle.base_values.specs.Places.{is_line, as_line}
use Rattle.base_axis.specs.Along.{Along}
use Rattle.base_maps.specs.Carried.{if_there, overlaid}
use Rattle.base_maps.specs.laws.Gathering.{get-map_at, get-overlaid, with_made}
use Rattle.line_edits.specs.declared.Block.{Block}
use Rattle.line_edits.specs.Edit.{amount, is_in_block}
use Rattle.line_edits.specs.Moves.{is_brought}
use Rattle.line_map.specs.Attributes.{block_lines, heirs, line_brought, lines_from}

pub both_of : (a b : Bool) → (a && b) ≡ true → (a ≡ true) × (b ≡ true)
both_of true true h = (refl, refl)
both_of true false h = absurd (cc)
both_of false b h = absurd (cc)

-- whether a line is one of these
abbrev is_among : List ℤ → ℤ → Bool
is_among lines n = list_any (eq_by_cmp int_cmp n) lines

in_block : (last first count n : ℤ) → is_among (lines_from last first (amount count)) n ≡ (is_in_block first count n && is_line last n)
unfolding is_in_block as_line
in_block last first (pos zero) n = grind (arith, ints)
in_block last first (pos (suc i)) n = elim (is_line last (first +ℤ pos i)) as (λ t. is_line last (first +ℤ pos i) ≡ t →
    is_among (cons_option (if t then Some (first +ℤ pos i) else None) (lines_from last first i)) n ≡ (is_in_block first (pos (suc i)) n && is_line last n)) [
      | true ↦ λ on. ap (λ a. eq_by_cmp int_cmp n (first +ℤ pos i) || a) (in_block last first (pos i) n) ∙ grind (arith, ints)
      | false ↦ λ off. in_block last first (pos i) n ∙ grind (arith, ints)
    ] refl
in_block last first (negsuc k) n = grind (arith, ints)

-- the lines of a block are those that are brought in and lines of the axis
among_lines : (last : ℤ) (o : Option Block) (n : ℤ) → is_among (block_lines last o) n ≡ (is_brought o n && is_line last n)
among_lines last None n = refl
among_lines last (Some block) n = in_block last block.first block.count n

module _ {X : Type 0} where
  -- what a line has of those that were brought in
  pub get-heirs : (b : Along) (same : X → X → Bool) (o : Option Block) (m : FinMap int_cmp X) (n : ℤ) →
      get (heirs b same o m) n ≡ (if is_brought o n && is_line b.last n then if_there o (line_brought b same m) else None)
  get-heirs b same o m n = get-map_at int_cmp int_cmp_total int_cmp-IsAntisymmetric _ (block_lines b.last o) n (λ x h. among_lines b.last o n ∙ passed _ _ x h)
    where
      passed : (t : Bool) (v : Option X) (x : X) → (if t then v else None) ≡ Some x → t ≡ true
      passed true v x h = refl
      passed false v x h = absurd (cc)

  -- these lines have a value, if there is one, and all others what they had
  abbrev pub Filled : List ℤ → Option X → FinMap int_cmp X → FinMap int_cmp X → Type 0
  Filled lines value old new = (n : ℤ) → get new n ≡ (if is_among lines n then (if is_some value then value else get old n) else get old n)

  pub none_filled : (lines : List ℤ) (old : FinMap int_cmp X) → Filled lines None old old
  none_filled lines old n = elim (is_among lines n) as (λ t. get old n ≡ (if t then get old n else get old n)) [ true ↦ refl | false ↦ refl ]

  -- one more line has it
  pub filled_more : (last first : ℤ) (i : ℕ) (line : ℤ) (x : X) (old before after : FinMap int_cmp X) → line ≡ first +ℤ pos i →
      Filled (lines_from last first i) (Some x) old before → after ≡ with_made (if_there (as_line last line) (λ n. Some (n, x))) before →
      Filled (lines_from last first (suc i)) (Some x) old after
  filled_more last first i line x old before after is was now n =
      ap (λ m. get m n) (now ∙ ap (λ line. with_made (if_there (as_line last line) (λ n. Some (n, x))) before) is) ∙ put (as_line last (first +ℤ pos i))
    where
      put : (o : Option ℤ) → get (with_made (if_there o (λ n. Some (n, x))) before) n ≡
          (if is_among (cons_option o (lines_from last first i)) n then Some x else get old n)
      put None = was n
      put (Some k) = get-insert int_cmp_total before k x n ∙ ap (cond (eq_by_cmp int_cmp n k) (Some x)) (was n)
          ∙ elim (eq_by_cmp int_cmp n k) as (λ e. cond e (Some x) (if is_among (lines_from last first i) n then Some x else get old n) ≡
          (if e || is_among (lines_from last first i) n then Some x else get old n)) [ true ↦ refl | false ↦ refl ]

  module _ (b : Along) (same : X → X → Bool) (o : Option Block) (m carried : FinMap int_cmp X) where
    -- with what lines have that are brought in each of these has that, and each other one what was carried along
    pub get-brought : (n : ℤ) → get (overlaid (heirs b same o m) carried) n ≡ (let taken : Option X = if_there o (line_brought b same m) in
        if is_brought o n && is_line b.last n then (if is_some taken then taken else get carried n) else get carried n)
    get-brought n = get-overlaid int_cmp int_cmp_total int_cmp-IsAntisymmetric (heirs b same o m) carried n
        ∙ ap (λ h. cond (is_some h) h (get carried n)) (get-heirs b same o m n)
        ∙ elim (is_brought o n && is_line b.last n) as (λ t. let h : Option X = if_there o (line_brought b same m) in let v : Option X = get carried n in
        cond (is_some (if t then h else None)) (if t then h else None) v ≡ (if t then (if is_some h then h else v) else v)) [ true ↦ refl | false ↦ refl ]

    -- so it is once they are filled with what they take
    pub filled_all : (taken : Option X) (output : FinMap int_cmp X) → Filled (block_lines b.last o) taken carried output →
        if_there o (line_brought b same m) ≡ taken → output ≡ overlaid (heirs b same o m) carried
    filled_all taken output filled is = same_map int_cmp_total int_cmp-IsAntisymmetric _ _ (λ n. filled n
        ∙ (λ j. if among_lines b.last o n j then (if is_some (sym is j) then sym is j else get carried n) else get carried n) ∙ sym (get-brought n))
