-- The constants of arrays.
use Rattle.std.specs.Prelude.{◌≡◌, ℤ, pos, neg_ℤ, Bool, true, false, if◌then◌else◌, int_le, List, [], ◌∷◌, ◌++◌, Some, None}
use Rattle.std.specs.List.{flat_map, list_all}
use Rattle.std.proofs.Common.{refl, ap, sym, ◌∙◌, arith}
use Rattle.std.proofs.lemmas.Int.{ints}
use Rattle.std.proofs.lemmas.List.{append_assoc, append-nil}
use Rattle.base_tables.specs.declared.Language.{Language}
use Rattle.base_tables.specs.declared.Language.TheVariants.{En, De, Fr, Es}
use Rattle.base_tables.specs.Language.{boolean_text, boolean_of_text}
use Rattle.base_tables.specs.laws.Tables.{both_parts}
use Rattle.base_decimal.specs.declared.Decimal.{Decimal}
use Rattle.formula_tree.specs.declared.ArrayItem.{ArrayItem}
use Rattle.formula_tree.specs.declared.ArrayItem.TheVariants as i
use Rattle.formula_grammar.specs.declared.Profile.{Profile}
use Rattle.formula_grammar.specs.declared.Token.{Token}
use Rattle.formula_grammar.specs.declared.Token.TheVariants as t
use Rattle.formula_grammar.specs.Grammar.{Item, plain, negative, quoted, boolean, failed, item_value}
use Rattle.formula_grammar.specs.Grammar.{Rows, last, beside, above, rows_tokens, rows_lines, before_line}
use Rattle.formula_grammar.specs.Grammar as grammar
use Rattle.formula_grammar.specs.Normal.{has_item}
use Rattle.formula_grammar.specs.Words.{separator_token, row_token, negated}
use Rattle.formula_round.specs.Tokens.{item_tokens, later_item, line_tokens, later_line, lines_tokens}

-- a truth value's word is read as the value
pub boolean_of_text-boolean_text : (language : Language) (value : Bool) → boolean_of_text language (boolean_text language value) ≡ Some value
boolean_of_text-boolean_text En true = refl
boolean_of_text-boolean_text En false = refl
boolean_of_text-boolean_text De true = refl
boolean_of_text-boolean_text De false = refl
boolean_of_text-boolean_text Fr true = refl
boolean_of_text-boolean_text Fr false = refl
boolean_of_text-boolean_text Es true = refl
boolean_of_text-boolean_text Es false = refl

record Constant (p : Profile) (tokens : List Token) (x : ArrayItem) : Type 0 where
  pub by : Item p
  pub spells : grammar.item_tokens by ≡ tokens
  pub gives : item_value by ≡ x

-- the tokens are rows with these lines
pub record Table (p : Profile) (tokens : List Token) (lines : List (List ArrayItem)) : Type 0 where
  pub by : Rows p
  pub spells : rows_tokens by ≡ tokens
  pub gives : rows_lines by ≡ lines

-- ---- constants

opposite : (z : ℤ) → int_le (pos 0) z ≡ false → int_le (pos 0) (neg_ℤ z) ≡ true
opposite z e = grind (arith, ints)

twice_opposite : (z : ℤ) → neg_ℤ (neg_ℤ z) ≡ z
twice_opposite z = omega (arith, ints)

abbrev opposite_number : Decimal → Decimal
opposite_number value = record value { mantissa = neg_ℤ value.mantissa }

negated_opposite : (value : Decimal) → int_le (pos 0) value.mantissa ≡ false → negated (opposite_number value) ≡ Some value
unfolding negated
negated_opposite value e =
    ap (λ (b : Bool). if b then Some (opposite_number (opposite_number value)) else None) (opposite value.mantissa e)
    ∙ ap (λ (z : ℤ). Some (record value { mantissa = z })) (twice_opposite value.mantissa)

number_constant : {p : Profile} (value : Decimal) (positive : Bool) → int_le (pos 0) value.mantissa ≡ positive
    → Constant p (if positive then t.Number value ∷ [] else t.Minus ∷ t.Number (opposite_number value) ∷ []) (i.Number value)
number_constant value true is = record { by = plain value; spells = refl; gives = refl }
number_constant value false is = record { by = negative (opposite_number value) value (negated_opposite value is); spells = refl; gives = refl }

module _ (p : Profile) where
  constant : (x : ArrayItem) → Constant p (item_tokens p x) x
  constant (i.Boolean value) = record {
    by = boolean (boolean_text p.language value) value (boolean_of_text-boolean_text p.language value);
    spells = refl;
    gives = refl;
  }
  constant (i.Number value) = number_constant value (int_le (pos 0) value.mantissa) refl
  constant (i.Text text) = record { by = quoted text; spells = refl; gives = refl }
  constant (i.Error error) = record { by = failed error; spells = refl; gives = refl }

  -- ---- lines

  abbrev later_items : List ArrayItem → List Token
  later_items = flat_map (later_item p)

  abbrev later_lines : List (List ArrayItem) → List Token
  later_lines = flat_map (later_line p)

  -- a table whose first line is this one
  abbrev Begun : List ArrayItem → List (List ArrayItem) → Type 0
  Begun line lines = Table p (line_tokens p line ++ later_lines lines) (line ∷ lines)

  -- an item beside the first line
  set_beside : (x y : ArrayItem) (ys : List ArrayItem) (lines : List (List ArrayItem)) → Begun (y ∷ ys) lines → Begun (x ∷ y ∷ ys) lines
  set_beside x y ys lines table =
      let first = constant x in
      record {
        by = beside first.by table.by;
        spells = (λ k. first.spells k ++ separator_token p.locale ∷ table.spells k)
            ∙ sym (append_assoc (item_tokens p x) (later_items (y ∷ ys)) (later_lines lines));
        gives = λ k. before_line (first.gives k) (table.gives k);
      }

  last_line : (x : ArrayItem) (xs : List ArrayItem) → Begun (x ∷ xs) []
  last_line x [] =
      let first = constant x in
      record { by = last first.by; spells = first.spells ∙ sym (append-nil _ ∙ append-nil _); gives = λ k. (first.gives k ∷ []) ∷ [] }
  last_line x (y ∷ ys) = set_beside x y ys [] (last_line y ys)

  line_above : (line : List ArrayItem) (lines : List (List ArrayItem)) → Begun line lines → (x : ArrayItem) (xs : List ArrayItem)
      → Begun (x ∷ xs) (line ∷ lines)
  line_above line lines table x [] =
      let first = constant x in
      record {
        by = above first.by table.by;
        spells = (λ k. first.spells k ++ row_token p.locale ∷ table.spells k)
            ∙ ap (λ (l : List Token). l ++ later_lines (line ∷ lines)) (sym (append-nil (item_tokens p x)));
        gives = λ k. (first.gives k ∷ []) ∷ table.gives k;
      }
  line_above line lines table x (y ∷ ys) = set_beside x y ys (line ∷ lines) (line_above line lines table y ys)

  -- lines that have an item each are rows of the grammar
  pub table : (line : List ArrayItem) (lines : List (List ArrayItem)) → list_all has_item (line ∷ lines) ≡ true
      → Table p (lines_tokens p (line ∷ lines)) (line ∷ lines)
  table [] lines full = absurd cc
  table (x ∷ xs) [] full = last_line x xs
  table (x ∷ xs) (line ∷ lines) full = line_above line lines (table line lines (both_parts (has_item (x ∷ xs)) (list_all has_item (line ∷ lines)) full).1) x xs
