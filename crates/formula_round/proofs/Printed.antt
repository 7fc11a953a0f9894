-- The printed text of a normal tree is its tokens.
use Rattle.std.proofs.Common.{◌≡◌, ℕ, Bool, true, false, List, [], ◌∷◌, ◌++◌, refl, sym, ap, subst, ◌∙◌, append_assoc}
use Rattle.std.specs.Prelude.{pos, not, ◌&&◌, codes, encode_utf8, encode_utf8_all, if◌then◌else◌, int_le, nat_le, map, flat_map, Option, None}
use Rattle.std.specs.List.{AllByRecursion, list_all}
use Rattle.std.specs.Str.{chars, IsUtf8, is_utf8}
use Rattle.std.proofs.lemmas.Bool.{and_from, and_parts}
use Rattle.std.proofs.lemmas.Str.{IsUtf8-from_is_utf8, chars-append}
use Rattle.base_tables.specs.declared.Error.{Error}
use Rattle.base_tables.specs.declared.Function.{Function}
use Rattle.base_tables.specs.declared.Locale.{Locale}
use Rattle.base_tables.specs.Error.{error_text}
use Rattle.base_tables.specs.Function.{function_name}
use Rattle.base_tables.specs.Language.{boolean_text}
use Rattle.base_tables.specs.Locale.{decimal_sign, argument_separator}
use Rattle.base_tables.specs.Tables.{lowered}
use Rattle.base_tables.specs.Word.{is_word, reads_as_cell, doubled}
use Rattle.base_decimal.specs.declared.Decimal.{Decimal}
use Rattle.base_decimal.specs.Canonical.{is_canonical}
use Rattle.base_decimal.specs.Printed.{printed as decimal_text}
use Rattle.base_decimal.proofs.Spans.{not_true}
use Rattle.formula_tree.specs.declared.ArrayItem.{ArrayItem}
use Rattle.formula_tree.specs.declared.Corner.{Corner}
use Rattle.formula_tree.specs.declared.Node.{Node, map-Node}
use Rattle.formula_tree.specs.declared.Node.TheOpen.{Node-F}
use Rattle.formula_tree.specs.declared.Node.TheOpen as layer
use Rattle.formula_tree.specs.declared.Node.TheVariants as n
use Rattle.formula_tree.specs.declared.Node.TheViews.{roll-Node}
use Rattle.formula_tree.specs.declared.numbers.NumberRule.TheVariants.{Canonical}
use Rattle.formula_tree.specs.declared.Parameter.{Parameter}
use Rattle.formula_tree.specs.declared.UnaryKind.{UnaryKind}
use Rattle.formula_tree.specs.declared.UnaryKind.TheVariants.{Minus, Percent}
use Rattle.formula_tree.specs.Corners.{is_inside}
use Rattle.formula_tree.specs.Numbers.{lines_follow, has_canonical_numbers, numbers_follow, numbers_layer}
use Rattle.formula_tree.specs.Placed.{is_placed_range}
use Rattle.formula_tree.specs.laws.Induction.{induct}
use Rattle.formula_tree.specs.declared.Infix.{Infix}
use Rattle.formula_tree.specs.declared.Infix.TheVariants as op
use Rattle.formula_tree.specs.declared.Postfix.TheVariants as postfix
use Rattle.formula_tree.specs.declared.Prefix.TheVariants as prefix
use Rattle.formula_tree.specs.Levels.{infix_level}
use Rattle.formula_print.specs.declared.Kind.{Kind}
use Rattle.formula_print.specs.declared.Kind.TheVariants as k
use Rattle.formula_print.specs.declared.Need.TheVariants as need
use Rattle.formula_print.specs.Forms.{localized_text}
use Rattle.formula_print.specs.Kinds.{level_of, is_lambda}
use Rattle.formula_print.specs.Pieces.{text_constant, lines_text, array_text, parameter_part}
use Rattle.formula_print.specs.Print.{Printed, print_layer, printed, plainly, in_parentheses, operand, infix_text, colon_text, unary_kind, unary_text}
use Rattle.formula_print.specs.Print.{later_argument, arguments_text, lambda_text}
use Rattle.formula_grammar.specs.declared.Profile.{Profile}
use Rattle.formula_grammar.specs.declared.Token.{Token}
use Rattle.formula_grammar.specs.declared.Token.TheVariants as t
use Rattle.formula_grammar.specs.Normal.{Sort, empty, sum, lambda, other, Seen, is_empty, is_callee, operand as is_operand, arguments, is_normal}
use Rattle.formula_grammar.specs.Normal.{is_named, is_text_word, is_plain_name, is_called_name, is_no_capital, is_table, is_parameter}
use Rattle.formula_grammar.specs.Words.{separator_token}
use Rattle.formula_read.specs.Characters.{Text}
use Rattle.formula_read.specs.Lexicon.{NoCell, IsTokens}
use Rattle.formula_round.specs.Tokens.{Tokened, tokened, tokens_of}
use Rattle.formula_round.specs.Tokens as tokens
use Rattle.formula_round.proofs.Characters.{in_word, follows, is_followed, ends_cell}
use Rattle.formula_round.proofs.Corners.{reference_part, reference_no_cell, reference_starts, range_part, range_no_cell, range_starts}
use Rattle.formula_round.proofs.Fronts.{no_cell_here}
use Rattle.formula_round.proofs.Layers.{fold_at, layer_tokened, layer_seen, tokened_at, seen_at}
use Rattle.formula_round.proofs.Leaves.{boolean_part, boolean_first, boolean_letters, text_part, error_part, error_first, name_part, word_first}
use Rattle.formula_round.proofs.Leaves.{called_part, called_first, open_part, close_part, separator_part, function_letters, letters_word_of, letters_start}
use Rattle.formula_round.proofs.Named.{small_letters}
use Rattle.formula_round.proofs.Numbers.{number_part, number_first}
use Rattle.formula_round.proofs.Parts.{Part, Anything, NoColon, StartsOperand, starts_front, starts_with, chars_front, ascii_chars}
use Rattle.formula_round.proofs.Parts.{nothing, before, anyhow, joined, in_turn, same_text, same_tokens, whole}
use Rattle.formula_round.proofs.Printings.{After, clear_after, after_clear, Piece, operand_part, operand_starts}
use Rattle.formula_round.proofs.Printings.{is_colon, infix_spelled, infix_starts, colon_spelled}
use Rattle.formula_round.proofs.Printings.{colon_starts}
use Rattle.formula_round.proofs.Printings.{minus_spelled, at_spelled, percent_spelled, hash_spelled, first_starts, hash_no_cell}
use Rattle.formula_round.proofs.Separated.{style, plain_clear, separator_clear, listed_parts, array_part, parameters_part}
use Rattle.formula_round.proofs.Trees.{seen_of}
use Rattle.formula_round.proofs.Words.{word_goes_on, word_no_cell}

first_no_cell : (c : ℕ) (text : List ℕ) (rest : Text) → chars (c ∷ text) ≡ c ∷ chars text → NoCell None (c ∷ (chars text ++ rest))
    → NoCell None (chars (c ∷ text) ++ rest)
first_no_cell c text rest is none = subst (λ (z : Text). NoCell None (z ++ rest)) (sym is) none

lambda_level : (kind : Kind) → is_lambda kind ≡ true → nat_le 10 (level_of kind) ≡ true
lambda_level k.Lambda e = refl
lambda_level _ e = absurd cc

-- a parenthesis may follow a lambda
opened : {locale : Locale} (kind : Kind) (rest : Text) → is_lambda kind ≡ true → After locale kind (40 ∷ rest)
opened kind rest is = record { ended = λ no. absurd (let x = sym is ∙ no in cc); colon = λ behind e. absurd cc }

module _ (p : Profile) where
  abbrev Spells : (Text → Type 0) → List ℕ → List Token → Type 0
  Spells = Part p.locale p.language

  abbrev Shown : Kind → Text → Type 0
  Shown = After p.locale

  -- ---- pieces

  -- a tree of one kind
  plain_piece : {sort : Sort} {kind : Kind} {text : List ℕ} {its : List Token} → is_callee sort ≡ false → Spells (Shown kind) text its → StartsOperand text
      → (nat_le 10 (level_of kind) ≡ true → (rest : Text) → Shown kind rest → NoCell None (chars text ++ rest))
      → Piece p sort (plainly kind text) (tokens.plainly kind its)
  plain_piece no_callee part starts no_cell = record {
    same_kind = refl;
    same_first = refl;
    part = part;
    starts = λ some. starts;
    no_cell = λ some first fit rest after. no_cell fit rest after;
    callee = λ e. absurd (let x = sym no_callee ∙ e in cc);
  }

  -- what ends by itself: what may follow it says nothing
  closed_piece : {kind : Kind} {text : List ℕ} {its : List Token} → Spells Anything text its → StartsOperand text
      → ((rest : Text) → NoCell None (chars text ++ rest))
      → Piece p other (plainly kind text) (tokens.plainly kind its)
  closed_piece {kind} part starts no_cell = plain_piece refl (anyhow (Shown kind) part) starts (λ fit rest after. no_cell rest)

  -- a lambda or a call of one
  lambda_piece : {text : List ℕ} {its : List Token} → Spells Anything text its → StartsOperand text → ((rest : Text) → NoCell None (chars text ++ rest))
      → Piece p lambda (plainly k.Lambda text) (tokens.plainly k.Lambda its)
  lambda_piece part starts no_cell = record {
    same_kind = refl;
    same_first = refl;
    part = anyhow (Shown k.Lambda) part;
    starts = λ some. starts;
    no_cell = λ some first fit rest after. no_cell rest;
    callee = λ e. (refl, refl);
  }

  -- ---- trees

  abbrev Spelt : Seen → Bool → Printed → Tokened → Type 0
  Spelt s canonical a b = s.is_fine ≡ true → canonical ≡ true → Piece p s.sort a b

  abbrev text_of : Node → Printed
  text_of = printed (style p)

  -- what is shown of each tree
  abbrev Good : Node → Type 0
  Good tree = Spelt (seen_of p tree) (has_canonical_numbers tree) (text_of tree) (tokened p tree)

  module _ (layer : Node-F Node) (tree : Node) (is : roll-Node layer ≡ tree) where
    printed_at : text_of tree ≡ print_layer (style p) (map-Node Node Printed text_of layer)
    unfolding printed
    printed_at = fold_at (print_layer (style p)) layer tree is

    kept_at : has_canonical_numbers tree ≡ numbers_layer Canonical (map-Node Node Bool has_canonical_numbers layer)
    unfolding numbers_follow
    kept_at = fold_at (numbers_layer Canonical) layer tree is

    abbrev layer_kept : Bool
    layer_kept = numbers_layer Canonical (map-Node Node Bool has_canonical_numbers layer)

    abbrev layer_printed : Printed
    layer_printed = print_layer (style p) (map-Node Node Printed text_of layer)

    good_at : Spelt (layer_seen p layer) layer_kept layer_printed (layer_tokened p layer) → Good tree
    good_at claim = subst (λ (c : Type 0). c) (sym (λ i. Spelt (seen_at p layer tree is i) (kept_at i) (printed_at i) (tokened_at p layer tree is i))) claim

  -- an operand is no empty argument
  record Operand (a : Node) : Type 0 where
    piece : Piece p (seen_of p a).sort (text_of a) (tokened p a)
    some : is_empty (seen_of p a).sort ≡ false

  operand_of : (a : Node) → Good a → is_operand (seen_of p a) ≡ true → has_canonical_numbers a ≡ true → Operand a
  operand_of a good normal canonical =
      let e = and_parts (seen_of p a).is_fine _ normal in
      record { piece = good e.0 canonical; some = not_true (is_empty (seen_of p a).sort) e.1 }

  record Two (a b : Node) : Type 0 where
    left : Operand a
    right : Operand b

  two_of : (a b : Node) → Good a → Good b → is_operand (seen_of p a) && is_operand (seen_of p b) ≡ true → has_canonical_numbers a && has_canonical_numbers b ≡ true
      → Two a b
  two_of a b x y normal canonical =
      let e = and_parts (is_operand (seen_of p a)) _ normal in
      let f = and_parts (has_canonical_numbers a) _ canonical in
      record { left = operand_of a x e.0 f.0; right = operand_of b y e.1 f.1 }

  -- ---- leaves

  boolean_spelt : (value : Bool)
      → Piece p other (plainly k.Value (boolean_text p.language value)) (tokens.plainly k.Value (t.Word (boolean_text p.language value) ∷ []))
  boolean_spelt value =
      plain_piece refl (before (Shown k.Value) (λ rest after. after.ended refl) (boolean_part value))
      (letters_start (boolean_text p.language value) (boolean_letters p.language value))
      (λ fit rest after. boolean_first p.locale p.language value rest (after.ended refl))

  number_spelt : (value : Decimal) → int_le (pos 0) value.mantissa ≡ true → is_canonical value ≡ true
      → Piece p other (plainly k.Number (decimal_text (decimal_sign p.locale) value)) (tokens.plainly k.Number (t.Number value ∷ []))
  number_spelt value low canonical =
      plain_piece refl (before (Shown k.Number) (λ rest after. after_clear k.Number rest refl refl after) (number_part value canonical low))
      (number_first p.locale value canonical low []).1 (λ fit rest after. (number_first p.locale value canonical low rest).0)

  text_spelt : (text : List ℕ) → is_utf8 text ≡ true → Piece p other (plainly k.Value (text_constant text)) (tokens.plainly k.Value (t.Text text ∷ []))
  text_spelt text utf8 =
      let inside : List ℕ = encode_utf8_all (doubled 34 (chars text)) ++ codes "\"" in
      plain_piece refl (before (Shown k.Value) (λ rest after. after.ended refl) (text_part text (IsUtf8-from_is_utf8 text utf8)))
      (starts_with 34 inside refl refl)
      (λ fit rest after. first_no_cell 34 inside rest (chars_front 34 inside refl) (no_cell_here 34 (chars inside ++ rest) refl))

  reference_spelt : (sheet : Option (List ℕ)) (corner : Corner) → is_named sheet && is_inside p.place corner ≡ true
      → Piece p other (print_layer (style p) (layer.Reference sheet corner)) (tokens.token_layer p (layer.Reference sheet corner))
  reference_spelt sheet corner normal =
      let e = and_parts (is_named sheet) _ normal in
      record {
        same_kind = refl;
        same_first = refl;
        part = before (Shown k.Reference) (λ rest after. (after.ended refl, λ more is. (after.colon more is).1 refl))
            (reference_part p.place sheet corner e.0 e.1 p.locale p.language);
        starts = λ some. reference_starts p.place sheet corner e.0 e.1;
        no_cell = λ some first fit rest after. reference_no_cell p.place sheet corner e.0 e.1 first rest;
        callee = λ is. absurd cc;
      }

  range_spelt : (sheet : Option (List ℕ)) (first second : Corner) → is_named sheet && is_placed_range p.place first second ≡ true
      → Piece p other (print_layer (style p) (layer.Range sheet first second)) (tokens.token_layer p (layer.Range sheet first second))
  unfolding is_placed_range
  range_spelt sheet first second normal =
      let e = and_parts (is_named sheet) _ normal in
      let inside = and_parts (is_inside p.place first) (is_inside p.place second) (and_parts _ _ e.1).0 in
      record {
        same_kind = refl;
        same_first = refl;
        part = before (Shown k.Value) (λ rest after. after.ended refl) (range_part p.place first second inside.0 inside.1 p.locale p.language sheet e.0);
        starts = λ some. range_starts p.place first second inside.0 inside.1 sheet e.0;
        no_cell = λ some no_first fit rest after. range_no_cell p.place first second inside.0 inside.1 sheet e.0 no_first rest;
        callee = λ is. absurd cc;
      }

  error_spelt : (error : Error) → Piece p other (plainly k.Other (error_text error)) (tokens.plainly k.Other (t.Error error ∷ []))
  error_spelt error = closed_piece (error_part error) (error_first error []).1 (λ rest. (error_first error rest).0)

  name_spelt : (name : List ℕ) → is_plain_name p.language name ≡ true → Piece p other (plainly k.Name name) (tokens.plainly k.Name (t.Word name ∷ []))
  name_spelt name normal =
      let e = and_parts (is_text_word name) _ (and_parts (is_text_word name && not (reads_as_cell (chars name))) _ normal).0 in
      let word = and_parts (is_utf8 name) _ e.0 in
      let none = not_true (reads_as_cell (chars name)) e.1 in
      plain_piece refl
      (before (Shown k.Name) (λ rest after. after_clear k.Name rest refl refl after) (name_part name (IsUtf8-from_is_utf8 name word.0) word.1 none))
      (word_first (chars name) word.1)
      (λ fit rest after. word_no_cell (chars name) rest (word_goes_on (chars name) word.1) none (ends_cell p.locale rest (after.ended refl)))

  array_spelt : (lines : List (List ArrayItem)) → is_table lines ≡ true → lines_follow Canonical lines ≡ true
      → Piece p other (plainly k.Other (array_text (style p) lines)) (tokens.plainly k.Other (tokens.array_tokens p lines))
  array_spelt lines normal canonical =
      let inside : List ℕ = lines_text (style p) lines ++ codes "}" in
      closed_piece (array_part p lines (and_parts _ _ normal).1 canonical) (starts_with 123 inside refl refl)
      (λ rest. first_no_cell 123 inside rest (chars_front 123 inside refl) (no_cell_here 123 (chars inside ++ rest) refl))

  empty_spelt : Piece p empty (plainly k.Other []) (tokens.plainly k.Other [])
  empty_spelt = record {
    same_kind = refl;
    same_first = refl;
    part = nothing (Shown k.Other);
    starts = λ some. absurd cc;
    no_cell = λ some first fit rest after. absurd cc;
    callee = λ is. absurd cc;
  }

  -- ---- operators

  infix_loose : (operator : Infix) → nat_le 10 (infix_level operator) ≡ false
  infix_loose op.Power = refl
  infix_loose _ = refl

  infix_spelt : (operator : Infix) (sort : Sort) (a b : Node) → is_callee sort ≡ false → is_colon operator ≡ false → Two a b
      → Piece p sort (plainly (k.Infix operator) (infix_text operator (text_of a) (text_of b)))
      (tokens.plainly (k.Infix operator) (tokens.infix_tokens operator (tokened p a) (tokened p b)))
  infix_spelt operator sort a b no_callee no_colon two =
      plain_piece no_callee (infix_spelled two.left.piece two.right.piece two.left.some two.right.some operator no_colon)
      (infix_starts two.left.piece two.right.piece two.left.some two.right.some operator)
      (λ fit rest after. absurd (let x = sym (infix_loose operator) ∙ fit in cc))

  colon_spelt : (a b : Node) → Two a b
      → Piece p other (plainly (k.Infix op.Colon) (colon_text (text_of a) (text_of b)))
      (tokens.plainly (k.Infix op.Colon) (tokens.colon_tokens (tokened p a) (tokened p b)))
  colon_spelt a b two =
      plain_piece refl (colon_spelled two.left.piece two.right.piece two.left.some two.right.some)
      (colon_starts two.left.piece two.right.piece two.left.some two.right.some)
      (λ fit rest after. absurd cc)

  unary_spelt : (kind : UnaryKind) (a : Node) → Operand a
      → Piece p other (plainly (unary_kind kind) (unary_text kind (text_of a))) (tokens.plainly (unary_kind kind) (tokens.unary_tokens kind (tokened p a)))
  unary_spelt Minus a x =
      plain_piece refl (minus_spelled x.piece x.some) (starts_with 45 (operand need.Negated (text_of a)) refl refl) (λ fit rest after. absurd cc)
  unary_spelt Percent a x =
      plain_piece refl (percent_spelled x.piece x.some) (first_starts x.piece x.some (need.Level 7) (codes "%")) (λ fit rest after. absurd cc)

  intersection_spelt : (a : Node) → Operand a
      → Piece p other (plainly (k.Prefix prefix.At) (codes "@" ++ operand (need.Level 8) (text_of a)))
      (tokens.plainly (k.Prefix prefix.At) (t.At ∷ tokens.operand (need.Level 8) (tokened p a)))
  intersection_spelt a x =
      plain_piece refl (at_spelled x.piece x.some) (starts_with 64 (operand (need.Level 8) (text_of a)) refl refl) (λ fit rest after. absurd cc)

  spill_spelt : (a : Node) → Operand a
      → Piece p other (record { kind = k.Postfix postfix.Spill; cell_first = (text_of a).cell_first; text = operand (need.Level 10) (text_of a) ++ codes "#" })
      (record { kind = k.Postfix postfix.Spill; cell_first = (tokened p a).cell_first; tokens = tokens.operand (need.Level 10) (tokened p a) ++ t.Hash ∷ [] })
  spill_spelt a x =
      let piece = x.piece in
      record {
        same_kind = refl;
        same_first = piece.same_first;
        part = hash_spelled x.piece x.some;
        starts = λ some. first_starts x.piece x.some (need.Level 10) (codes "#");
        no_cell = λ some first fit rest after. hash_no_cell x.piece x.some first rest;
        callee = λ is. absurd cc;
      }

  -- ---- arguments

  abbrev Argued : Node → Type 0
  Argued a = Spells (NoColon p.locale) (text_of a).text (tokened p a).tokens

  listed : (all : List Node) → AllByRecursion Argued all
      → Spells (NoColon p.locale) (arguments_text (style p) (map text_of all)) (tokens.arguments_tokens p (map (tokened p) all))
  listed [] parts = nothing (NoColon p.locale)
  listed (first ∷ later) parts =
      listed_parts p.locale p.language (NoColon p.locale) (encode_utf8 (argument_separator p.locale)) (separator_token p.locale)
      (separator_part p.locale p.language) (separator_clear p.locale)
      {text = λ (x : Node). (text_of x).text} {own = λ (x : Node). (tokened p x).tokens}
      {texts = λ (xs : List Node). flat_map (later_argument (style p)) (map text_of xs)}
      {tokens = λ (xs : List Node). flat_map (tokens.later_argument p) (map (tokened p) xs)}
      (record { no_text = refl; no_tokens = refl; more_text = λ x xs. refl; more_tokens = λ x xs. refl }) Argued (λ x part. part) first later parts.0 parts.1

  clear_part : (a : Node) → Piece p (seen_of p a).sort (text_of a) (tokened p a) → Argued a
  clear_part a piece = before (NoColon p.locale) (clear_after (text_of a).kind) piece.part

  each_argued : (all : List Node) → AllByRecursion Good all → list_all (λ (x : Seen). x.is_fine) (map (seen_of p) all) ≡ true
      → list_all (λ test. test) (map has_canonical_numbers all) ≡ true
      → AllByRecursion Argued all
  each_argued [] good fine canonical = tt
  each_argued (a ∷ all) good fine canonical =
      let e = and_parts (seen_of p a).is_fine _ fine in
      let f = and_parts (has_canonical_numbers a) _ canonical in
      (clear_part a (good.0 e.0 f.0), each_argued all good.1 e.1 f.1)

  each_fine : (all : List Node) → arguments (map (seen_of p) all) ≡ true → list_all (λ (x : Seen). x.is_fine) (map (seen_of p) all) ≡ true
  each_fine [] e = refl
  each_fine (a ∷ []) e = and_from (seen_of p a).is_fine _ (and_parts (seen_of p a).is_fine _ e).0 refl
  each_fine (a ∷ b ∷ all) e = e

  arguments_part : (all : List Node) → AllByRecursion Good all → arguments (map (seen_of p) all) ≡ true
      → list_all (λ test. test) (map has_canonical_numbers all) ≡ true
      → Spells (NoColon p.locale) (arguments_text (style p) (map text_of all)) (tokens.arguments_tokens p (map (tokened p) all))
  arguments_part all good normal canonical = listed all (each_argued all good (each_fine all normal) canonical)

  -- ---- calls

  module _ {inner : List ℕ} {its : List Token} (inside : Spells (NoColon p.locale) inner its) where
    -- what is called with its parenthesis, and the arguments
    call_spelled : (called : List ℕ) (front : List Token) → Spells Anything (called ++ codes "(") (front ++ t.OpenParenthesis ∷ [])
        → Spells Anything (called ++ in_parentheses inner) (front ++ tokens.in_parentheses its)
    unfolding follows in_word
    call_spelled called front first =
        let closed = joined inside close_part (λ rest after. plain_clear p.locale 41 [] rest refl refl refl) in
        same_tokens (append_assoc front (t.OpenParenthesis ∷ []) (its ++ t.CloseParenthesis ∷ []))
        (same_text (append_assoc called (codes "(") (inner ++ codes ")")) (in_turn first closed))

    -- a call by a word
    word_spelt : (word : List ℕ) → IsUtf8 word → is_word (chars word) ≡ true
        → Piece p other (plainly k.Other (word ++ in_parentheses inner)) (tokens.plainly k.Other ((t.Word word ∷ []) ++ tokens.in_parentheses its))
    word_spelt word utf8 is =
        closed_piece (call_spelled word (t.Word word ∷ []) (called_part word utf8 is))
        (starts_front word (in_parentheses inner) utf8 (word_first (chars word) is))
        (λ rest. called_first word (inner ++ codes ")") rest utf8 is)

    function_spelt : (function : Function)
        → Piece p other (plainly k.Other (function_name p.language function ++ in_parentheses inner))
        (tokens.plainly k.Other ((t.Word (function_name p.language function) ∷ []) ++ tokens.in_parentheses its))
    function_spelt function =
        let is = letters_word_of (function_name p.language function) (function_letters p.language function) in
        word_spelt (function_name p.language function) is.0 is.1

    named_spelt : (name : List ℕ) → is_called_name p.language name ≡ true
        → Piece p other (plainly k.Other (lowered name ++ in_parentheses inner))
        (tokens.plainly k.Other ((t.Word (lowered name) ∷ []) ++ tokens.in_parentheses its))
    named_spelt name normal =
        let e = and_parts (is_text_word name) (list_all is_no_capital name) (and_parts (is_text_word name && list_all is_no_capital name) _ normal).0 in
        let word = and_parts (is_utf8 name) _ e.0 in
        let spelt = word_spelt name (IsUtf8-from_is_utf8 name word.0) word.1 in
        subst
        (λ (z : List ℕ). Piece p other (plainly k.Other (z ++ in_parentheses inner)) (tokens.plainly k.Other ((t.Word z ∷ []) ++ tokens.in_parentheses its)))
        (sym (small_letters name e.1)) spelt

    -- a call of a lambda
    applied_spelt : (a : Node) → Operand a → is_callee (seen_of p a).sort ≡ true
        → Piece p lambda (plainly k.Lambda (operand need.Callee (text_of a) ++ in_parentheses inner))
        (tokens.plainly k.Lambda (tokens.operand need.Callee (tokened p a) ++ tokens.in_parentheses its))
    applied_spelt a x callee =
        let piece = x.piece in
        let is = piece.callee callee in
        let kind = (text_of a).kind in
        let text = operand need.Callee (text_of a) in
        let called = operand_part x.piece need.Callee in
        let open_is = ascii_chars (codes "(") refl in
        let front = joined called open_part (λ rest after fit. subst (λ (z : Text). Shown kind (z ++ rest)) (sym open_is) (opened kind rest is.0)) in
        let plain : text ≡ (text_of a).text = ap (λ (b : Bool). if b then (text_of a).text else in_parentheses (text_of a).text) is.0 in
        let tail : Text = chars (inner ++ codes ")") in
        let characters : chars (text ++ in_parentheses inner) ≡ chars (text_of a).text ++ (40 ∷ tail) =
        chars-append text (in_parentheses inner) called.utf8 ∙ (λ i. chars (plain i) ++ chars_front 40 (inner ++ codes ")") refl i) in
        lambda_piece (call_spelled text (tokens.operand need.Callee (tokened p a)) front)
        (starts_front text (in_parentheses inner) called.utf8 (operand_starts x.piece x.some need.Callee))
        (λ rest.
        let whole = ap (λ (z : Text). z ++ rest) characters ∙ append_assoc (chars (text_of a).text) (40 ∷ tail) rest in
        subst (NoCell None) (sym whole) (piece.no_cell x.some is.1 (lambda_level kind is.0) (40 ∷ (tail ++ rest)) (opened kind (tail ++ rest) is.0)))

  lambda_spelt : (parameters : List Parameter) (a : Node) → list_all is_parameter parameters ≡ true → Operand a
      → Piece p lambda (plainly k.Lambda (lambda_text (style p) parameters (text_of a)))
      (tokens.plainly k.Lambda (tokens.lambda_tokens p parameters (tokened p a)))
  lambda_spelt parameters a normal x =
      let inner : List ℕ = flat_map (parameter_part p.locale) parameters ++ (text_of a).text in
      let is = letters_word_of (codes "LAMBDA") refl in
      let inside = in_turn (parameters_part p parameters normal) (clear_part a x.piece) in
      lambda_piece (call_spelled inside (codes "LAMBDA") (t.Word (codes "LAMBDA") ∷ []) (called_part (codes "LAMBDA") is.0 is.1))
      (starts_with 76 (codes "AMBDA" ++ in_parentheses inner) refl refl) (λ rest. called_first (codes "LAMBDA") (inner ++ codes ")") rest is.0 is.1)

  -- ---- every tree

  good : (tree : Node) → Good tree
  good = induct Good (record {
    boolean = λ value. good_at (layer.Boolean value) _ (n.rolls-Boolean value) (λ fine canonical. boolean_spelt value);
    number = λ value. good_at (layer.Number value) _ (n.rolls-Number value) (λ fine canonical. number_spelt value fine canonical);
    text = λ text. good_at (layer.Text text) _ (n.rolls-Text text) (λ fine canonical. text_spelt text fine);
    reference = λ sheet corner. good_at (layer.Reference sheet corner) _ (n.rolls-Reference sheet corner) (λ fine canonical. reference_spelt sheet corner fine);
    range = λ sheet first second. good_at (layer.Range sheet first second) _ (n.rolls-Range sheet first second)
        (λ fine canonical. range_spelt sheet first second fine);
    colon = λ a b x y. good_at (layer.Colon a b) _ (n.rolls-Colon a b) (λ fine canonical. colon_spelt a b (two_of a b x y fine canonical));
    concatenate = λ a b x y. good_at (layer.Concatenate a b) _ (n.rolls-Concatenate a b)
        (λ fine canonical. infix_spelt op.Concatenate other a b refl refl (two_of a b x y fine canonical));
    compare = λ kind a b x y. good_at (layer.Compare kind a b) _ (n.rolls-Compare kind a b)
        (λ fine canonical. infix_spelt (op.Compare kind) other a b refl refl (two_of a b x y fine canonical));
    sum = λ kind a b x y. good_at (layer.Sum kind a b) _ (n.rolls-Sum kind a b)
        (λ fine canonical. infix_spelt (op.Sum kind) sum a b refl refl
        (two_of a b x y (and_parts (is_operand (seen_of p a) && is_operand (seen_of p b)) _ fine).0 canonical));
    product = λ kind a b x y. good_at (layer.Product kind a b) _ (n.rolls-Product kind a b)
        (λ fine canonical. infix_spelt (op.Product kind) other a b refl refl (two_of a b x y fine canonical));
    power = λ a b x y. good_at (layer.Power a b) _ (n.rolls-Power a b)
        (λ fine canonical. infix_spelt op.Power other a b refl refl (two_of a b x y fine canonical));
    unary = λ kind a x. good_at (layer.Unary kind a) _ (n.rolls-Unary kind a) (λ fine canonical. unary_spelt kind a (operand_of a x fine canonical));
    call = λ function all x. good_at (layer.Call function all) _ (n.rolls-Call function all)
        (λ fine canonical. function_spelt (arguments_part all x fine canonical) function);
    named_call = λ name all x. good_at (layer.NamedCall name all) _ (n.rolls-NamedCall name all)
        (λ fine canonical. let e = and_parts (is_called_name p.language name) _ fine in named_spelt (arguments_part all x e.1 canonical) name e.0);
    array = λ lines. good_at (layer.Array lines) _ (n.rolls-Array lines) (λ fine canonical. array_spelt lines fine canonical);
    name = λ name. good_at (layer.Name name) _ (n.rolls-Name name) (λ fine canonical. name_spelt name fine);
    error = λ error. good_at (layer.Error error) _ (n.rolls-Error error) (λ fine canonical. error_spelt error);
    parse_error = λ text. good_at (layer.ParseError text) _ (n.rolls-ParseError text) (λ fine canonical. absurd cc);
    empty_argument = good_at layer.EmptyArgument _ n.rolls-EmptyArgument (λ fine canonical. empty_spelt);
    spill = λ a x. good_at (layer.Spill a) _ (n.rolls-Spill a) (λ fine canonical. spill_spelt a (operand_of a x fine canonical));
    lambda = λ parameters a x. good_at (layer.Lambda parameters a) _ (n.rolls-Lambda parameters a)
        (λ fine canonical. let e = and_parts (list_all is_parameter parameters) _ fine in lambda_spelt parameters a e.0 (operand_of a x e.1 canonical));
    lambda_call = λ a all x y. good_at (layer.LambdaCall a all) _ (n.rolls-LambdaCall a all)
        (λ fine canonical.
        let e = and_parts (is_operand (seen_of p a) && is_callee (seen_of p a).sort) _ fine in
        let f = and_parts (has_canonical_numbers a) _ canonical in
        let callee = and_parts (is_operand (seen_of p a)) _ e.0 in
        applied_spelt (arguments_part all y e.1 f.1) a (operand_of a x callee.0 f.0) callee.1);
    implicit_intersection = λ a x. good_at (layer.ImplicitIntersection a) _ (n.rolls-ImplicitIntersection a)
        (λ fine canonical. intersection_spelt a (operand_of a x fine canonical));
  })

  -- nothing may follow a formula
  at_end : (kind : Kind) → Shown kind []
  unfolding is_followed
  at_end kind = record { ended = λ no. refl; colon = λ behind e. absurd cc }

  -- the printed text of a normal tree is its tokens
  pub text_is_tokens : (tree : Node) → is_normal p.place p.language tree ≡ true → has_canonical_numbers tree ≡ true
      → IsTokens p.locale p.language (chars (localized_text p.place p.locale p.language tree)) (tokens_of p tree)
  unfolding is_normal localized_text
  text_is_tokens tree normal canonical =
      let x = operand_of tree (good tree) (and_parts _ _ normal).1 canonical in
      let piece = x.piece in
      whole (at_end (text_of tree).kind) piece.part
