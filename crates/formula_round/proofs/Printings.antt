-- What is shown of each tree: before what may follow a tree of its kind, its printed text spells its tokens. Operands and operators.
use Rattle.std.proofs.Common.{◌≡◌, ℕ, Bool, true, false, List, [], ◌∷◌, ◌++◌, refl, sym, ap, subst, ◌∙◌, append_assoc, arith}
use Rattle.std.specs.Prelude.{not, ◌==◌, ◌&&◌, codes, if◌then◌else◌, nat_le, nat_lt, None}
use Rattle.std.specs.Str.{chars}
use Rattle.std.proofs.lemmas.Bool.{and_parts}
use Rattle.std.proofs.lemmas.Bool.Decides.{nat_tests}
use Rattle.std.proofs.lemmas.Str.{chars-append}
use Rattle.base_tables.specs.declared.Locale.{Locale}
use Rattle.base_decimal.specs.Digits.{stops}
use Rattle.formula_tree.specs.declared.CompareKind.TheVariants as c
use Rattle.formula_tree.specs.declared.ProductKind.TheVariants as product
use Rattle.formula_tree.specs.declared.SumKind.TheVariants as s
use Rattle.formula_tree.specs.declared.Infix.{Infix}
use Rattle.formula_tree.specs.declared.Infix.TheVariants as op
use Rattle.formula_tree.specs.declared.Postfix.TheVariants as postfix
use Rattle.formula_tree.specs.declared.Prefix.TheVariants as prefix
use Rattle.formula_tree.specs.Levels.{infix_level}
use Rattle.formula_print.specs.declared.Kind.{Kind}
use Rattle.formula_print.specs.declared.Kind.TheVariants as k
use Rattle.formula_print.specs.declared.Need.{Need}
use Rattle.formula_print.specs.declared.Need.TheVariants as need
use Rattle.formula_print.specs.Kinds.{level_of, is_number_or_name, is_reference, is_lambda, fits, left_need, right_need}
use Rattle.formula_print.specs.Pieces.{infix_sign}
use Rattle.formula_print.specs.Print.{Printed, in_parentheses, operand, infix_text, colon_text}
use Rattle.formula_grammar.specs.declared.Profile.{Profile}
use Rattle.formula_grammar.specs.declared.Token.TheVariants as t
use Rattle.formula_grammar.specs.Normal.{Sort, is_empty, is_callee}
use Rattle.formula_grammar.specs.Operators.{infix_token}
use Rattle.formula_read.specs.Characters.{Text}
use Rattle.formula_read.specs.Lexicon.{NoCell}
use Rattle.formula_round.specs.Tokens.{Tokened}
use Rattle.formula_round.specs.Tokens as tokens
use Rattle.formula_round.proofs.Characters.{in_word, follows, sign_follows}
use Rattle.formula_round.proofs.Fronts.{no_cell_here}
use Rattle.formula_round.proofs.Leaves.{infix_part, minus_part, percent_part, at_part, colon_part, open_part, close_part, hash_part}
use Rattle.formula_round.proofs.Parts.{Part, Anything, Followed, NoColon, starts_operand, StartsOperand, starts_front, starts_with, no_comparison}
use Rattle.formula_round.proofs.Parts.{chars_front, ascii_chars, before, anyhow, joined, in_turn, same_tokens}
use Rattle.formula_round.proofs.Separated.{plain_clear}

-- ---- what may follow a tree

-- a tree of this kind may stand on the left of `:`
abbrev pub stands_left : Kind → Bool
stands_left kind = nat_lt (infix_level op.Colon) (level_of kind) && not (is_number_or_name kind)

-- anything may follow a lambda. A colon follows only what may stand on its left, and behind a colon that follows a reference no cell stands
pub record After (locale : Locale) (kind : Kind) (rest : Text) : Type 0 where
  pub ended : is_lambda kind ≡ false → Followed locale rest
  pub colon : (behind : Text) → rest ≡ 58 ∷ behind → (stands_left kind ≡ true) × (is_reference kind ≡ true → NoCell None behind)

module _ {locale : Locale} where
  -- what follows any tree
  pub clear_after : (kind : Kind) (rest : Text) → NoColon locale rest → After locale kind rest
  clear_after kind rest clear = record { ended = λ _. clear.0; colon = λ behind e. absurd (no_colon behind e) }
    where
      no_colon : (behind : Text) → rest ≡ 58 ∷ behind → ⊥
      no_colon behind e = let x : false ≡ true = sym (ap (stops (λ c. c == 58)) e) ∙ clear.1 in cc

  -- what follows a tree that stands on no left of `:` follows any tree at its end
  loosen : (outer inner : Kind) (rest : Text) → is_lambda outer ≡ false → stands_left outer ≡ false → After locale outer rest → After locale inner rest
  loosen outer inner rest no_lambda no_left after = record {
    ended = λ _. after.ended no_lambda;
    colon = λ behind e. absurd (let x = sym (after.colon behind e).0 ∙ no_left in cc);
  }

  -- and no colon follows it
  pub after_clear : (kind : Kind) (rest : Text) → is_lambda kind ≡ false → stands_left kind ≡ false → After locale kind rest → NoColon locale rest
  after_clear kind rest no_lambda no_left after = (after.ended no_lambda, by rest (λ behind e. let x = sym (after.colon behind e).0 ∙ no_left in cc))
    where
      by : (rest : Text) → ((behind : Text) → rest ≡ 58 ∷ behind → ⊥) → stops (λ c. c == 58) rest ≡ true
      by [] none = refl
      by (c ∷ rest) none = at (c == 58) refl
        where
          at : (b : Bool) → (c == 58) ≡ b → not (c == 58) ≡ true
          at true e = let is : c ≡ 58 = grind (arith, nat_tests) in absurd (none rest (ap (λ (d : ℕ). d ∷ rest) is))
          at false e = ap not e

-- ---- a tree

pub record Piece (p : Profile) (sort : Sort) (a : Printed) (b : Tokened) : Type 0 where
  pub same_kind : b.kind ≡ a.kind
  pub same_first : b.cell_first ≡ a.cell_first
  pub part : Part p.locale p.language (After p.locale a.kind) a.text b.tokens
  pub starts : is_empty sort ≡ false → StartsOperand a.text
  -- where it may stand on the right of `:`, a cell begins it only where it says so
  pub no_cell : is_empty sort ≡ false → a.cell_first ≡ false → nat_le 10 (level_of a.kind) ≡ true → (rest : Text) → After p.locale a.kind rest
      → NoCell None (chars a.text ++ rest)
  pub callee : is_callee sort ≡ true → (is_lambda a.kind ≡ true) × (a.cell_first ≡ false)

-- ---- operands

module _ {p : Profile} {sort : Sort} {a : Printed} {b : Tokened} (piece : Piece p sort a b) where
  parenthesised : Part p.locale p.language Anything (in_parentheses a.text) (tokens.in_parentheses b.tokens)
  unfolding follows in_word
  parenthesised =
      let closed = joined piece.part close_part (λ rest after. clear_after a.kind _ (plain_clear p.locale 41 [] rest refl refl refl)) in
      in_turn open_part closed

  -- what may follow the operand
  abbrev pub Fits : Need → Text → Type 0
  Fits need rest = fits need a.kind ≡ true → After p.locale a.kind rest

  operand_by : (fit : Bool) → Part p.locale p.language (λ rest. fit ≡ true → After p.locale a.kind rest) (if fit then a.text else in_parentheses a.text)
      (if fit then b.tokens else tokens.in_parentheses b.tokens)
  operand_by true = before (λ rest. true ≡ true → After p.locale a.kind rest) (λ rest after. after refl) piece.part
  operand_by false = anyhow (λ rest. false ≡ true → After p.locale a.kind rest) parenthesised

  pub operand_part : (need : Need) → Part p.locale p.language (Fits need) (operand need a) (tokens.operand need b)
  operand_part need =
      same_tokens (ap (λ (kind : Kind). if fits need kind then b.tokens else tokens.in_parentheses b.tokens) (sym piece.same_kind))
      (operand_by (fits need a.kind))

  pub operand_starts : is_empty sort ≡ false → (need : Need) → StartsOperand (operand need a)
  operand_starts some need = by (fits need a.kind)
    where
      by : (fit : Bool) → StartsOperand (if fit then a.text else in_parentheses a.text)
      by true = piece.starts some
      by false = starts_with 40 (a.text ++ codes ")") refl refl

  -- no cell begins an operand on the right of `:` that does not say so
  operand_no_cell : is_empty sort ≡ false → a.cell_first ≡ false → (rest : Text) → Fits (need.Level 10) rest
      → NoCell None (chars (operand (need.Level 10) a) ++ rest)
  operand_no_cell some no_first rest after = by (nat_le 10 (level_of a.kind)) refl
    where
      by : (fit : Bool) → nat_le 10 (level_of a.kind) ≡ fit → NoCell None (chars (if fit then a.text else in_parentheses a.text) ++ rest)
      by true e = piece.no_cell some no_first e rest (after e)
      by false e =
          let inside : List ℕ = a.text ++ codes ")" in
          subst (λ (x : Text). NoCell None (x ++ rest)) (sym (chars_front 40 inside refl)) (no_cell_here 40 (chars inside ++ rest) refl)

-- ---- operators

abbrev pub is_colon : Infix → Bool
is_colon op.Colon = true
is_colon _ = false

-- no tree with an operator between two operands stands on the left of `:`
infix_no_left : (operator : Infix) → stands_left (k.Infix operator) ≡ false
infix_no_left op.Power = refl
infix_no_left _ = refl

infix_clear : (locale : Locale) (operator : Infix) → is_colon operator ≡ false → (rest : Text) → NoColon locale (chars (infix_sign operator) ++ rest)
unfolding follows in_word
infix_clear locale (op.Compare c.Equal) other rest = plain_clear locale 61 [] rest refl refl refl
infix_clear locale (op.Compare c.NotEqual) other rest = plain_clear locale 60 (62 ∷ []) rest refl refl refl
infix_clear locale (op.Compare c.Less) other rest = plain_clear locale 60 [] rest refl refl refl
infix_clear locale (op.Compare c.LessOrEqual) other rest = plain_clear locale 60 (61 ∷ []) rest refl refl refl
infix_clear locale (op.Compare c.Greater) other rest = plain_clear locale 62 [] rest refl refl refl
infix_clear locale (op.Compare c.GreaterOrEqual) other rest = plain_clear locale 62 (61 ∷ []) rest refl refl refl
infix_clear locale op.Concatenate other rest = plain_clear locale 38 [] rest refl refl refl
infix_clear locale (op.Sum s.Add) other rest = plain_clear locale 43 [] rest refl refl refl
infix_clear locale (op.Sum s.Subtract) other rest = plain_clear locale 45 [] rest refl refl refl
infix_clear locale (op.Product product.Multiply) other rest = plain_clear locale 42 [] rest refl refl refl
infix_clear locale (op.Product product.Divide) other rest = plain_clear locale 47 [] rest refl refl refl
infix_clear locale op.Power other rest = plain_clear locale 94 [] rest refl refl refl
infix_clear locale op.Colon other rest = absurd cc

hash_clear : (locale : Locale) (rest : Text) → NoColon locale (chars (codes "#") ++ rest)
unfolding follows in_word
hash_clear locale rest = plain_clear locale 35 [] rest refl refl refl

-- a tree that is no empty argument
module _ {p : Profile} {sort : Sort} {a : Printed} {x : Tokened} (piece : Piece p sort a x) (some : is_empty sort ≡ false) where
  -- the operand on the right of an operator that stands on no left of `:`
  last_operand : (need : Need) (outer : Kind) → is_lambda outer ≡ false → stands_left outer ≡ false
      → Part p.locale p.language (After p.locale outer) (operand need a) (tokens.operand need x)
  last_operand need outer no_lambda no_left =
      before (After p.locale outer) (λ rest after fit. loosen outer a.kind rest no_lambda no_left after) (operand_part piece need)

  pub minus_spelled : Part p.locale p.language (After p.locale (k.Prefix prefix.Minus))
      (codes "-" ++ operand need.Negated a) (t.Minus ∷ tokens.operand need.Negated x)
  minus_spelled = in_turn minus_part (last_operand need.Negated (k.Prefix prefix.Minus) refl refl)

  pub at_spelled : Part p.locale p.language (After p.locale (k.Prefix prefix.At))
      (codes "@" ++ operand (need.Level 8) a) (t.At ∷ tokens.operand (need.Level 8) x)
  at_spelled = in_turn at_part (last_operand (need.Level 8) (k.Prefix prefix.At) refl refl)

  pub percent_spelled : Part p.locale p.language (After p.locale (k.Postfix postfix.Percent))
      (operand (need.Level 7) a ++ codes "%") (tokens.operand (need.Level 7) x ++ t.Percent ∷ [])
  unfolding follows in_word
  percent_spelled =
      joined (operand_part piece (need.Level 7)) (anyhow (After p.locale (k.Postfix postfix.Percent)) percent_part)
      (λ rest after fit. clear_after a.kind _ (plain_clear p.locale 37 [] rest refl refl refl))

  pub hash_spelled : Part p.locale p.language (After p.locale (k.Postfix postfix.Spill))
      (operand (need.Level 10) a ++ codes "#") (tokens.operand (need.Level 10) x ++ t.Hash ∷ [])
  hash_spelled =
      joined (operand_part piece (need.Level 10)) (before (After p.locale (k.Postfix postfix.Spill)) (λ rest after. after.ended refl) hash_part)
      (λ rest after fit. clear_after a.kind _ (hash_clear p.locale rest))

  pub first_starts : (need : Need) (behind : List ℕ) → StartsOperand (operand need a ++ behind)
  first_starts need behind = let part = operand_part piece need in starts_front (operand need a) behind part.utf8 (operand_starts piece some need)

  pub hash_no_cell : a.cell_first ≡ false → (rest : Text) → NoCell None (chars (operand (need.Level 10) a ++ codes "#") ++ rest)
  hash_no_cell no_first rest =
      let text = operand (need.Level 10) a in
      let part = operand_part piece (need.Level 10) in
      let is = ap (λ (z : Text). z ++ rest) (chars-append text (codes "#") part.utf8) ∙ append_assoc (chars text) (chars (codes "#")) rest in
      subst (NoCell None) (sym is) (operand_no_cell piece some no_first (chars (codes "#") ++ rest) (λ fit. clear_after a.kind _ (hash_clear p.locale rest)))

-- two operands
module _ {p : Profile} {sort other : Sort} {a b : Printed} {x y : Tokened} (first : Piece p sort a x) (second : Piece p other b y)
    (some_first : is_empty sort ≡ false) (some_second : is_empty other ≡ false) where
  -- with a sign between them
  pub infix_spelled : (operator : Infix) → is_colon operator ≡ false
      → Part p.locale p.language (After p.locale (k.Infix operator)) (infix_text operator a b) (tokens.infix_tokens operator x y)
  infix_spelled operator other =
      let right = operand (right_need operator) b in
      let starts = operand_starts second some_second (right_need operator) in
      let signed =
      joined (operand_part first (left_need operator)) (infix_part operator)
      (λ rest after fit. clear_after a.kind _ (infix_clear p.locale operator other rest)) in
      same_tokens (append_assoc (tokens.operand (left_need operator) x) (infix_token operator ∷ []) (tokens.operand (right_need operator) y))
      (joined signed (last_operand second some_second (right_need operator) (k.Infix operator) refl (infix_no_left operator))
      (λ rest after. no_comparison (chars right) rest starts))

  pub infix_starts : (operator : Infix) → StartsOperand (infix_text operator a b)
  infix_starts operator =
      let left = operand (left_need operator) a in
      let right = operand (right_need operator) b in
      ap (λ (z : List ℕ). starts_operand (chars z)) (append_assoc left (infix_sign operator) right)
      ∙ first_starts first some_first (left_need operator) (infix_sign operator ++ right)

  -- behind a colon whose left operand is a reference, no cell stands
  abbrev NoSecond : Text → Type 0
  NoSecond rest = is_reference a.kind ≡ true → b.cell_first ≡ false → NoCell None rest

  fit_left : (cell_follows : Bool) → fits (need.LeftOfColon cell_follows) a.kind ≡ true
      → (stands_left a.kind ≡ true) × (is_reference a.kind ≡ true → cell_follows ≡ false)
  fit_left cell_follows fit =
      let both = and_parts (stands_left a.kind) (not (cell_follows && is_reference a.kind)) fit in
      (both.0, λ is. by cell_follows (ap (λ (r : Bool). not (cell_follows && r)) (sym is) ∙ both.1))
    where
      by : (cell_follows : Bool) → not (cell_follows && true) ≡ true → cell_follows ≡ false
      by true e = absurd cc
      by false e = refl

  colon_after : (rest : Text) → NoSecond rest → fits (need.LeftOfColon b.cell_first) a.kind ≡ true → After p.locale a.kind (chars (codes ":") ++ rest)
  unfolding follows in_word
  colon_after rest after fit =
      let left = fit_left b.cell_first fit in
      subst (λ (z : Text). After p.locale a.kind (z ++ rest)) (sym (ascii_chars (codes ":") refl)) (record {
        ended = λ _. sign_follows p.locale 58 rest refl;
        colon = λ behind e. (left.0, λ is. let same : rest ≡ behind = cc in subst (NoCell None) same (after is (left.1 is)));
      })

  pub colon_spelled : Part p.locale p.language (After p.locale (k.Infix op.Colon)) (colon_text a b) (tokens.colon_tokens x y)
  colon_spelled =
      let left = need.LeftOfColon b.cell_first in
      let right = need.Level 10 in
      let signed = joined (operand_part first left) (anyhow NoSecond colon_part) colon_after in
      let spelled = joined signed (last_operand second some_second right (k.Infix op.Colon) refl refl)
      (λ rest after is no_first. operand_no_cell second some_second no_first rest (λ fit. loosen (k.Infix op.Colon) b.kind rest refl refl after)) in
      let parts = append_assoc (tokens.operand left x) (t.Colon ∷ []) (tokens.operand right y) in
      same_tokens (parts ∙ ap (λ (first : Bool). tokens.operand (need.LeftOfColon first) x ++ t.Colon ∷ tokens.operand right y) (sym second.same_first)) spelled

  pub colon_starts : StartsOperand (colon_text a b)
  colon_starts =
      let left = operand (need.LeftOfColon b.cell_first) a in
      let right = operand (need.Level 10) b in
      ap (λ (z : List ℕ). starts_operand (chars z)) (append_assoc left (codes ":") right)
      ∙ first_starts first some_first (need.LeftOfColon b.cell_first) (codes ":" ++ right)
