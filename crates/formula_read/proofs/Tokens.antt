-- Tokens are read just where they are spelled.
use Rattle.std.proofs.Common.{◌≡◌, ◌≢◌, ℕ, ◌<◌, true, false, [], ◌∷◌, ◌++◌, length, Option, Some, None, refl, sym, ap, subst, ◌∙◌, append_assoc, arith, Bool, cond, zero, suc, ◌+◌, ◌⊎◌, inl, inr, List, length-append, append-nil, option_map}
use Rattle.std.specs.Prelude.{not, ◌==◌, ◌||◌, encode_utf8_all, IfSome, MatchOption}
use Rattle.std.specs.List.{list_all}
use Rattle.std.specs.Option.{option_or, option_map}
use Rattle.std.proofs.lemmas.Bool.{and_parts, both_ways, and_from, eqb-true, or_cases, false_from_ne_true}
use Rattle.std.proofs.lemmas.Str.{length-le-encodes}
use Rattle.std.proofs.lemmas.Bool.Decides.{nat_tests}
use Rattle.std.proofs.UnicodeAscii.{is_alphabetic_ascii}
use Rattle.base_tables.specs.declared.Error.{Error}
use Rattle.base_tables.specs.declared.Language.{Language}
use Rattle.base_tables.specs.declared.Locale.{Locale}
use Rattle.base_tables.specs.Error.{error_of_text}
use Rattle.base_tables.specs.Word.{is_digit, is_word, starts_word, goes_on_word, reads_as_cell, begins_word}
use Rattle.base_decimal.specs.declared.Decimal.{Decimal}
use Rattle.base_decimal.specs.Digits.{stops, span}
use Rattle.base_decimal.proofs.Spans.{span_at, not_true, span_parts, span_all, span_stops}
use Rattle.formula_grammar.specs.declared.CellMark.{CellMark}
use Rattle.formula_grammar.specs.declared.Token.{Token}
use Rattle.formula_grammar.specs.declared.Token.TheVariants as t
use Rattle.formula_read.specs.declared.place.Spot.{Spot}
use Rattle.formula_read.specs.Characters.{Text, is_blank, goes_on_place, doubled}
use Rattle.formula_read.specs.Lexicon.{IsCell, IsRange, IsSheetName, plain, quoted, IsSheet, OnSheet, IsNumber, Spells, NoRange, NoError, Ends, NoCell, IsPair, Begins, IsTokens}
use Rattle.formula_read.specs.laws.Lex.{past, is_sign, on_sheet, behind_word, word_at, behind_quotes, quoted_text, quoted_sheet_at, text_at, plain_at, error_or_hash, error_at, behind_less, behind_greater, by_sign, place_token, place_at, spot_at, token_at, if_next, single, some_text, behind_blanks, with_token, tokens_from, tokens_of}
use Rattle.formula_read.proofs.Places.{start_is, IsSpot, Placed, range_sound, spot_sound, range_read, cell_read, spot_starts, no_spot, cell_no_digit, word_no_spot}
use Rattle.formula_read.proofs.Lexing.{Front, Brings, nothing, brings, brings_at, brings_none, brings_each, brings_over, brings_map, brings_then, brings_or, brings_cond, past_none, past_sound, past_stops, error_sound, error_read, error_none, number_read, number_sound, quoted_read, quoted_text_sound}
use Rattle.formula_read.specs.declared.place.Side.TheVariants as side
use Rattle.formula_read.specs.declared.place.Spot.TheVariants as spot

-- ---- a token that is spelled is read

-- ---- cells and ranges of no sheet

pub on_none : (Is : Text → Type 0) (s : Text) → Is s → OnSheet None Is s
on_none Is s is = record { first = []; second = s; parts = refl; is_first = refl; is_second = is }

pub none_on : (Is : Text → Type 0) (s : Text) → OnSheet None Is s → Is s
none_on Is s is = subst Is (sym (is.parts ∙ ap (λ (x : Text). x ++ is.second) is.is_first)) is.is_second

-- a cell is read where no range is spelled
cell_spot : (mark : CellMark) (s rest : Text) → IsCell mark s → stops goes_on_place rest ≡ true → NoRange None (s ++ rest) → spot_at (s ++ rest) ≡ Some (spot.Cell mark, rest)
cell_spot mark s rest is ends never = cell_read mark s rest is ends ∙ rw (brings_none _ (range_sound (side.Cell mark) s rest is)
    (λ r f. never r.0.0 r.0.1 f.spelled r.1 f.parts (on_none (IsRange r.0.0 r.0.1) f.spelled f.is) f.ends))

no_spot_read : (text : Text) → ((mark : CellMark) (rest : Text) → Placed (IsCell mark) text rest → ⊥) → NoRange None text → spot_at text ≡ None
no_spot_read text no_cell no_range = brings_none _ (spot_sound text) go
  where
    go : (r : Spot × Text) → Placed (IsSpot r.0) text r.1 → ⊥
    go (spot.Cell mark, rest) f = no_cell mark rest f
    go (spot.Range a b, rest) f = no_range a b f.spelled rest f.parts (on_none (IsRange a b) f.spelled f.is) f.ends

-- a text is free of two kinds of characters at its front just where it is free of each
stops_either : (p q : ℕ → Bool) (text : Text) → stops p text ≡ true → stops q text ≡ true → stops (λ c. p c || q c) text ≡ true
stops_either p q text e f = grind arith

stops_both : (p q : ℕ → Bool) (text : Text) → stops (λ c. p c || q c) text ≡ true → (stops p text ≡ true) × (stops q text ≡ true)
stops_both p q text e = grind arith

-- ---- sheets

pub behind_name : (name rest : Text) → name ≢ [] → behind_quotes (encode_utf8_all name, rest) ≡ on_sheet (encode_utf8_all name) rest
behind_name [] rest some = absurd (some refl)
behind_name (c ∷ name) rest some = go (encode_utf8_all (c ∷ name)) (omega (arith, length-le-encodes (c ∷ name)))
  where
    go : (sheet : Text) → 0 < length sheet → behind_quotes (sheet, rest) ≡ on_sheet sheet rest
    go sheet h = grind arith

module _ (locale : Locale) (language : Language) where
  abbrev token : Text → Option (Token × Text)
  token = token_at locale language

  by_start : (c : ℕ) (text : Text) → is_sign c ≡ false → token (c ∷ text) ≡ option_or (place_at None (c ∷ text)) (plain_at locale c (c ∷ text))
  unfolding token_at
  by_start c text e = rw e

  by_plain : (c : ℕ) (text : Text) → is_sign c ≡ false → spot_at (c ∷ text) ≡ None → token (c ∷ text) ≡ plain_at locale c (c ∷ text)
  by_plain c text e f = by_start c text e ∙ rw f

  by_word : (c : ℕ) (text : Text) → starts_word c ≡ true → spot_at (c ∷ text) ≡ None → token (c ∷ text) ≡ word_at (c ∷ text)
  by_word c text e f = by_plain c text (start_is c e).0 f ∙ rw ((start_is c e).1, e)

  spot_token : (text : Text) (x : Spot) (rest : Text) → spot_at text ≡ Some (x, rest) → token text ≡ Some (place_token None x, rest)
  spot_token [] x rest e = absurd (let f = sym no_spot ∙ e in cc)
  spot_token (c ∷ text) x rest e = by_start c text (not_true (is_sign c) (spot_starts is_sign (λ d f. f) (c ∷ text) (x, rest) e)) ∙ rw e

  word_sheet : (name tail : Text) → is_word name ≡ true → reads_as_cell name ≡ false → token (name ++ (33 ∷ tail)) ≡ on_sheet (encode_utf8_all name) (33 ∷ tail)
  unfolding is_word word_at
  word_sheet [] tail word no_cell = absurd cc
  word_sheet (c ∷ name) tail word no_cell =
      let k = and_parts (starts_word c) (list_all goes_on_word (c ∷ name)) word in
      let mark : goes_on_word 33 ≡ false = let is = is_alphabetic_ascii 33 (omega arith) in grind (arith, nat_tests, is) in
      by_word c (name ++ (33 ∷ tail)) k.0 (word_no_spot (c ∷ name) tail k.1) ∙ ap behind_word (span_at goes_on_word (c ∷ name) (33 ∷ tail) k.1 (ap not mark)) ∙ rw no_cell

  sheet_read : (sheet name tail : Text) → IsSheetName sheet name → token (name ++ (33 ∷ tail)) ≡ on_sheet sheet (33 ∷ tail)
  unfolding token_at by_sign quoted_sheet_at quoted_text
  sheet_read sheet name tail (plain word no_cell is) = rw is (word_sheet name tail word no_cell)
  sheet_read sheet name tail (quoted inside spelled some is) =
      rw (spelled, append_assoc (doubled 39 inside) (39 ∷ []) (33 ∷ tail), is, quoted_read 39 inside (33 ∷ tail) refl) (behind_name inside (33 ∷ tail) some)

  -- what stands on a sheet, or on none
  placed_read : (sheet : Option Text) (first place : Text) (x : Spot) (rest : Text) → IsSheet sheet first → spot_at place ≡ Some (x, rest) → token (first ++ place) ≡ Some (place_token sheet x, rest)
  placed_read None first place x rest is e = ap (λ (y : Text). token (y ++ place)) is ∙ spot_token place x rest e
  placed_read (Some sheet) first place x rest is e =
      let m = is.is_second in
      rw (
        is.parts,
        append_assoc is.first is.second place,
        m.parts,
        sheet_read sheet is.first (m.blanks ++ place) is.is_first,
        span_at is_blank m.blanks place m.all_blank (spot_starts is_blank (λ c h. grind (arith, nat_tests)) place (x, rest) e),
        e,
      )

  pub range_token : (sheet : Option Text) (a b : CellMark) (s rest : Text) → OnSheet sheet (IsRange a b) s → stops goes_on_place rest ≡ true → token (s ++ rest) ≡ Some (t.Range sheet a b, rest)
  range_token sheet a b s rest is ends =
      rw (is.parts, append_assoc is.first is.second rest) (placed_read sheet is.first (is.second ++ rest) (spot.Range a b) rest is.is_first (range_read a b is.second rest is.is_second ends))

  cell_token : (sheet : Option Text) (mark : CellMark) (s rest : Text) → OnSheet sheet (IsCell mark) s → Ends locale language (t.Reference sheet mark) s rest → token (s ++ rest) ≡ Some (t.Reference sheet mark, rest)
  cell_token sheet mark s rest is ends =
      let whole : s ++ rest ≡ is.first ++ (is.second ++ rest) = ap (λ (y : Text). y ++ rest) is.parts ∙ append_assoc is.first is.second rest in
      let never : NoRange None (is.second ++ rest) = λ a b z more parts at end.
      ends.1 a b (is.first ++ z) more (whole ∙ ap (λ (y : Text). is.first ++ y) parts ∙ sym (append_assoc is.first z more)) (record { first = is.first; second = z; parts = refl; is_first = is.is_first; is_second = none_on (IsRange a b) z at }) end in
      ap token whole ∙ placed_read sheet is.first (is.second ++ rest) (spot.Cell mark) rest is.is_first (cell_spot mark is.second rest is.is_second ends.0 never)

  -- ---- the other tokens

  word_token : (s rest : Text) → is_word s ≡ true → Ends locale language (t.Word (encode_utf8_all s)) s rest → token (s ++ rest) ≡ Some (t.Word (encode_utf8_all s), rest)
  unfolding is_word word_at
  word_token [] rest word ends = absurd cc
  word_token (c ∷ s) rest word ends =
      let k = and_parts (starts_word c) (list_all goes_on_word (c ∷ s)) word in
      let none = no_spot_read (c ∷ s ++ rest) (λ mark more f. ends.1 mark f.spelled more f.parts (on_none (IsCell mark) f.spelled f.is) f.ends) ends.2 in
      let ends_so = stops_both goes_on_word (λ d. d == 33) rest ends.0 in
      by_word c (s ++ rest) k.0 none ∙ ap behind_word (span_at goes_on_word (c ∷ s) rest k.1 ends_so.0) ∙ rw ends_so.1

  number_token : (number : Decimal) (s rest : Text) → IsNumber locale number s → Ends locale language (t.Number number) s rest → token (s ++ rest) ≡ Some (t.Number number, rest)
  number_token number [] rest is ends = let h = is.starts in absurd cc
  number_token number (c ∷ s) rest is ends =
      let digit = is.starts in
      let none = no_spot_read (c ∷ s ++ rest) (λ mark more f. (let h : not (is_digit c) ≡ true = ap (stops is_digit) f.parts ∙ cell_no_digit mark f.spelled more f.is in both_ways (is_digit c) (not_true (is_digit c) h) digit)) ends.1 in
      by_plain c (s ++ rest) (grind (arith, nat_tests, digit)) none ∙ rw digit (number_read locale number (c ∷ s) rest is ends.0)

  hash_at : (text z : Text) → text ≡ 35 ∷ z → token text ≡ error_or_hash z (error_at language text)
  unfolding token_at by_sign
  hash_at text z e = rw e

  error_token : (error : Error) (s rest : Text) → error_of_text language (encode_utf8_all s) ≡ Some error → token (s ++ rest) ≡ Some (t.Error error, rest)
  error_token error s rest is = go (past 35 (s ++ rest)) refl (past_sound 35 (s ++ rest))
    where
      go : (o : Option Text) → past 35 (s ++ rest) ≡ o → Brings (λ z. s ++ rest ≡ 35 ∷ z) o → token (s ++ rest) ≡ Some (t.Error error, rest)
      go None h f = absurd (let x = sym (error_none language (s ++ rest) h) ∙ error_read language s error rest is in cc)
      go (Some z) h f = hash_at (s ++ rest) z f.read ∙ ap (error_or_hash z) (error_read language s error rest is)

  hash_token : (rest : Text) → NoError language (35 ∷ rest) → token (35 ∷ rest) ≡ Some (t.Hash, rest)
  hash_token rest never = hash_at (35 ∷ rest) rest refl ∙ rw (brings_none _ (error_sound language (35 ∷ rest)) (λ r f. never r.0 f.spelled r.1 f.parts f.is (stops_none r.1)))
    where
      stops_none : (text : Text) → stops (λ c. false) text ≡ true
      stops_none text = grind arith

  pub token_read : (x : Token) (s rest : Text) → Spells locale language x s → Ends locale language x s rest → token (s ++ rest) ≡ Some (x, rest)
  unfolding token_at by_sign text_at quoted_text
  token_read (t.Number number) s rest is ends = number_token number s rest is ends
  token_read (t.Text text) s rest is ends = rw (is.1, append_assoc (doubled 34 is.0) (34 ∷ []) rest, is.2, quoted_read 34 is.0 rest ends)
  token_read (t.Error error) s rest is ends = error_token error s rest is
  token_read (t.Word word) s rest is ends = subst (λ (y : Text). Ends locale language (t.Word y) s rest → token (s ++ rest) ≡ Some (t.Word y, rest)) (sym is.1) (word_token s rest is.0) ends
  token_read (t.Reference sheet mark) s rest is ends = cell_token sheet mark s rest is ends
  token_read (t.Range sheet a b) s rest is ends = range_token sheet a b s rest is ends
  token_read t.Less s rest is ends =
      let k = stops_both (λ c. c == 61) (λ c. c == 62) rest ends in ap (λ (y : Text). token (y ++ rest)) is ∙ rw (past_none 62 rest k.1, past_none 61 rest k.0)
  token_read t.Greater s rest is ends = ap (λ (y : Text). token (y ++ rest)) is ∙ rw (past_none 61 rest ends)
  token_read t.Hash s rest is ends = ap (λ (y : Text). token (y ++ rest)) is ∙ hash_token rest (subst (λ (y : Text). NoError language (y ++ rest)) is ends)
  token_read _ s rest is ends = ap (λ (y : Text). token (y ++ rest)) is

-- ---- a token that is read is spelled

-- ---- where no place is read

pub no_range_spelled : (text : Text) → spot_at text ≡ None → NoRange None text
no_range_spelled text e a b s rest parts is ends = let f = sym (range_read a b s rest (none_on (IsRange a b) s is) ends) ∙ ap spot_at (sym parts) ∙ e in absurd cc

no_error_spelled : (language : Language) (text : Text) → error_at language text ≡ None → NoError language text
no_error_spelled language text h error s rest parts is ends = let g = sym (error_read language s error rest is) ∙ ap (error_at language) (sym parts) ∙ h in absurd cc

pub no_cell_spelled : (text : Text) → spot_at text ≡ None → NoCell None text
no_cell_spelled text e mark s rest parts is ends =
    let h = sym (cell_read mark s rest (none_on (IsCell mark) s is) ends) ∙ ap spot_at (sym parts) ∙ e in grind arith

abbrev span_by : ℕ → Text → Text × Text → Bool → Text × Text
span_by c z s passes = cond passes (c ∷ s.0, s.1) ([], c ∷ z)

word_front : (c : ℕ) (text : Text) → starts_word c ≡ true → is_word (span goes_on_word (c ∷ text)).0 ≡ true
unfolding is_word
word_front c text e =
    and_from _ _ (ap (λ (b : Bool). begins_word (span_by c text (span goes_on_word text) b).0) (start_is c e).2 ∙ e) (span_all goes_on_word (c ∷ text))

module _ (locale : Locale) (language : Language) where
  -- a token that is spelled at the front of a text
  pub record FrontToken (text : Text) (x : Token) (rest : Text) : Type 0 where
    pub spelled : Text
    pub parts : text ≡ spelled ++ rest
    pub spells : Spells locale language x spelled
    pub ends : Ends locale language x spelled rest

  -- if this is what is read at the front, it is spelled there
  abbrev Sound : Text → Token × Text → Type 0
  Sound text p = token_at locale language text ≡ Some p → FrontToken text p.0 p.1

  -- ---- places

  place_sound : (sheet : Option Text) (text first place : Text) → text ≡ first ++ place → IsSheet sheet first → Brings (Sound text) (place_at sheet place)
  place_sound sheet text first place parts is = brings_map _ _ (spot_sound place) go
    where
      whole : (s rest : Text) → place ≡ s ++ rest → text ≡ (first ++ s) ++ rest
      whole s rest e = rw (parts, e, append_assoc first s rest)

      on_it : (Is : Text → Type 0) (s : Text) → Is s → OnSheet sheet Is (first ++ s)
      on_it Is s at = record { first = first; second = s; parts = refl; is_first = is; is_second = at }

      go : (r : Spot × Text) → Placed (IsSpot r.0) place r.1 → Sound text (place_token sheet r.0, r.1)
      go (spot.Range a b, rest) f e =
          record { spelled = first ++ f.spelled; parts = whole f.spelled rest f.parts; spells = on_it (IsRange a b) f.spelled f.is; ends = f.ends }
      go (spot.Cell mark, rest) f e =
          let never : NoRange sheet ((first ++ f.spelled) ++ rest) = λ a b z more there at ends.
          (let here = ap (token_at locale language) (sym (whole f.spelled rest f.parts ∙ there)) in
          let h = ap (option_map (λ (q : Token × Text). q.0)) (sym (range_token locale language sheet a b z more at ends) ∙ here ∙ e) in absurd cc) in
          record { spelled = first ++ f.spelled; parts = whole f.spelled rest f.parts; spells = on_it (IsCell mark) f.spelled f.is; ends = (f.ends, never) }

  on_sheet_sound : (text sheet name behind : Text) → text ≡ name ++ behind → IsSheetName sheet name → Brings (Sound text) (on_sheet sheet behind)
  on_sheet_sound text sheet name behind parts named = brings_then _ _ (past_sound 33 behind) (λ z e.
      (let s = span is_blank z in
      place_sound (Some sheet) text (name ++ (33 ∷ s.0)) s.1 (rw (parts, e, append_assoc name (33 ∷ s.0) s.1) (ap (λ (y : Text). name ++ (33 ∷ y)) (span_parts is_blank z)))
      (record { first = name; second = 33 ∷ s.0; parts = refl; is_first = named; is_second = record { blanks = s.0; parts = refl; all_blank = span_all is_blank z } })))

  -- ---- words, numbers and texts

  word_sound : (c : ℕ) (text : Text) → starts_word c ≡ true → spot_at (c ∷ text) ≡ None → Brings (Sound (c ∷ text)) (word_at (c ∷ text))
  unfolding word_at
  word_sound c text start none =
      let s = span goes_on_word (c ∷ text) in
      let parts : c ∷ text ≡ s.0 ++ s.1 = span_parts goes_on_word (c ∷ text) in
      brings_cond (stops (λ d. d == 33) s.1) _ _
      (λ h. brings (λ e. record {
        spelled = s.0;
        parts = parts;
        spells = (word_front c text start, refl);
        ends = (stops_either goes_on_word (λ d. d == 33) s.1 (span_stops goes_on_word (c ∷ text)) h, subst (NoCell None) parts (no_cell_spelled (c ∷ text) none), subst (NoRange None) parts (no_range_spelled (c ∷ text) none));
      }))
      (λ h. brings_cond (reads_as_cell s.0) _ _ (λ k. nothing)
      (λ k. on_sheet_sound (c ∷ text) (encode_utf8_all s.0) s.0 s.1 parts (plain (word_front c text start) k refl)))

  plain_sound : (c : ℕ) (text : Text) → spot_at (c ∷ text) ≡ None → Brings (Sound (c ∷ text)) (plain_at locale c (c ∷ text))
  plain_sound c text none = brings_cond (is_digit c) _ _
      (λ digit. brings_over _ (number_sound locale c text digit) (λ r f e. rw f.1 (record {
        spelled = f.2.spelled;
        parts = f.2.parts;
        spells = f.2.is;
        ends = (f.3, subst (NoRange None) f.2.parts (no_range_spelled (c ∷ text) none));
      })))
      (λ h. brings_cond (starts_word c) _ _ (λ start. word_sound c text start none) (λ k. nothing))

  text_sound : (text : Text) → Brings (Sound (34 ∷ text)) (text_at text)
  unfolding text_at
  text_sound text = brings_map _ _ (quoted_text_sound 34 text) (λ r f e. record {
    spelled = 34 ∷ doubled 34 f.0 ++ 34 ∷ [];
    parts = rw (f.2.parts, append_assoc (doubled 34 f.0) (34 ∷ []) r.1);
    spells = (f.0, refl, f.1);
    ends = f.2.ends;
  })

  quoted_sheet_sound : (text : Text) → Brings (Sound (39 ∷ text)) (quoted_sheet_at text)
  unfolding quoted_sheet_at
  quoted_sheet_sound text = brings_then _ _ (quoted_text_sound 39 text)
      (λ r f. subst (λ (sheet : Text). Brings (Sound (39 ∷ text)) (behind_quotes (sheet, r.1))) (sym f.1) (named f.0 r.1 f.2.parts))
    where
      named : (name rest : Text) → text ≡ doubled 39 name ++ (39 ∷ rest) → Brings (Sound (39 ∷ text)) (behind_quotes (encode_utf8_all name, rest))
      named [] rest parts = nothing
      named (d ∷ name) rest parts =
          let some : (let q : Text = d ∷ name in q) ≢ [] = λ g. absurd cc in
          rw (behind_name (d ∷ name) rest some) (on_sheet_sound (39 ∷ text) (encode_utf8_all (d ∷ name)) (39 ∷ doubled 39 (d ∷ name) ++ 39 ∷ []) rest
          (rw (parts, append_assoc (doubled 39 (d ∷ name)) (39 ∷ []) rest)) (quoted (d ∷ name) refl some refl))

  -- ---- signs

  hash_sound : (text : Text) → Brings (Sound (35 ∷ text)) (error_or_hash text (error_at language (35 ∷ text)))
  hash_sound text = go (error_at language (35 ∷ text)) refl (error_sound language (35 ∷ text))
    where
      go : (o : Option (Error × Text)) → error_at language (35 ∷ text) ≡ o → Brings (λ r. Front (λ s. error_of_text language (encode_utf8_all s) ≡ Some r.0) (35 ∷ text) r.1) o
          → Brings (Sound (35 ∷ text)) (error_or_hash text o)
      go (Some r) h f = brings (λ e. record { spelled = f.read.spelled; parts = f.read.parts; spells = f.read.is; ends = tt })
      go None h f = brings (λ e. record { spelled = 35 ∷ []; parts = refl; spells = refl; ends = no_error_spelled language (35 ∷ text) h })

  -- a character that may stand behind a sign
  next_sound : (c mark : ℕ) (x : Token) (other : Option (Token × Text)) (text : Text) → Spells locale language x (c ∷ mark ∷ []) → ((rest : Text) → Ends locale language x (c ∷ mark ∷ []) rest)
      → (stops (λ d. d == mark) text ≡ true → Brings (Sound (c ∷ text)) other) → Brings (Sound (c ∷ text)) (if_next mark x other text)
  next_sound c mark x other text spells ends more = brings_or _ _ _ (past_sound mark text)
      (λ z h e. record { spelled = c ∷ mark ∷ []; parts = rw h; spells = spells; ends = ends z }) (λ none. more (past_stops mark text none))

  less_sound : (text : Text) → Brings (Sound (60 ∷ text)) (behind_less text)
  less_sound text = next_sound 60 62 t.NotEqual _ text refl (λ rest. tt) (λ h. next_sound 60 61 t.LessOrEqual (Some (t.Less, text)) text refl (λ rest. tt)
      (λ k. brings (λ e. record { spelled = 60 ∷ []; parts = refl; spells = refl; ends = stops_either (λ c. c == 61) (λ c. c == 62) text k h })))

  greater_sound : (text : Text) → Brings (Sound (62 ∷ text)) (behind_greater text)
  greater_sound text = next_sound 62 61 t.GreaterOrEqual (Some (t.Greater, text)) text refl (λ rest. tt)
      (λ k. brings (λ e. record { spelled = 62 ∷ []; parts = refl; spells = refl; ends = k }))

  single_is : (c : ℕ) → IfSome (single c) (λ x. (text : Text) → Spells locale language x (c ∷ []) × Ends locale language x (c ∷ []) text)
  single_is c = grind (arith, nat_tests)

  single_sound : (c : ℕ) (text : Text) → Brings (λ x. Sound (c ∷ text) (x, text)) (single c)
  single_sound c text = brings_over (single c) (record { read = single_is c })
      (λ x h e. record { spelled = c ∷ []; parts = refl; spells = (h text).0; ends = (h text).1 })

  at_code : (c code : ℕ) (text : Text) (o : Option (Token × Text)) → Brings (Sound (code ∷ text)) o → (c == code) ≡ true → Brings (Sound (c ∷ text)) o
  at_code c code text o f h = rw (eqb-true c code h) f

  sign_sound : (c : ℕ) (text : Text) → Brings (Sound (c ∷ text)) (by_sign language c text)
  unfolding by_sign
  sign_sound c text =
      brings_cond (c == 34) _ _ (at_code c 34 text _ (text_sound text)) (λ h.
      brings_cond (c == 39) _ _ (at_code c 39 text _ (quoted_sheet_sound text)) (λ h.
      brings_cond (c == 35) _ _ (at_code c 35 text _ (hash_sound text)) (λ h.
      brings_cond (c == 60) _ _ (at_code c 60 text _ (less_sound text)) (λ h.
      brings_cond (c == 62) _ _ (at_code c 62 text _ (greater_sound text)) (λ h.
      brings_map _ _ (single_sound c text) (λ x f. f))))))

  all_sound : (text : Text) → Brings (Sound text) (token_at locale language text)
  unfolding token_at
  all_sound [] = nothing
  all_sound (c ∷ text) = brings_cond (is_sign c) _ _ (λ h. sign_sound c text)
      (λ h. brings_or _ _ _ (brings_each (spot_at (c ∷ text)) (λ r e. e)) (λ r e. brings_at (place_at None (c ∷ text)) (place_token None r.0, r.1)
      (place_sound None (c ∷ text) [] (c ∷ text) refl refl) (rw e)) (λ none. plain_sound c text none))

  pub token_sound : (text : Text) (p : Token × Text) → token_at locale language text ≡ Some p → FrontToken text p.0 p.1
  token_sound text p e = brings_at (token_at locale language text) p (all_sound text) e e

-- ---- the tokens of a text are read just where they are spelled

-- the second part of an empty text is empty
on_empty : (First Second : Text → Type 0) → (Second [] → ⊥) → IsPair First [] Second [] → ⊥
on_empty First Second never is = go is.first is.second is.parts is.is_second
  where
    go : (first second : Text) → [] ≡ first ++ ([] ++ second) → Second second → ⊥
    go [] second e at = never (subst Second (sym e) at)
    go (c ∷ first) second e at = absurd cc

-- what blanks stand before
abbrev Behind : Text → Text → Type 0
Behind text z = (blanks : Text) × (text ≡ blanks ++ z) × (list_all is_blank blanks ≡ true)

blanks_sound : (text : Text) → MatchOption (behind_blanks text) (list_all is_blank text ≡ true) (Behind text)
unfolding behind_blanks
blanks_sound text = go (span is_blank text).0 (span is_blank text).1 (span_parts is_blank text) (span_all is_blank text)
  where
    go : (b z : Text) → text ≡ b ++ z → list_all is_blank b ≡ true → MatchOption (some_text z) (list_all is_blank text ≡ true) (Behind text)
    go b [] e f = ap (list_all is_blank) (e ∙ append-nil b) ∙ f
    go b (c ∷ z) e f = (b, e, f)

blanks_none : (text : Text) → list_all is_blank text ≡ true → behind_blanks text ≡ None
unfolding behind_blanks
blanks_none text e = ap (λ (z : Text). some_text (span is_blank z).1) (sym (append-nil text)) ∙ ap (λ (s : Text × Text). some_text s.1) (span_at is_blank text [] e refl)

-- tokens that were read before stand in front
abbrev pub ahead : List Token → Option (List Token) → Option (List Token)
ahead front = option_map (λ tokens. front ++ tokens)

pub ahead_none : (o : Option (List Token)) → o ≡ ahead [] o
ahead_none o = grind arith

ahead_one : (front : List Token) (x : Token) (o : Option (List Token)) → ahead front (option_map (λ tokens. x ∷ tokens) o) ≡ ahead (front ++ x ∷ []) o
ahead_one front x o = grind (arith, append_assoc)

module _ (locale : Locale) (language : Language) where
  abbrev Lexer : Type 0
  Lexer = Text → Option (List Token)

  abbrev tokens : Lexer
  tokens = tokens_of locale language

  -- ---- a token is not empty, and begins with no blank

  not_empty : (x : Token) → Spells locale language x [] → ⊥
  unfolding is_word
  not_empty (t.Number number) is = let h = is.starts in absurd cc
  not_empty (t.Text text) is = let h = is.1 in absurd cc
  not_empty (t.Error error) is = let e = sym (error_none language [] refl) ∙ error_read language [] error [] is in absurd cc
  not_empty (t.Word word) is = let h = is.0 in absurd cc
  not_empty (t.Reference sheet mark) is = on_empty (IsSheet sheet) (IsCell mark) (λ at. no_cell_spelled [] no_spot mark [] [] refl (on_none (IsCell mark) [] at) refl) is
  not_empty (t.Range sheet a b) is = on_empty (IsSheet sheet) (IsRange a b) (λ at. no_range_spelled [] no_spot a b [] [] refl (on_none (IsRange a b) [] at) refl) is
  not_empty _ is = absurd cc

  blank_none : (c : ℕ) (text : Text) → ((c == 32) ≡ true) ⊎ ((c == 10) ≡ true) → token_at locale language (c ∷ text) ≡ None
  unfolding token_at by_sign
  blank_none c text (inl e) = ap (λ (d : ℕ). token_at locale language (d ∷ text)) (eqb-true c 32 e)
  blank_none c text (inr e) = ap (λ (d : ℕ). token_at locale language (d ∷ text)) (eqb-true c 10 e)

  blanks_read : (blanks z : Text) (p : Token × Text) → list_all is_blank blanks ≡ true → token_at locale language z ≡ Some p → behind_blanks (blanks ++ z) ≡ Some z
  unfolding behind_blanks token_at
  blanks_read blanks [] p all e = absurd cc
  blanks_read blanks (c ∷ z) p all e =
      let no = false_from_ne_true (is_blank c) (λ h. (let f = sym (blank_none c z (or_cases (c == 32) (c == 10) h)) ∙ e in absurd cc)) in
      ap (λ (s : Text × Text). some_text s.1) (span_at is_blank blanks (c ∷ z) all (ap not no))

  -- ---- a turn: the bound does not matter where it is large enough

  turn_begins : (text z rest : Text) (x : Token) → behind_blanks text ≡ Some z → token_at locale language z ≡ Some (x, rest) → Begins locale language text x rest
  turn_begins text z rest x e g =
      let b = subst (λ o. MatchOption o (list_all is_blank text ≡ true) (Behind text)) e (blanks_sound text) in
      let f = token_sound locale language z (x, rest) g in
      record { blanks = b.0; spelled = f.spelled; parts = b.1 ∙ ap (λ (y : Text). b.0 ++ y) f.parts; all_blank = b.2; spells = f.spells; ends = f.ends }

  pub turn_shorter : (text z rest : Text) (x : Token) → behind_blanks text ≡ Some z → token_at locale language z ≡ Some (x, rest) → length rest < length text
  turn_shorter text z rest x e g = let b = turn_begins text z rest x e g in go b.blanks b.spelled b.spells b.parts
    where
      go : (blanks s : Text) → Spells locale language x s → text ≡ blanks ++ (s ++ rest) → length rest < length text
      go blanks [] is parts = absurd (not_empty x is)
      go blanks (c ∷ s) is parts = omega (arith, ap length parts, length-append blanks (c ∷ s ++ rest), length-append s rest)

  turn_same : (f g : Lexer) (text : Text) → ((rest : Text) → length rest < length text → f rest ≡ g rest) → with_token locale language f (behind_blanks text) ≡ with_token locale language g (behind_blanks text)
  turn_same f g text h =
      let same : (z : Text) (p : Token × Text) → behind_blanks text ≡ Some z → token_at locale language z ≡ Some p → f p.1 ≡ g p.1 =
      λ z p a b. h p.1 (turn_shorter text z p.1 p.0 a b) in
      grind (arith, same)

  from_same : (k m : ℕ) (text : Text) → length text < k → length text < m → tokens_from locale language k text ≡ tokens_from locale language m text
  unfolding tokens_from
  from_same zero m text a b = absurd (omega arith)
  from_same (suc k) zero text a b = absurd (omega arith)
  from_same (suc k) (suc m) text a b = turn_same (tokens_from locale language k) (tokens_from locale language m) text (λ rest h. from_same k m rest (omega arith) (omega arith))

  tokens_turn : (text : Text) → tokens text ≡ with_token locale language tokens (behind_blanks text)
  unfolding tokens_of tokens_from
  tokens_turn text =
      let one : length text + 1 ≡ suc (length text) = omega arith in
      ap (λ (k : ℕ). tokens_from locale language k text) one
      ∙ turn_same (tokens_from locale language (length text)) tokens text (λ rest h. from_same (length text) (length rest + 1) rest (omega arith) (omega arith))

  pub turn_end : (front : List Token) (text : Text) → behind_blanks text ≡ None → ahead front (tokens text) ≡ Some front
  turn_end front text e = rw (tokens_turn text, e, append-nil front)

  pub turn_fail : (front : List Token) (text z : Text) → behind_blanks text ≡ Some z → token_at locale language z ≡ None → ahead front (tokens text) ≡ None
  turn_fail front text z e g = rw (tokens_turn text, e, g)

  pub turn_on : (front : List Token) (text z rest : Text) (x : Token) → behind_blanks text ≡ Some z → token_at locale language z ≡ Some (x, rest) → ahead front (tokens text) ≡ ahead (front ++ x ∷ []) (tokens rest)
  turn_on front text z rest x e g = rw (tokens_turn text, e, g) (ahead_one front x (tokens rest))

  -- ---- what is read is spelled

  with_sound : (f : Lexer) → ((text : Text) → Brings (IsTokens locale language text) (f text)) → (text : Text)
      → Brings (IsTokens locale language text) (with_token locale language f (behind_blanks text))
  with_sound f again text = go (behind_blanks text) (blanks_sound text) (turn_begins text)
    where
      go : (o : Option Text) → MatchOption o (list_all is_blank text ≡ true) (Behind text)
          → ((z rest : Text) (x : Token) → o ≡ Some z → token_at locale language z ≡ Some (x, rest) → Begins locale language text x rest)
          → Brings (IsTokens locale language text) (with_token locale language f o)
      go None b begins = brings b
      go (Some z) b begins = brings_then _ _ (brings_each (token_at locale language z) (λ p e. begins z p.1 p.0 refl e))
          (λ p g. brings_map _ _ (again p.1) (λ ts h. (p.1, g, h)))

  from_sound : (k : ℕ) (text : Text) → Brings (IsTokens locale language text) (tokens_from locale language k text)
  unfolding tokens_from
  from_sound zero text = nothing
  from_sound (suc k) text = with_sound (tokens_from locale language k) (from_sound k) text

  pub tokens_sound : (text : Text) (ts : List Token) → tokens text ≡ Some ts → IsTokens locale language text ts
  unfolding tokens_of
  tokens_sound text ts = brings_at (tokens text) ts (from_sound (length text + 1) text)

  -- ---- what is spelled is read

  pub tokens_complete : (ts : List Token) (text : Text) → IsTokens locale language text ts → tokens text ≡ Some ts
  tokens_complete [] text is = rw (tokens_turn text, blanks_none text is)
  tokens_complete (x ∷ ts) text is =
      let b = is.1 in
      let read = token_read locale language x b.spelled is.0 b.spells b.ends in
      let behind = ap behind_blanks b.parts ∙ blanks_read b.blanks (b.spelled ++ is.0) (x, is.0) b.all_blank read in
      rw (tokens_turn text, behind, read, tokens_complete ts is.0 is.2)

  -- a text is at most one list of tokens
  pub tokens_once : (text : Text) (a b : List Token) → IsTokens locale language text a → IsTokens locale language text b → a ≡ b
  tokens_once text a b is at = let e = sym (tokens_complete a text is) ∙ tokens_complete b text at in cc

pub ruleset turns = (ahead_none, turn_end, turn_fail, turn_on, turn_shorter)

pub ruleset laws = (tokens_once, tokens_sound, tokens_complete)
