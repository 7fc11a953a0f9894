-- Laws of escaped texts.
use Rattle.std.proofs.Common.{◌≡◌, ◌≢◌, ℕ, ◌+◌, ◌/◌, ◌%◌, ◌≤◌, ◌==◌, Bool, true, false, cond, List, [], ◌∷◌, ◌++◌, Option, Some, None, option_map, refl, sym, ap, subst, ◌∙◌, arith}
use Rattle.std.specs.Prelude.{IfSome, not}
use Rattle.std.specs.Str.{IsUtf8, encode_utf8_all, all_scalars}
use Rattle.std.proofs.Math.Utf8.{encode}
use Rattle.std.proofs.lemmas.Str.{IsUtf8-nil, IsUtf8-encode, IsUtf8-append}
use Rattle.std.proofs.lemmas.Bool.{ne_eqb, eqb-true, eqb-false, and_parts}
use lib.Dec.{ltb}
use Rattle.script_lines.specs.Escapes.{escape_byte, escaped, unescaped, onto, is_one_line}

-- ---- bytes that are no backslash

pub unescaped-byte : (b : ℕ) (bytes : List ℕ) → b == 92 ≡ false → unescaped (b ∷ bytes) ≡ onto b (unescaped bytes)
unescaped-byte b [] e = ap (λ t. cond t None (Some (b ∷ []))) e
unescaped-byte b (c ∷ bytes) e =
    ap (λ t. cond t (cond (c == 110) (onto 10 (unescaped bytes)) (cond (c == 92) (onto 92 (unescaped bytes)) None)) (onto b (unescaped (c ∷ bytes)))) e

-- ---- what is escaped stands for what it was

undone_byte : (b : ℕ) (rest text : List ℕ) → unescaped rest ≡ Some text → unescaped (escape_byte b ++ rest) ≡ Some (b ∷ text)
undone_byte b rest text e = line_feed (b == 10) refl
  where
    plain : b == 92 ≡ false → unescaped (b ∷ rest) ≡ Some (b ∷ text)
    plain other = unescaped-byte b rest other ∙ ap (onto b) e

    backslash : (t : Bool) → b == 92 ≡ t → unescaped (cond t (92 ∷ 92 ∷ []) (b ∷ []) ++ rest) ≡ Some (b ∷ text)
    backslash true is = ap (onto 92) e ∙ ap (λ c. Some (c ∷ text)) (sym (eqb-true b 92 is))
    backslash false is = plain is

    line_feed : (t : Bool) → b == 10 ≡ t → unescaped (cond t (92 ∷ 110 ∷ []) (cond (b == 92) (92 ∷ 92 ∷ []) (b ∷ [])) ++ rest) ≡ Some (b ∷ text)
    line_feed true is = ap (onto 10) e ∙ ap (λ c. Some (c ∷ text)) (sym (eqb-true b 10 is))
    line_feed false is = backslash (b == 92) refl

-- ---- a text in UTF-8 stands for a text in UTF-8

-- no backslash among the bytes
abbrev Plain : List ℕ → Type 0
Plain [] = Unit {0}
Plain (b ∷ bytes) = (b ≢ 92) × Plain bytes

twice : (b : ℕ) (bytes : List ℕ) (o : Option (List ℕ)) → onto b (option_map (λ t. bytes ++ t) o) ≡ option_map (λ t. b ∷ bytes ++ t) o
twice b bytes None = refl
twice b bytes (Some t) = refl

same_map : (o : Option (List ℕ)) → o ≡ option_map (λ t. [] ++ t) o
same_map None = refl
same_map (Some t) = refl

unescaped-plain : (xs ys : List ℕ) → Plain xs → unescaped (xs ++ ys) ≡ option_map (λ t. xs ++ t) (unescaped ys)
unescaped-plain [] ys h = same_map (unescaped ys)
unescaped-plain (b ∷ xs) ys h = unescaped-byte b (xs ++ ys) (ne_eqb b 92 h.0) ∙ ap (onto b) (unescaped-plain xs ys h.1) ∙ twice b xs (unescaped ys)

encode-plain : (c : ℕ) → c ≢ 92 → Plain (encode c)
unfolding encode
encode-plain c other = one (ltb c 128)
  where
    three : (t : Bool) → Plain (cond t ((224 + c / 4096) ∷ (128 + c / 64 % 64) ∷ (128 + c % 64) ∷ []) ((240 + c / 262144) ∷ (128 + c / 4096 % 64) ∷ (128 + c / 64 % 64) ∷ (128 + c % 64) ∷ []))
    three true = (λ e. omega arith, (λ e. omega arith, (λ e. omega arith, tt)))
    three false = (λ e. omega arith, (λ e. omega arith, (λ e. omega arith, (λ e. omega arith, tt))))

    two : (t : Bool) → Plain (cond t ((192 + c / 64) ∷ (128 + c % 64) ∷ []) (cond (ltb c 65536) ((224 + c / 4096) ∷ (128 + c / 64 % 64) ∷ (128 + c % 64) ∷ []) ((240 + c / 262144) ∷ (128 + c / 4096 % 64) ∷ (128 + c / 64 % 64) ∷ (128 + c % 64) ∷ [])))
    two true = (λ e. omega arith, (λ e. omega arith, tt))
    two false = three (ltb c 65536)

    one : (t : Bool) → Plain (cond t (c ∷ []) (cond (ltb c 2048) ((192 + c / 64) ∷ (128 + c % 64) ∷ []) (cond (ltb c 65536) ((224 + c / 4096) ∷ (128 + c / 64 % 64) ∷ (128 + c % 64) ∷ []) ((240 + c / 262144) ∷ (128 + c / 4096 % 64) ∷ (128 + c / 64 % 64) ∷ (128 + c % 64) ∷ []))))
    one true = (other, tt)
    one false = two (ltb c 2048)

-- what stands for itself, before what is text
before : (xs : List ℕ) (o : Option (List ℕ)) → IsUtf8 xs → IfSome o IsUtf8 → IfSome (option_map (λ t. xs ++ t) o) IsUtf8
before xs None one rest = tt
before xs (Some t) one rest = IsUtf8-append xs t one rest

-- a backslash before a byte
behind : (t s : Bool) (o : Option (List ℕ)) → IfSome o IsUtf8 → IfSome (cond t (onto 10 o) (cond s (onto 92 o) None)) IsUtf8
unfolding encode
behind true s o h = before (10 ∷ []) o (10 ∷ [], (refl, refl)) h
behind false true o h = before (92 ∷ []) o (92 ∷ [], (refl, refl)) h
behind false false o h = tt

no_escape : (e : ℕ) (rest : List ℕ) → 128 ≤ e → unescaped (92 ∷ e ∷ rest) ≡ None
no_escape e rest high =
    ap (λ t. cond t (onto 10 (unescaped rest)) (cond (e == 92) (onto 92 (unescaped rest)) None)) (ne_eqb e 110 (λ p. omega arith))
    ∙ ap (λ t. cond t (onto 92 (unescaped rest)) None) (ne_eqb e 92 (λ p. omega arith))

none_utf8 : (o : Option (List ℕ)) → o ≡ None → IfSome o IsUtf8
none_utf8 None e = tt
none_utf8 (Some t) e = absurd cc

behind_char : (c : ℕ) (ys : List ℕ) → IfSome (unescaped ys) IsUtf8 → IfSome (unescaped (92 ∷ encode c ++ ys)) IsUtf8
unfolding encode
behind_char c ys h = one (ltb c 128)
  where
    high : (e : ℕ) (rest : List ℕ) → 128 ≤ e → IfSome (unescaped (92 ∷ e ∷ rest)) IsUtf8
    high e rest more = none_utf8 (unescaped (92 ∷ e ∷ rest)) (no_escape e rest more)

    three : (t : Bool) → IfSome (unescaped (92 ∷ cond t ((224 + c / 4096) ∷ (128 + c / 64 % 64) ∷ (128 + c % 64) ∷ []) ((240 + c / 262144) ∷ (128 + c / 4096 % 64) ∷ (128 + c / 64 % 64) ∷ (128 + c % 64) ∷ []) ++ ys)) IsUtf8
    three true = high (224 + c / 4096) ((128 + c / 64 % 64) ∷ (128 + c % 64) ∷ ys) (omega arith)
    three false = high (240 + c / 262144) ((128 + c / 4096 % 64) ∷ (128 + c / 64 % 64) ∷ (128 + c % 64) ∷ ys) (omega arith)

    two : (t : Bool) → IfSome (unescaped (92 ∷ cond t ((192 + c / 64) ∷ (128 + c % 64) ∷ []) (cond (ltb c 65536) ((224 + c / 4096) ∷ (128 + c / 64 % 64) ∷ (128 + c % 64) ∷ []) ((240 + c / 262144) ∷ (128 + c / 4096 % 64) ∷ (128 + c / 64 % 64) ∷ (128 + c % 64) ∷ [])) ++ ys)) IsUtf8
    two true = high (192 + c / 64) ((128 + c % 64) ∷ ys) (omega arith)
    two false = three (ltb c 65536)

    one : (t : Bool) → IfSome (unescaped (92 ∷ cond t (c ∷ []) (cond (ltb c 2048) ((192 + c / 64) ∷ (128 + c % 64) ∷ []) (cond (ltb c 65536) ((224 + c / 4096) ∷ (128 + c / 64 % 64) ∷ (128 + c % 64) ∷ []) ((240 + c / 262144) ∷ (128 + c / 4096 % 64) ∷ (128 + c / 64 % 64) ∷ (128 + c % 64) ∷ []))) ++ ys)) IsUtf8
    one true = behind (c == 110) (c == 92) (unescaped ys) h
    one false = two (ltb c 2048)

both : (c : ℕ) (ys : List ℕ) → IsUtf8 (encode c) → IfSome (unescaped ys) IsUtf8 → IfSome (unescaped (92 ∷ ys)) IsUtf8 → IfSome (unescaped (encode c ++ ys)) IsUtf8
unfolding encode
both c ys char plain escape = go (c == 92) refl
  where
    go : (t : Bool) → c == 92 ≡ t → IfSome (unescaped (encode c ++ ys)) IsUtf8
    go true is = subst (λ d. IfSome (unescaped (encode d ++ ys)) IsUtf8) (sym (eqb-true c 92 is)) escape
    go false is = subst (λ o. IfSome o IsUtf8) (sym (unescaped-plain (encode c) ys (encode-plain c (λ e. eqb-false c 92 is e)))) (before (encode c) (unescaped ys) char plain)

chars_stay : (cs : List ℕ) → all_scalars cs ≡ true → IfSome (unescaped (encode_utf8_all cs)) IsUtf8 × IfSome (unescaped (92 ∷ encode_utf8_all cs)) IsUtf8
chars_stay [] e = (IsUtf8-nil, tt)
chars_stay (c ∷ cs) e =
    let so = and_parts _ _ e in
    let rest = chars_stay cs so.1 in
    (both c (encode_utf8_all cs) (IsUtf8-encode c so.0) rest.0 rest.1, behind_char c (encode_utf8_all cs) rest.0)

-- what a text in UTF-8 stands for is one
pub unescaped-IsUtf8 : (bytes : List ℕ) → IsUtf8 bytes → IfSome (unescaped bytes) IsUtf8
unescaped-IsUtf8 bytes h = subst (λ b. IfSome (unescaped b) IsUtf8) h.1.1 (chars_stay h.0 h.1.0).0

-- what is escaped stands for what it was
pub unescaped-escaped : (text : List ℕ) → unescaped (escaped text) ≡ Some text
unescaped-escaped [] = refl
unescaped-escaped (b ∷ text) = undone_byte b (escaped text) text (unescaped-escaped text)

-- ---- on one line nothing else stands for a text

record Begins (b : ℕ) (o : Option (List ℕ)) (text : List ℕ) : Type 0 where
  rest : List ℕ
  is : o ≡ Some rest
  whole : text ≡ b ∷ rest

begins : (b : ℕ) (o : Option (List ℕ)) (text : List ℕ) → onto b o ≡ Some text → Begins b o text
begins b None text e = absurd cc
begins b (Some rest) text e = record { rest = rest; is = refl; whole = cc }

other_byte : (b : ℕ) → b == 10 ≡ false → b == 92 ≡ false → b ∷ [] ≡ escape_byte b
other_byte b e f = sym (ap (λ t. cond t (92 ∷ 110 ∷ []) (cond (b == 92) (92 ∷ 92 ∷ []) (b ∷ []))) e ∙ ap (λ t. cond t (92 ∷ 92 ∷ []) (b ∷ [])) f)

onto_other : (b : ℕ) (bytes text rest : List ℕ) → b == 10 ≡ false → b == 92 ≡ false → text ≡ b ∷ rest → bytes ≡ escaped rest → b ∷ bytes ≡ escaped text
onto_other b bytes text rest e f whole is = ap (λ l. b ∷ l) is ∙ ap (λ l. l ++ escaped rest) (other_byte b e f) ∙ ap escaped (sym whole)

no_line_feed : (b : ℕ) (bytes : List ℕ) → is_one_line (b ∷ bytes) ≡ true → (b == 10 ≡ false) × (is_one_line bytes ≡ true)
no_line_feed b bytes e = let h = and_parts (not (b == 10)) (is_one_line bytes) e in (not_true (b == 10) h.0, h.1)
  where
    not_true : (t : Bool) → not t ≡ true → t ≡ false
    not_true true f = absurd cc
    not_true false f = refl

pub only_escaped : (bytes text : List ℕ) → is_one_line bytes ≡ true → unescaped bytes ≡ Some text → bytes ≡ escaped text
only_escaped [] text l e = let is : [] ≡ text = cc in ap escaped is
only_escaped (b ∷ []) text l e = go (b == 92) refl e
  where
    go : (t : Bool) → b == 92 ≡ t → cond t None (Some (b ∷ [])) ≡ Some text → b ∷ [] ≡ escaped text
    go true f is = absurd cc
    go false f is = let whole : text ≡ b ∷ [] = cc in onto_other b [] text [] (no_line_feed b [] l).0 f whole refl
only_escaped (b ∷ c ∷ bytes) text l e =
    let h = no_line_feed b (c ∷ bytes) l in
    let k = no_line_feed c bytes h.1 in
    go (λ rest is. only_escaped bytes rest k.1 is) (λ rest is. only_escaped (c ∷ bytes) rest h.1 is) (b == 92) refl e
  where
    escape : (n d : ℕ) (rest : List ℕ) → b ≡ 92 → c ≡ n → text ≡ d ∷ rest → escape_byte d ≡ 92 ∷ n ∷ [] → bytes ≡ escaped rest → b ∷ c ∷ bytes ≡ escaped text
    escape n d rest back named whole written is =
        (λ i. back i ∷ named i ∷ is i) ∙ ap (λ l. l ++ escaped rest) (sym written) ∙ ap escaped (sym whole)

    behind_backslash : b ≡ 92 → ((rest : List ℕ) → unescaped bytes ≡ Some rest → bytes ≡ escaped rest) → (t s : Bool) → c == 110 ≡ t → c == 92 ≡ s
        → cond t (onto 10 (unescaped bytes)) (cond s (onto 92 (unescaped bytes)) None) ≡ Some text → b ∷ c ∷ bytes ≡ escaped text
    behind_backslash back more true s f g is = let x = begins 10 (unescaped bytes) text is in escape 110 10 x.rest back (eqb-true c 110 f) x.whole refl (more x.rest x.is)
    behind_backslash back more false true f g is = let x = begins 92 (unescaped bytes) text is in escape 92 92 x.rest back (eqb-true c 92 g) x.whole refl (more x.rest x.is)
    behind_backslash back more false false f g is = absurd cc

    go : ((rest : List ℕ) → unescaped bytes ≡ Some rest → bytes ≡ escaped rest) → ((rest : List ℕ) → unescaped (c ∷ bytes) ≡ Some rest → c ∷ bytes ≡ escaped rest) → (t : Bool) → b == 92 ≡ t
        → cond t (cond (c == 110) (onto 10 (unescaped bytes)) (cond (c == 92) (onto 92 (unescaped bytes)) None)) (onto b (unescaped (c ∷ bytes))) ≡ Some text → b ∷ c ∷ bytes ≡ escaped text
    go more next true f is = behind_backslash (eqb-true b 92 f) more (c == 110) (c == 92) refl refl is
    go more next false f is = let x = begins b (unescaped (c ∷ bytes)) text is in onto_other b (c ∷ bytes) text x.rest (no_line_feed b (c ∷ bytes) l).0 f x.whole (next x.rest x.is)
