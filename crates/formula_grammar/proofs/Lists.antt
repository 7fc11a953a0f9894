-- Arrays and parameters are read just where the grammar derives them.
use Rattle.std.proofs.Common.{◌≡◌, Bool, true, false, List, [], ◌∷◌, Some, None, refl, ap, rules, ℕ, zero, suc, ◌-◌, ◌<◌, ◌≤◌, ◌++◌, length, option_map, sym, ◌∙◌, append_assoc, append-nil, length-append, arith}
use Rattle.base_tables.specs.declared.Locale.{Locale}
use Rattle.formula_grammar.specs.declared.after_item.AfterItem.{AfterItem}
use Rattle.formula_grammar.specs.declared.token.Token.{Token}
use Rattle.formula_grammar.specs.Words.{separator_token, row_token, parameter_tokens, are_even, negated}
use Rattle.formula_grammar.specs.laws.Reading.{is_separator, separator, after_item, Outcome, with_rest, item, rows_next, rows_from, array, parameter, parameters_step, parameters_from, parameters}
use Rattle.formula_grammar.proofs.Steps.{Brings, nothing, brings, brings_if, brings_over, brings_bind, brings_map, brings_by}
use Rattle.formula_tree.specs.declared.array_item.ArrayItem.{ArrayItem}
use Rattle.formula_tree.specs.declared.node.Node.{Node}
use Rattle.formula_tree.specs.declared.parameter.Parameter.{Parameter}
use Rattle.formula_grammar.specs.declared.profile.Profile.{Profile}
use Rattle.formula_grammar.specs.Grammar.{Item, Rows, item_tokens, item_value, rows_tokens, before_line, rows_lines, parameters_tokens}
use Rattle.formula_grammar.proofs.Edges.{separates}
use Rattle.formula_grammar.proofs.Loops.{deeper}
use Rattle.base_tables.specs.Language.{boolean_of_text}
use Rattle.base_tables.specs.declared.Locale.TheVariants as locale
use Rattle.formula_grammar.specs.declared.after_item.AfterItem.TheVariants as after
use Rattle.formula_grammar.specs.declared.token.Token.TheVariants as t
use Rattle.formula_tree.specs.declared.array_item.ArrayItem.TheVariants as entry
use Rattle.formula_tree.specs.declared.node.Node.TheVariants as n
use Rattle.formula_grammar.specs.Grammar as G

abbrev pub separator_of : Locale → Bool → Token
separator_of locale true = separator_token locale
separator_of locale false = t.CloseParenthesis

pub token_parts : (locale : Locale) (x : Token) → is_separator locale x ≡ true → x ≡ separator_token locale
token_parts locale x e = grind arith

pub separator_sound : (locale : Locale) (ts : List Token) → Brings (λ rest b. ts ≡ separator_of locale b ∷ rest) (separator locale ts)
separator_sound locale [] = nothing
separator_sound locale (t.CloseParenthesis ∷ ts) = brings refl
separator_sound locale (x ∷ ts) =
    brings_if (is_separator locale x) (Some (true, ts)) None (λ h. brings (ap (λ (y : Token). y ∷ ts) (token_parts locale x h))) (λ h. nothing)

abbrev pub after_token : Locale → AfterItem → Token
after_token locale after.Column = separator_token locale
after_token locale after.Row = row_token locale
after_token locale after.End = t.CloseBrace

pub after_item_sound : (locale : Locale) (ts : List Token) → Brings (λ rest a. ts ≡ after_token locale a ∷ rest) (after_item locale ts)
after_item_sound locale.En (t.Comma ∷ ts) = record { read = search rules }
after_item_sound locale.En (t.Semicolon ∷ ts) = record { read = search rules }
after_item_sound locale.En (t.Divide ∷ ts) = record { read = search rules }
after_item_sound _ (t.CloseBrace ∷ ts) = record { read = refl }
after_item_sound _ _ = record { read = search rules }

item_reads : {p : Profile} (x : Item p) (ts : List Token) → item p.language (item_tokens x ++ ts) ≡ Some (item_value x, ts)
item_reads (G.negative number value is) ts = ap (λ o. with_rest ts (option_map entry.Number o)) is
item_reads (G.boolean word value is) ts = ap (λ o. with_rest ts (option_map entry.Boolean o)) is
item_reads _ ts = refl

-- lines that begin with the items of this line
abbrev pub continued : List ArrayItem → List (List ArrayItem) → List (List ArrayItem)
continued line [] = line ∷ []
continued line (first ∷ lines) = (line ++ first) ∷ lines

pub continued_before : (line : List ArrayItem) (x : ArrayItem) (lines : List (List ArrayItem)) → continued (line ++ x ∷ []) lines ≡ continued line (before_line x lines)
continued_before line x lines = grind (arith, append_assoc)

continued_one : (x : ArrayItem) (lines : List (List ArrayItem)) → continued [] (before_line x lines) ≡ before_line x lines
continued_one x lines = grind arith

-- there is a first line
pub continued_none : {p : Profile} (rows : Rows p) → continued [] (rows_lines rows) ≡ rows_lines rows
continued_none (G.last x) = refl
continued_none (G.beside x rows) = continued_one (item_value x) (rows_lines rows)
continued_none (G.above x rows) = refl

item_long : {p : Profile} (x : Item p) → 1 ≤ length (item_tokens x)
item_long x = grind arith

-- an item and what goes on after it
item_turn : {p : Profile} (x : Item p) (k : ℕ) (lines : List (List ArrayItem)) (line : List ArrayItem) (ts rest : List Token) (next : AfterItem) → 0 < k → after_item p.locale ts ≡ Some (next, rest)
    → rows_from p k lines line (item_tokens x ++ ts) ≡ rows_next (rows_from p (k - 1)) lines (line ++ item_value x ∷ []) next rest
unfolding rows_from
item_turn {p} x k lines line ts rest next h e = deeper (λ j. rows_from p j lines line (item_tokens x ++ ts)) k h ∙ rw (item_reads x ts, e)

rows_complete : {p : Profile} (rows : Rows p) (k : ℕ) (lines : List (List ArrayItem)) (line : List ArrayItem) (r : List Token) → length (rows_tokens rows) ≤ k
    → rows_from p k lines line (rows_tokens rows ++ t.CloseBrace ∷ r) ≡ Some (lines ++ continued line (rows_lines rows), r)
rows_complete (G.last x) k lines line r enough = item_turn x k lines line (t.CloseBrace ∷ r) r after.End (omega (arith, item_long x)) refl
rows_complete {p} (G.beside x rows) k lines line r enough =
    let long = length-append (item_tokens x) (separator_token p.locale ∷ rows_tokens rows) in
    ap (rows_from p k lines line) (append_assoc (item_tokens x) (separator_token p.locale ∷ rows_tokens rows) (t.CloseBrace ∷ r))
    ∙ item_turn x k lines line _ (rows_tokens rows ++ t.CloseBrace ∷ r) after.Column (omega (arith, long)) ((separates p.locale).column _)
    ∙ rows_complete rows (k - 1) lines (line ++ item_value x ∷ []) r (omega (arith, long, item_long x))
    ∙ rw (continued_before line (item_value x) (rows_lines rows))
rows_complete {p} (G.above x rows) k lines line r enough =
    let long = length-append (item_tokens x) (row_token p.locale ∷ rows_tokens rows) in
    ap (rows_from p k lines line) (append_assoc (item_tokens x) (row_token p.locale ∷ rows_tokens rows) (t.CloseBrace ∷ r))
    ∙ item_turn x k lines line _ (rows_tokens rows ++ t.CloseBrace ∷ r) after.Row (omega (arith, long)) ((separates p.locale).row _)
    ∙ rows_complete rows (k - 1) (lines ++ (line ++ item_value x ∷ []) ∷ []) [] r (omega (arith, long, item_long x))
    ∙ rw (continued_none rows, append_assoc lines ((line ++ item_value x ∷ []) ∷ []) (rows_lines rows))

pub array_complete : {p : Profile} (rows : Rows p) (r : List Token) → are_even (rows_lines rows) ≡ true → array p ((rows_tokens rows ++ t.CloseBrace ∷ []) ++ r) ≡ Some (n.Array (rows_lines rows), r)
unfolding array
array_complete {p} rows r even =
    let long = length-append (rows_tokens rows) (t.CloseBrace ∷ r) in
    rw (append_assoc (rows_tokens rows) (t.CloseBrace ∷ []) r, rows_complete rows (length (rows_tokens rows ++ t.CloseBrace ∷ r)) [] [] r (omega (arith, long)), continued_none rows, even)

-- ---- parameters

parameter_reads : (locale : Locale) (name : List ℕ) (optional : Bool) (ts : List Token)
    → parameter locale (parameter_tokens (record { name = name; optional = optional }) ++ separator_token locale ∷ ts) ≡ Some (record { name = name; optional = optional }, ts)
parameter_reads locale name true ts = rw (separates locale).parts
parameter_reads locale name false ts = rw (separates locale).parts

parameters_end : (locale : Locale) (k : ℕ) (found : List Parameter) (ts : List Token) → parameter locale ts ≡ None → parameters_from locale k found ts ≡ Some (found, ts)
unfolding parameters_from
parameters_end locale zero found ts e = refl
parameters_end locale (suc k) found ts e = ap (parameters_step (parameters_from locale k) found ts) e

parameters_follow : (p : Profile) (xs : List Parameter) (k : ℕ) (found : List Parameter) (ts : List Token) → length (parameters_tokens p xs) ≤ k → parameter p.locale ts ≡ None
    → parameters_from p.locale k found (parameters_tokens p xs ++ ts) ≡ Some (found ++ xs, ts)
unfolding parameters_from
parameters_follow p [] k found ts enough e = parameters_end p.locale k found ts e ∙ ap (λ l. Some (l, ts)) (sym (append-nil found))
parameters_follow p (x ∷ xs) k found ts enough e =
    let long = length-append (parameter_tokens x) (separator_token p.locale ∷ parameters_tokens p xs) in
    ap (parameters_from p.locale k found) (append_assoc (parameter_tokens x) (separator_token p.locale ∷ parameters_tokens p xs) ts)
    ∙ deeper (λ j. parameters_from p.locale j found (parameter_tokens x ++ separator_token p.locale ∷ (parameters_tokens p xs ++ ts))) k (omega (arith, long))
    ∙ ap (parameters_step (parameters_from p.locale (k - 1)) found _) (parameter_reads p.locale x.name x.optional (parameters_tokens p xs ++ ts))
    ∙ parameters_follow p xs (k - 1) (found ++ x ∷ []) ts (omega (arith, long)) e
    ∙ rw (append_assoc found (x ∷ []) xs)

pub parameters_complete : (p : Profile) (xs : List Parameter) (ts : List Token) → parameter p.locale ts ≡ None → parameters p.locale (parameters_tokens p xs ++ ts) ≡ Some (xs, ts)
unfolding parameters
parameters_complete p xs ts e = parameters_follow p xs (length (parameters_tokens p xs ++ ts)) [] ts (omega (arith, length-append (parameters_tokens p xs) ts)) e

record IsItem (p : Profile) (ts rest : List Token) (x : ArrayItem) : Type 0 where
  by : Item p
  parts : ts ≡ item_tokens by ++ rest
  gives : item_value by ≡ x

item_sound : (p : Profile) (ts : List Token) → Brings (IsItem p ts) (item p.language ts)
item_sound p (t.Minus ∷ t.Number number ∷ ts) =
    brings_map entry.Number ts (negated number) (λ value is. record { by = G.negative number value is; parts = refl; gives = refl })
item_sound p (t.Number number ∷ ts) = brings (record { by = G.plain number; parts = refl; gives = refl })
item_sound p (t.Text text ∷ ts) = brings (record { by = G.quoted text; parts = refl; gives = refl })
item_sound p (t.Word word ∷ ts) =
    brings_map entry.Boolean ts (boolean_of_text p.language word) (λ value is. record { by = G.boolean word value is; parts = refl; gives = refl })
item_sound p (t.Error error ∷ ts) = brings (record { by = G.failed error; parts = refl; gives = refl })
item_sound p _ = nothing

-- lines after those read, the first of which begins with the items read
record IsRows (p : Profile) (lines : List (List ArrayItem)) (line : List ArrayItem) (ts rest : List Token) (all : List (List ArrayItem)) : Type 0 where
  by : Rows p
  parts : ts ≡ rows_tokens by ++ t.CloseBrace ∷ rest
  gives : lines ++ continued line (rows_lines by) ≡ all

rows_sound : (p : Profile) (k : ℕ) (lines : List (List ArrayItem)) (line : List ArrayItem) (ts : List Token) → Brings (IsRows p lines line ts) (rows_from p k lines line ts)
unfolding rows_from
rows_sound p zero lines line ts = nothing
rows_sound p (suc k) lines line ts =
    brings_bind _ _ (item_sound p ts) (λ mid x i. brings_bind _ _ (after_item_sound p.locale mid) (λ last a e. go (rows_sound p k) mid last x i a e))
  where
    go : ((lines : List (List ArrayItem)) (line : List ArrayItem) (ts : List Token) → Brings (IsRows p lines line ts) (rows_from p k lines line ts))
        → (mid last : List Token) (x : ArrayItem) (i : IsItem p ts mid x) (a : AfterItem) → mid ≡ after_token p.locale a ∷ last
        → Brings (IsRows p lines line ts) (rows_next (rows_from p k) lines (line ++ x ∷ []) a last)
    go again mid last x i after.End e = brings (record { by = G.last i.by; parts = rw (i.parts, e); gives = rw i.gives })
    go again mid last x i after.Column e = brings_over _ (again lines (line ++ x ∷ []) last) (λ rest all g. record {
      by = G.beside i.by g.by;
      parts = rw (i.parts, e, g.parts, append_assoc (item_tokens i.by) (separator_token p.locale ∷ rows_tokens g.by) (t.CloseBrace ∷ rest));
      gives = rw (i.gives, ← continued_before line x (rows_lines g.by)) g.gives;
    })
    go again mid last x i after.Row e = brings_over _ (again (lines ++ (line ++ x ∷ []) ∷ []) [] last) (λ rest all g. record {
      by = G.above i.by g.by;
      parts = rw (i.parts, e, g.parts, append_assoc (item_tokens i.by) (row_token p.locale ∷ rows_tokens g.by) (t.CloseBrace ∷ rest));
      gives = rw (i.gives, ← append_assoc lines ((line ++ x ∷ []) ∷ []) (rows_lines g.by)) (rw (continued_none g.by) at g.gives);
    })

pub record IsArray (p : Profile) (ts rest : List Token) (out : Node) : Type 0 where
  pub by : Rows p
  pub parts : ts ≡ rows_tokens by ++ t.CloseBrace ∷ rest
  pub gives : n.Array (rows_lines by) ≡ out
  pub even : are_even (rows_lines by) ≡ true

pub array_sound : (p : Profile) (ts : List Token) → Brings (IsArray p ts) (array p ts)
unfolding array
array_sound p ts = brings_bind _ _ (rows_sound p (length ts) [] [] ts) (λ rest lines i. brings_by (are_even lines) _ _ rest
    (λ even. (let same : rows_lines i.by ≡ lines = sym (continued_none i.by) ∙ i.gives in
    brings (record { by = i.by; parts = i.parts; gives = ap n.Array same; even = ap are_even same ∙ even })))
    (λ h. nothing))

-- ---- parameters

parameter_sound : (locale : Locale) (ts : List Token) → Brings (λ rest x. ts ≡ parameter_tokens x ++ separator_token locale ∷ rest) (parameter locale ts)
parameter_sound locale (t.Word word ∷ y ∷ ts) =
    brings_if (is_separator locale y) _ _ (λ h. brings (ap (λ (z : Token). t.Word word ∷ z ∷ ts) (token_parts locale y h))) (λ h. nothing)
parameter_sound locale (t.OpenBracket ∷ t.Word word ∷ t.CloseBracket ∷ y ∷ ts) =
    brings_if (is_separator locale y) _ _
    (λ h. brings (ap (λ (z : Token). t.OpenBracket ∷ t.Word word ∷ t.CloseBracket ∷ z ∷ ts) (token_parts locale y h))) (λ h. nothing)
parameter_sound locale _ = nothing

record Follow (p : Profile) (before : List Parameter) (ts rest : List Token) (all : List Parameter) : Type 0 where
  xs : List Parameter
  parts : ts ≡ parameters_tokens p xs ++ rest
  gives : before ++ xs ≡ all

parameters_read : (p : Profile) (k : ℕ) (before : List Parameter) (ts : List Token) → Brings (Follow p before ts) (parameters_from p.locale k before ts)
unfolding parameters_from
parameters_read p zero before ts = brings (record { xs = []; parts = refl; gives = append-nil before })
parameters_read p (suc k) before ts = go (parameters_read p k) (parameter p.locale ts) (parameter_sound p.locale ts)
  where
    go : ((before : List Parameter) (ts : List Token) → Brings (Follow p before ts) (parameters_from p.locale k before ts))
        → (o : Outcome Parameter) → Brings (λ rest x. ts ≡ parameter_tokens x ++ separator_token p.locale ∷ rest) o
        → Brings (Follow p before ts) (parameters_step (parameters_from p.locale k) before ts o)
    go again None e = brings (record { xs = []; parts = refl; gives = append-nil before })
    go again (Some (x, mid)) e = brings_over _ (again (before ++ x ∷ []) mid) (λ rest all g. record {
      xs = x ∷ g.xs;
      parts = rw (e.read, g.parts, append_assoc (parameter_tokens x) (separator_token p.locale ∷ parameters_tokens p g.xs) rest);
      gives = rw (← append_assoc before (x ∷ []) g.xs) g.gives;
    })

pub parameters_sound : (p : Profile) (ts : List Token) → Brings (λ rest all. ts ≡ parameters_tokens p all ++ rest) (parameters p.locale ts)
unfolding parameters
parameters_sound p ts = brings_over _ (parameters_read p (length ts) [] ts) (λ rest all g. rw (← g.gives) g.parts)
