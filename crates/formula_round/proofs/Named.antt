-- Words of functions, called names, names and truth values.
use Rattle.std.specs.Prelude.{◌≡◌, ℕ, ◌+◌, Bool, true, false, not, ◌&&◌, List, [], ◌∷◌, Option, Some, None}
use Rattle.std.specs.Char.{to_ascii_lowercase}
use Rattle.std.specs.List.{list_all}
use Rattle.std.proofs.Common.{refl, ap, subst, sym, arith}
use Rattle.std.proofs.lemmas.Bool.Decides.{nat_tests}
use Rattle.base_tables.specs.declared.Function.{Function}
use Rattle.base_tables.specs.declared.Function.TheVariants.{Sum}
use Rattle.base_tables.specs.declared.Language.{Language}
use Rattle.base_tables.specs.declared.Language.TheVariants.{En, De, Fr, Es}
use Rattle.base_tables.specs.Function.{function_name, function_of_name}
use Rattle.base_tables.specs.Language.{boolean_of_text, boolean_text}
use Rattle.base_tables.specs.Tables.{lowered}
use Rattle.base_tables.specs.Word.{reads_as_cell}
use Rattle.base_tables.specs.laws.Function.{function_of_name-function_name}
use Rattle.base_tables.specs.laws.Tables.{both_parts}
use Rattle.std.specs.Str.{chars}
use Rattle.base_decimal.proofs.Spans.{not_true}
use Rattle.formula_tree.specs.declared.Node.{Node}
use Rattle.formula_tree.specs.declared.Node.TheVariants as n
use Rattle.formula_grammar.specs.declared.Profile.{Profile}
use Rattle.formula_grammar.specs.declared.Token.{Token}
use Rattle.formula_grammar.specs.declared.Token.TheVariants as t
use Rattle.formula_grammar.specs.Grammar.{word}
use Rattle.formula_grammar.specs.Normal.{is_absent, is_text_word, is_plain_name, is_no_capital, is_called_name}
use Rattle.formula_grammar.specs.Words.{is_lambda, call_node, word_node}
use Rattle.formula_round.specs.Tokens.{in_parentheses}
use Rattle.formula_round.proofs.Expressions.{Expressed}
use Rattle.formula_round.proofs.Arrays.{boolean_of_text-boolean_text}
use Rattle.formula_round.proofs.Calls.{Listed, call_expressed}

absent : {A : Type 0} (o : Option A) → is_absent o ≡ true → o ≡ None
absent None e = refl
absent (Some a) e = absurd cc

-- ---- words alone

word_expressed : (p : Profile) (name : List ℕ) (value : Option Bool) → boolean_of_text p.language name ≡ value
    → Expressed p 0 (t.Word name ∷ []) (word_node value name) 1
word_expressed p name value is = record { by = word name; spells = refl; gives = ap (λ (o : Option Bool). word_node o name) is; open_few = omega arith }

pub boolean_expressed : (p : Profile) (value : Bool) → Expressed p 0 (t.Word (boolean_text p.language value) ∷ []) (n.Boolean value) 1
boolean_expressed p value = word_expressed p (boolean_text p.language value) (Some value) (boolean_of_text-boolean_text p.language value)

pub name_expressed : (p : Profile) (name : List ℕ) → is_plain_name p.language name ≡ true → Expressed p 0 (t.Word name ∷ []) (n.Name name) 1
name_expressed p name plain =
    let parts = both_parts (is_text_word name && not (reads_as_cell (chars name))) (is_absent (boolean_of_text p.language name)) plain in
    word_expressed p name None (absent (boolean_of_text p.language name) parts.1)

-- ---- calls

-- no function is called by the word that begins a lambda
no_lambda : (language : Language) (function : Function) → is_lambda (function_name language function) ≡ false
unfolding is_lambda
no_lambda En Sum = refl
no_lambda De Sum = refl
no_lambda Fr Sum = refl
no_lambda Es Sum = refl
no_lambda _ _ = refl

small_letter : (c : ℕ) → is_no_capital c ≡ true → to_ascii_lowercase c ≡ c
small_letter c is_no = grind (arith, nat_tests)

pub small_letters : (name : List ℕ) → list_all is_no_capital name ≡ true → lowered name ≡ name
small_letters [] all = refl
small_letters (c ∷ name) all =
    let parts = both_parts (is_no_capital c) (list_all is_no_capital name) all in
    λ i. small_letter c parts.0 i ∷ small_letters name parts.1 i

abbrev Called : Profile → List Token → ℕ → List ℕ → Node → Type 0
Called p tokens below name tree = Expressed p 0 (t.Word name ∷ in_parentheses tokens) tree (below + 1)

module _ {p : Profile} {tokens : List Token} {trees : List Node} {below : ℕ} where
  with_called : (name : List ℕ) (function : Option Function) → function_of_name p.language name ≡ function → is_lambda name ≡ false
      → Listed p tokens trees below
      → Called p tokens below name (call_node function name trees)
  with_called name function is is_no x = subst (λ (o : Option Function). Called p tokens below name (call_node o name trees)) is (call_expressed name is_no x)

  pub function_call_expressed : (function : Function) → Listed p tokens trees below
      → Called p tokens below (function_name p.language function) (n.Call function trees)
  function_call_expressed function x =
      with_called (function_name p.language function) (Some function) (function_of_name-function_name p.language function) (no_lambda p.language function) x

  pub named_call_expressed : (name : List ℕ) → is_called_name p.language name ≡ true → Listed p tokens trees below
      → Called p tokens below (lowered name) (n.NamedCall name trees)
  named_call_expressed name callable x =
      let parts =
      both_parts (is_text_word name && list_all is_no_capital name) (is_absent (function_of_name p.language name) && not (is_lambda name)) callable in
      let letters = both_parts (is_text_word name) (list_all is_no_capital name) parts.0 in
      let others = both_parts (is_absent (function_of_name p.language name)) (not (is_lambda name)) parts.1 in
      subst (λ (spelled : List ℕ). Called p tokens below spelled (n.NamedCall name trees)) (sym (small_letters name letters.1))
      (with_called name None (absent (function_of_name p.language name) others.0) (not_true (is_lambda name) others.1) x)
