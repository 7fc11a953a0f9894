-- What the grammar derives is read as that tree, whatever comes after it that does not go on with it.
use Rattle.std.proofs.Common.{◌≡◌, ℕ, zero, suc, ◌+◌, ◌-◌, ◌<◌, ◌≤◌, true, false, List, [], ◌∷◌, ◌++◌, length, map, Option, Some, None, option_and_then, Ok, refl, sym, ap, ◌∙◌, append_assoc, length-append, arith}
use Rattle.std.specs.Prelude.{◌==◌}
use Rattle.std.proofs.lemmas.Bool.{ne_eqb}
use Rattle.std.proofs.lemmas.Bool.Decides.{nat_tests}
use Rattle.formula_tree.specs.declared.node.Node.{Node}
use Rattle.formula_tree.specs.declared.node.Node.TheVariants as n
use Rattle.formula_tree.specs.Depth.{depth_of, greatest}
use Rattle.formula_tree.specs.laws.DepthEquations.{depth_lambda, depth_lambda_call}
use Rattle.formula_tree.specs.laws.DepthLaws.{depth_positive}
use Rattle.formula_tree.specs.declared.infix.Infix.{Infix}
use Rattle.formula_tree.specs.declared.postfix.Postfix.{Postfix}
use Rattle.formula_tree.specs.declared.prefix.Prefix.{Prefix}
use Rattle.formula_tree.specs.Levels.{infix_node, prefix_node, postfix_node}
use Rattle.formula_grammar.specs.declared.operator.Operator.{Operator}
use Rattle.formula_grammar.specs.declared.operator.Operator.TheVariants as operator
use Rattle.formula_grammar.specs.declared.profile.Profile.{Profile}
use Rattle.formula_grammar.specs.declared.token.Token.{Token}
use Rattle.formula_grammar.specs.declared.token.Token.TheVariants as t
use Rattle.formula_grammar.specs.Operators.{infix_under, prefix_under, postfix_under, infix_token, prefix_token, postfix_token}
use Rattle.formula_grammar.specs.Words.{separator_token, called, mark_place}
use Rattle.formula_grammar.specs.Grammar as G
use Rattle.formula_grammar.specs.Grammar.{Expression, Lambda, Arguments, Argument, parameters_tokens, expression_tokens, lambda_tokens, arguments_tokens, argument_tokens, passed, expression_tree, lambda_tree, arguments_trees, argument_tree, expression_open, lambda_open, arguments_open, argument_open}
use Rattle.formula_grammar.specs.laws.Reading.{Outcome, and_then, with_rest, make, operator_of, operator_under, own, operator_at, sign_at, make_signed, signed_step, signed, opening, closing, is_empty_here, chain_from, reference_at, range_at, enclosed, argument, arguments_from, arguments_by, arguments, function, lambda_turn, lambda, call, primary, turn, expression, whole}
use Rattle.formula_grammar.proofs.Depths.{depth_called, depth_infix, depth_postfix, depth_prefix, shallow_tree-shallow, expression_turns, lambda_turns, expression_turns-lt, lambda_turns-lt}
use Rattle.formula_grammar.proofs.Steps.{chain_starts, chain_turns, chain_closes, chain_never}
use Rattle.formula_grammar.proofs.Edges.{EndsAt, ends_sooner, ends_operator, ends_lambda, ends_word, ends_at_separator, operator_reads, operator_ends, separates, unsigned, starts_given, starts_no_close, begins}
use Rattle.formula_grammar.proofs.Lists.{array_complete, parameters_complete}
use Rattle.formula_grammar.proofs.Loops.{deeper, whole_steps}

-- the limits leave room for what opens so many parentheses, and is so deep
pub record Fits (nesting room opened depth : ℕ) : Type 0 where
  pub within : opened ≤ room
  pub nested : opened + depth ≤ nesting
  pub shallow : depth ≤ 64

argument_no_close : {p : Profile} (a : Argument p) (r : List Token) → closing (argument_tokens a ++ separator_token p.locale ∷ r) ≡ None
argument_no_close {p} G.empty r = (separates p.locale).no_end r
argument_no_close {p} (G.given a) r = starts_no_close (expression_tokens a ++ separator_token p.locale ∷ r) (begins a (separator_token p.locale ∷ r)).starts

-- ---- expressions

-- what has no operator outermost is read whole, and an expression of a level as far as the chain of that level has come
abbrev pub Reads : {p : Profile} (level : ℕ) → Expression p level → Type 0
Reads {p} zero d = (nesting room : ℕ) (r : List Token) → Fits (suc nesting) room (expression_open d) (depth_of (expression_tree d)) → EndsAt 0 r
    → primary p (whole p nesting) room (expression_tokens d ++ r) ≡ Some (expression_tree d, r)
Reads {p} (suc under) d = (nesting room k : ℕ) (r : List Token) → Fits (suc nesting) room (expression_open d) (depth_of (expression_tree d)) → EndsAt under r → k + expression_turns d ≡ 64
    → expression p (whole p nesting) room (suc under) (expression_tokens d ++ r) ≡ chain_from (operator_at under) (turn (expression p (whole p nesting) room under)) k (expression_tree d) r

-- where no operator of its level follows, it is read whole
pub completes : {p : Profile} (level : ℕ) (d : Expression p level) → Reads level d → (nesting room : ℕ) (r : List Token) → Fits (suc nesting) room (expression_open d) (depth_of (expression_tree d)) → EndsAt level r
    → expression p (whole p nesting) room level (expression_tokens d ++ r) ≡ Some (expression_tree d, r)
unfolding expression
completes zero d reads nesting room r fits ends = reads nesting room r fits ends
completes {p} (suc under) d reads nesting room r fits ends =
    chain_closes (operator_at under) (turn (expression p (whole p nesting) room under)) _ (expression_turns d) (expression_tree d) r (expression_turns-lt d) fits.shallow (ends_operator under r ends)
    (λ k is. reads nesting room k r fits (ends_sooner under (suc under) r (omega arith) ends) is)

whole_completes : {p : Profile} (d : Expression p 10) → Reads 10 d → (nesting room : ℕ) (r : List Token) → Fits nesting room (expression_open d) (depth_of (expression_tree d)) → EndsAt 10 r
    → whole p nesting room (expression_tokens d ++ r) ≡ Some (expression_tree d, r)
whole_completes {p} d reads nesting room r fits ends =
    whole_steps p nesting room (expression_tokens d ++ r) (omega (arith, fits.nested, depth_positive (expression_tree d)))
    ∙ completes 10 d reads (nesting - 1) room r (omega arith) ends

given_completes : {p : Profile} (d : Expression p 10) → Reads 10 d → (nesting room : ℕ) (r : List Token) → Fits nesting room (expression_open d) (depth_of (expression_tree d)) → is_empty_here p.locale r ≡ true
    → argument p (whole p nesting) room (expression_tokens d ++ r) ≡ Some (expression_tree d, r)
unfolding argument
given_completes {p} d reads nesting room r fits ends =
    rw (starts_given p.locale (expression_tokens d ++ r) (begins d r).starts) (whole_completes d reads nesting room r fits (ends_at_separator p.locale r ends))

-- an operand of the level below
lift_reads : {p : Profile} (under : ℕ) (a : Expression p under) → Reads under a → Reads (suc under) (G.lift a)
unfolding expression
lift_reads {p} under a reads = λ nesting room k r fits ends is.
    chain_starts (operator_at under) (turn (expression p (whole p nesting) room under)) (signed under (expression p (whole p nesting) room under) (expression_tokens a ++ r)) (expression_tree a) r k
    (unsigned under (expression p (whole p nesting) room under) (expression_tokens a ++ r) (begins a r).starts ∙ completes under a reads nesting room r fits ends) (omega (arith, is))

joined_reads : {p : Profile} (op : Infix) (a : Expression p (suc (infix_under op))) (b : Expression p (infix_under op)) → Reads (suc (infix_under op)) a → Reads (infix_under op) b
    → Reads (suc (infix_under op)) (G.joined op a b)
joined_reads {p} op a b reads_a reads_b = λ nesting room k r fits ends is.
    let under = infix_under op in
    let operand = expression p (whole p nesting) room under in
    let deep = depth_infix op (expression_tree a) (expression_tree b) in
    ap (expression p (whole p nesting) room (suc under)) (append_assoc (expression_tokens a) (infix_token op ∷ expression_tokens b) r)
    ∙ reads_a nesting room (suc k) (infix_token op ∷ expression_tokens b ++ r) (omega (arith, deep)) (operator_ends (operator.Infix op) (expression_tokens b ++ r)) (omega arith)
    ∙ chain_turns (operator_at under) (turn operand) k (operator.Infix op) (expression_tree a) _ _ _ r (operator_reads (operator.Infix op) (expression_tokens b ++ r))
    (rw (completes under b reads_b nesting room r (omega (arith, deep)) ends, shallow_tree-shallow (infix_node op (expression_tree a) (expression_tree b)) fits.shallow))

followed_reads : {p : Profile} (op : Postfix) (a : Expression p (suc (postfix_under op))) → Reads (suc (postfix_under op)) a → Reads (suc (postfix_under op)) (G.followed op a)
followed_reads {p} op a reads_a = λ nesting room k r fits ends is.
    let under = postfix_under op in
    ap (expression p (whole p nesting) room (suc under)) (append_assoc (expression_tokens a) (postfix_token op ∷ []) r)
    ∙ reads_a nesting room (suc k) (postfix_token op ∷ r) (omega (arith, depth_postfix op (expression_tree a))) (operator_ends (operator.Postfix op) r) (omega arith)
    ∙ chain_turns (operator_at under) (turn (expression p (whole p nesting) room under)) k (operator.Postfix op) (expression_tree a) _ _ r r
    (operator_reads (operator.Postfix op) r) (rw (shallow_tree-shallow (postfix_node op (expression_tree a)) fits.shallow))

-- no operator has the level of a sign
levels_apart : (op : Prefix) (x : Operator) → (operator_under x == prefix_under op) ≡ false
levels_apart op x = grind (arith, nat_tests)

no_operator : (op : Prefix) (o : Option Operator) (ts : List Token) → with_rest ts (option_and_then (own operator_under (prefix_under op)) o) ≡ None
no_operator op o ts = grind (arith, levels_apart)

never_there : (op : Prefix) (ts : List Token) → operator_at (prefix_under op) ts ≡ None
never_there op [] = refl
never_there op (x ∷ ts) = no_operator op (operator_of x) ts

sign_here : (op : Prefix) → sign_at (prefix_under op) (prefix_token op) ≡ Some op
sign_here op = grind (arith, nat_tests)

sign_makes : (op : Prefix) (tree : Node) (rest : List Token) → depth_of (prefix_node op tree) ≤ 64 → make_signed op tree rest ≡ Some (prefix_node op tree, rest)
sign_makes op tree rest h = grind (arith, shallow_tree-shallow)

signed_reads : {p : Profile} (op : Prefix) (a : Expression p (suc (prefix_under op))) → Reads (suc (prefix_under op)) a → Reads (suc (prefix_under op)) (G.signed op a)
unfolding expression signed
signed_reads {p} op a reads_a = λ nesting room k r fits ends is.
    let under = prefix_under op in
    let operand = expression p (whole p nesting) room under in
    let ts = expression_tokens a ++ r in
    let fits_a : Fits (suc nesting) room (expression_open a) (depth_of (expression_tree a)) = omega (arith, depth_prefix op (expression_tree a)) in
    let inner : expression p (whole p nesting) room (suc under) ts ≡ Some (expression_tree a, r) =
    chain_closes (operator_at under) (turn operand) _ (expression_turns a) (expression_tree a) r (expression_turns-lt a) fits_a.shallow (never_there op r) (λ j so. reads_a nesting room j r fits_a ends so) in
    let one : signed under operand ts ≡ Some (expression_tree a, r) = sym (chain_never (operator_at under) (turn operand) (never_there op) (signed under operand ts)) ∙ inner in
    chain_starts (operator_at under) (turn operand) (signed under operand (prefix_token op ∷ ts)) (prefix_node op (expression_tree a)) r k
    (ap (signed_step under operand (operand (prefix_token op ∷ ts)) (signed under operand ts)) (sign_here op)
    ∙ ap (λ (o : Outcome Node). and_then o (make_signed op)) one ∙ sign_makes op (expression_tree a) r fits.shallow) (omega (arith, is))

-- ---- arguments

-- read from the first of them, after those found
abbrev ReadsFrom : {p : Profile} → Arguments p → Type 0
ReadsFrom {p} d = (nesting room k : ℕ) (found : List Node) (r : List Token) → Fits nesting room (arguments_open d) (greatest (map depth_of (arguments_trees d))) → length (arguments_tokens d) < k
    → arguments_from p (whole p nesting) room k found (arguments_tokens d ++ t.CloseParenthesis ∷ r) ≡ Some (found ++ arguments_trees d, r)

some_read : {p : Profile} (d : Arguments p) → ReadsFrom d → (nesting room : ℕ) (r : List Token) → Fits nesting room (arguments_open d) (greatest (map depth_of (arguments_trees d)))
    → closing (arguments_tokens d ++ t.CloseParenthesis ∷ r) ≡ None → arguments p (whole p nesting) room (arguments_tokens d ++ t.CloseParenthesis ∷ r) ≡ Some (arguments_trees d, r)
unfolding arguments
some_read {p} d reads nesting room r fits starts =
    let ts = arguments_tokens d ++ t.CloseParenthesis ∷ r in
    ap (arguments_by p (whole p nesting) room ts) starts
    ∙ reads nesting room (length ts) [] r fits (omega (arith, length-append (arguments_tokens d) (t.CloseParenthesis ∷ r)))

-- a lone one that is empty is none
passed_read : {p : Profile} (d : Arguments p) → ReadsFrom d → (nesting room : ℕ) (r : List Token) → Fits nesting room (arguments_open d) (greatest (map depth_of (passed d (arguments_trees d))))
    → arguments p (whole p nesting) room ((arguments_tokens d ++ t.CloseParenthesis ∷ []) ++ r) ≡ Some (passed d (arguments_trees d), r)
unfolding arguments
passed_read {p} d reads nesting room r fits = ap (arguments p (whole p nesting) room) (append_assoc (arguments_tokens d) (t.CloseParenthesis ∷ []) r) ∙ go d reads fits
  where
    go : (d : Arguments p) → ReadsFrom d → Fits nesting room (arguments_open d) (greatest (map depth_of (passed d (arguments_trees d))))
        → arguments p (whole p nesting) room (arguments_tokens d ++ t.CloseParenthesis ∷ r) ≡ Some (passed d (arguments_trees d), r)
    go (G.last G.empty) reads fits = refl
    go (G.last (G.given a)) reads fits =
        some_read (G.last (G.given a)) reads nesting room r fits (starts_no_close (expression_tokens a ++ t.CloseParenthesis ∷ r) (begins a (t.CloseParenthesis ∷ r)).starts)
    go (G.more a all) reads fits =
        some_read (G.more a all) reads nesting room r fits
        (ap closing (append_assoc (argument_tokens a) (separator_token p.locale ∷ arguments_tokens all) (t.CloseParenthesis ∷ r)) ∙ argument_no_close a (arguments_tokens all ++ t.CloseParenthesis ∷ r))

-- ---- derivations

mutual
  unfolding primary enclosed call lambda function argument arguments_from

  pub expression_reads : {p : Profile} {level : ℕ} (d : Expression p level) → Reads level d
  expression_reads (G.lift {level = under} a) = lift_reads under a (expression_reads a)
  expression_reads (G.joined op a b) = joined_reads op a b (expression_reads a) (expression_reads b)
  expression_reads (G.followed op a) = followed_reads op a (expression_reads a)
  expression_reads (G.signed op a) = signed_reads op a (expression_reads a)
  expression_reads {p} (G.reference sheet mark at is) = λ nesting room r fits ends. ap (λ o. with_rest r (reference_at p.place sheet mark o)) is
  expression_reads {p} (G.range sheet first second start stop is also) = λ nesting room r fits ends.
      ap (λ o. with_rest r (range_at p.place sheet first second o (mark_place second))) is ∙ ap (λ o. with_rest r (range_at p.place sheet first second (Ok start) o)) also
  expression_reads {p} (G.word name) = λ nesting room r fits ends. ends_word p (whole p nesting) room name r ends
  expression_reads {p} (G.array rows is) = λ nesting room r fits ends. array_complete rows r is
  expression_reads (G.parentheses a) = λ nesting room r fits ends.
      (let some = ne_eqb room 0 (λ none. omega (arith, fits.within)) in
      let read = whole_completes a (expression_reads a) nesting (room - 1) (t.CloseParenthesis ∷ r) (omega arith) (omega arith) in
      rw (append_assoc (expression_tokens a) (t.CloseParenthesis ∷ []) r, some, read))
  expression_reads {p} (G.lambda a) = λ nesting room r fits ends.
      chain_closes opening (lambda_turn p (whole p nesting) room) _ (lambda_turns a) (lambda_tree a) r (lambda_turns-lt a) fits.shallow (ends_lambda r ends)
      (λ j is. lambda_before a nesting room j r fits is)
  expression_reads {p} (G.call name is all) = λ nesting room r fits ends.
      (let tree = called p.language name (passed all (arguments_trees all)) in
      rw (is, passed_read all (arguments_read all) nesting room r (omega (arith, depth_called p.language name (passed all (arguments_trees all)))), shallow_tree-shallow tree fits.shallow))
  expression_reads _ = λ nesting room r fits ends. refl

  lambda_before : {p : Profile} (d : Lambda p) (nesting room k : ℕ) (r : List Token) → Fits (suc nesting) room (lambda_open d) (depth_of (lambda_tree d)) → k + lambda_turns d ≡ 64
      → primary p (whole p nesting) room (lambda_tokens d ++ r) ≡ chain_from opening (lambda_turn p (whole p nesting) room) k (lambda_tree d) r
  lambda_before {p} (G.function name is all body) nesting room k r fits e =
      let fits_body : Fits nesting room (expression_open body) (depth_of (expression_tree body)) = omega (arith, depth_lambda all (expression_tree body)) in
      let end : List Token = t.CloseParenthesis ∷ r in
      let same : 64 ≡ k = omega (arith, e) in
      rw (
        is,
        append_assoc (parameters_tokens p all) (expression_tokens body ++ t.CloseParenthesis ∷ []) r,
        append_assoc (expression_tokens body) (t.CloseParenthesis ∷ []) r,
        parameters_complete p all (expression_tokens body ++ end) ((begins body end).no_parameter refl),
        whole_completes body (expression_reads body) nesting room end fits_body (omega arith),
        shallow_tree-shallow (n.Lambda all (expression_tree body)) fits.shallow,
      ) (ap (λ (j : ℕ). chain_from opening (lambda_turn p (whole p nesting) room) j (n.Lambda all (expression_tree body)) r) same)
  lambda_before {p} (G.applied a all) nesting room k r fits e =
      let given = passed all (arguments_trees all) in
      let deep = depth_lambda_call (lambda_tree a) given in
      let fits_a : Fits (suc nesting) room (lambda_open a) (depth_of (lambda_tree a)) = omega (arith, deep) in
      let fits_all : Fits nesting room (arguments_open all) (greatest (map depth_of given)) = omega (arith, deep) in
      let rest : List Token = (arguments_tokens all ++ t.CloseParenthesis ∷ []) ++ r in
      ap (primary p (whole p nesting) room) (append_assoc (lambda_tokens a) (t.OpenParenthesis ∷ arguments_tokens all ++ t.CloseParenthesis ∷ []) r)
      ∙ lambda_before a nesting room (suc k) (t.OpenParenthesis ∷ rest) fits_a (omega (arith, e))
      ∙ chain_turns opening (lambda_turn p (whole p nesting) room) k tt (lambda_tree a) (n.LambdaCall (lambda_tree a) given) (t.OpenParenthesis ∷ rest) rest r refl
      (ap (λ (o : Outcome (List Node)). and_then o (λ xs. make (n.LambdaCall (lambda_tree a) xs))) (passed_read all (arguments_read all) nesting room r fits_all)
      ∙ ap (with_rest r) (shallow_tree-shallow (n.LambdaCall (lambda_tree a) given) fits.shallow))

  arguments_read : {p : Profile} (d : Arguments p) → ReadsFrom d
  arguments_read {p} (G.last a) nesting room k found r fits enough =
      deeper (λ j. arguments_from p (whole p nesting) room j found (argument_tokens a ++ t.CloseParenthesis ∷ r)) k (omega arith)
      ∙ rw (argument_complete a nesting room (t.CloseParenthesis ∷ r) (omega arith) refl)
  arguments_read {p} (G.more a all) nesting room k found r fits enough =
      let rest : List Token = arguments_tokens all ++ t.CloseParenthesis ∷ r in
      let long = length-append (argument_tokens a) (separator_token p.locale ∷ arguments_tokens all) in
      let read = argument_complete a nesting room (separator_token p.locale ∷ rest) (omega arith) ((separates p.locale).empty rest) in
      let again = arguments_read all nesting room (k - 1) (found ++ argument_tree a ∷ []) r (omega arith) (omega (arith, long)) in
      ap (arguments_from p (whole p nesting) room k found) (append_assoc (argument_tokens a) (separator_token p.locale ∷ arguments_tokens all) (t.CloseParenthesis ∷ r))
      ∙ deeper (λ j. arguments_from p (whole p nesting) room j found (argument_tokens a ++ separator_token p.locale ∷ rest)) k (omega arith)
      ∙ rw (read, (separates p.locale).reads rest, ← append_assoc found (argument_tree a ∷ []) (arguments_trees all)) again

  argument_complete : {p : Profile} (d : Argument p) (nesting room : ℕ) (r : List Token) → Fits nesting room (argument_open d) (depth_of (argument_tree d)) → is_empty_here p.locale r ≡ true
      → argument p (whole p nesting) room (argument_tokens d ++ r) ≡ Some (argument_tree d, r)
  argument_complete G.empty nesting room r fits ends = rw ends
  argument_complete (G.given a) nesting room r fits ends = given_completes a (expression_reads a) nesting room r fits ends
