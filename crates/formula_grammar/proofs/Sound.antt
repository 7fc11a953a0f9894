-- What is read is derived by the grammar.
use Rattle.std.proofs.Common.{◌≡◌, ℕ, zero, suc, ◌-◌, ◌≤◌, true, List, [], ◌∷◌, ◌++◌, length, Option, Some, None, Result, Ok, Err, refl, sym, ap, subst, ◌∙◌, append_assoc, arith}
use Rattle.std.specs.Prelude.{IfSome, ◌==◌}
use Rattle.std.proofs.lemmas.Bool.{eqb-false}
use Rattle.std.proofs.lemmas.Bool.Decides.{nat_tests}
use Rattle.base_values.specs.declared.Position.{Position}
use Rattle.base_values.specs.declared.EditError.{EditError}
use Rattle.formula_tree.specs.declared.node.Node.{Node}
use Rattle.formula_tree.specs.declared.node.Node.TheVariants as n
use Rattle.formula_tree.specs.Depth.{depth_of}
use Rattle.formula_tree.specs.laws.DepthEquations.{depth_number, depth_text, depth_reference, depth_error, depth_array, depth_empty_argument}
use Rattle.formula_tree.specs.declared.prefix.Prefix.{Prefix}
use Rattle.formula_tree.specs.declared.prefix.Prefix.TheVariants as prefix
use Rattle.formula_tree.specs.Levels.{infix_node, prefix_node, postfix_node}
use Rattle.formula_grammar.specs.declared.operator.Operator.{Operator}
use Rattle.formula_grammar.specs.declared.operator.Operator.TheVariants as operator
use Rattle.formula_grammar.specs.declared.profile.Profile.{Profile}
use Rattle.formula_grammar.specs.declared.token.Token.{Token}
use Rattle.formula_grammar.specs.declared.token.Token.TheVariants as t
use Rattle.formula_grammar.specs.Operators.{prefix_under, infix_token, prefix_token, postfix_token}
use Rattle.formula_grammar.specs.Words.{separator_token, is_lambda, called, mark_place, corner_of}
use Rattle.formula_grammar.specs.Grammar as G
use Rattle.formula_grammar.specs.Grammar.{Expression, Lambda, Arguments, expression_tokens, lambda_tokens, arguments_tokens, argument_tokens, passed, expression_tree, lambda_tree, arguments_trees, argument_tree, expression_open, lambda_open, arguments_open, argument_open}
use Rattle.formula_grammar.specs.laws.Reading.{Outcome, Parser, operator_of, operator_under, operator_at, sign_at, make_signed, signed_step, signed, opening, closing, is_empty_here, with_rest, reference_at, range_at, enclosed, argument, arguments_from, arguments_by, arguments, function, lambda_turn, lambda, call, primary, turn, expression, whole}
use Rattle.formula_grammar.proofs.Depths.{depth_worded, depth_range_node}
use Rattle.formula_grammar.proofs.Steps.{Brings, nothing, brings, brings_over, brings_bind, brings_made, brings_if, brings_by, from_sound}
use Rattle.formula_grammar.proofs.Loops.{prefix_is}
use Rattle.formula_grammar.proofs.Edges.{operator_token}
use Rattle.formula_grammar.proofs.Lists.{separator_sound, array_sound, parameters_sound}

-- a front of the tokens derives this tree, within the limits
pub record Derived {D : Type 0} (tokens : D → List Token) (tree : D → Node) (opened : D → ℕ) (room : ℕ) (ts rest : List Token) (out : Node) : Type 0 where
  pub by : D
  pub parts : ts ≡ tokens by ++ rest
  pub gives : tree by ≡ out
  pub within : opened by ≤ room
  pub shallow : depth_of out ≤ 64

abbrev pub IsExpression : Profile → ℕ → ℕ → List Token → List Token → Node → Type 0
IsExpression p level = Derived (expression_tokens {p = p} {level = level}) expression_tree expression_open

abbrev IsLambda : Profile → ℕ → List Token → List Token → Node → Type 0
IsLambda p = Derived (lambda_tokens {p = p}) lambda_tree lambda_open

abbrev IsArgument : Profile → ℕ → List Token → List Token → Node → Type 0
IsArgument p = Derived (argument_tokens {p = p}) argument_tree argument_open

-- arguments up to the closing parenthesis, which these nodes are made of
record AreArguments (p : Profile) (room : ℕ) (nodes : Arguments p → List Node) (ts rest : List Token) (all : List Node) : Type 0 where
  by : Arguments p
  parts : ts ≡ arguments_tokens by ++ t.CloseParenthesis ∷ rest
  gives : nodes by ≡ all
  within : arguments_open by ≤ room

-- a lone one that is empty is none
abbrev IsArguments : (p : Profile) → ℕ → List Token → List Token → List Node → Type 0
IsArguments p room = AreArguments p room (λ by. passed by (arguments_trees by))

-- after those found, a lone one counts
abbrev GoesOn : (p : Profile) → ℕ → List Node → List Token → List Token → List Node → Type 0
GoesOn p room found = AreArguments p room (λ by. found ++ arguments_trees by)

-- ---- tokens

opening_sound : (ts : List Token) → Brings (λ rest _. ts ≡ t.OpenParenthesis ∷ rest) (opening ts)
opening_sound ts = record { read = grind arith }

closing_sound : (ts : List Token) → Brings (λ rest _. ts ≡ t.CloseParenthesis ∷ rest) (closing ts)
closing_sound ts = record { read = grind arith }

token_of : (x : Token) → IfSome (operator_of x) (λ op. x ≡ operator_token op)
token_of x = grind arith

operator_sound : (under : ℕ) (ts : List Token) → Brings (λ rest op. (ts ≡ operator_token op ∷ rest) × (operator_under op ≡ under)) (operator_at under ts)
operator_sound under ts = record { read = grind (arith, nat_tests, token_of) }

-- ---- operators

module _ (p : Profile) (room : ℕ) where
  lifted : {level : ℕ} {ts rest : List Token} {out : Node} → IsExpression p level room ts rest out → IsExpression p (suc level) room ts rest out
  lifted d = record { by = G.lift d.by; parts = d.parts; gives = d.gives; within = d.within; shallow = d.shallow }

  -- what an operator makes of an expression before it and the operand behind it
  turn_made : (all : List Token) (operand : Parser Node) (op : Operator) → ((ts : List Token) → Brings (IsExpression p (operator_under op) room ts) (operand ts))
      → (ts mid : List Token) (left : Node) → IsExpression p (suc (operator_under op)) room all ts left → ts ≡ operator_token op ∷ mid
      → Brings (IsExpression p (suc (operator_under op)) room all) (turn operand op left mid)
  turn_made all operand (operator.Infix op) sound ts mid left a e = brings_bind _ _ (sound mid) (λ rest right b. brings_made (infix_node op left right) rest (λ h. record {
    by = G.joined op a.by b.by;
    parts = rw (a.parts, e, b.parts, append_assoc (expression_tokens a.by) (infix_token op ∷ expression_tokens b.by) rest);
    gives = rw (a.gives, b.gives);
    within = omega (arith, a.within, b.within);
    shallow = h;
  }))
  turn_made all operand (operator.Postfix op) sound ts mid left a e = brings_made (postfix_node op left) mid (λ h. record {
    by = G.followed op a.by;
    parts = rw (a.parts, e, append_assoc (expression_tokens a.by) (postfix_token op ∷ []) mid);
    gives = rw a.gives;
    within = a.within;
    shallow = h;
  })

  signed_made : (op : Prefix) (ts rest : List Token) (x : Node) → IsExpression p (suc (prefix_under op)) room ts rest x
      → Brings (IsExpression p (suc (prefix_under op)) room (prefix_token op ∷ ts)) (make_signed op x rest)
  signed_made prefix.Plus ts rest x a =
      brings (record { by = G.signed prefix.Plus a.by; parts = rw a.parts; gives = a.gives; within = a.within; shallow = a.shallow })
  signed_made op ts rest x a =
      brings_made (prefix_node op x) rest (λ h. record { by = G.signed op a.by; parts = rw a.parts; gives = rw a.gives; within = a.within; shallow = h })

  module _ (under : ℕ) (operand : Parser Node) (operand_sound : (ts : List Token) → Brings (IsExpression p under room ts) (operand ts)) where
    -- an operator behind an expression
    turn_sound : (all ts : List Token) (left : Node) → IsExpression p (suc under) room all ts left
        → Brings (λ mid op. Brings (IsExpression p (suc under) room all) (turn operand op left mid)) (operator_at under ts)
    turn_sound all ts left a = brings_over _ (operator_sound under ts) (λ mid op q. subst
        (λ (l : ℕ). ((ts : List Token) → Brings (IsExpression p l room ts) (operand ts)) → IsExpression p (suc l) room all ts left
        → Brings (IsExpression p (suc l) room all) (turn operand op left mid)) q.1
        (λ sound before. turn_made all operand op sound ts mid left before q.0) operand_sound a)

    signed_sound : (ts : List Token) → Brings (IsExpression p (suc under) room ts) (signed under operand ts)
    unfolding signed
    signed_sound [] = brings_over _ (operand_sound []) (λ rest out. lifted)
    signed_sound (x ∷ ts) = go (signed_sound ts) (sign_at under x) refl
      where
        go : Brings (IsExpression p (suc under) room ts) (signed under operand ts) → (o : Option Prefix) → sign_at under x ≡ o
            → Brings (IsExpression p (suc under) room (x ∷ ts)) (signed_step under operand (operand (x ∷ ts)) (signed under operand ts) o)
        go again None h = brings_over _ (operand_sound (x ∷ ts)) (λ rest out. lifted)
        go again (Some op) h =
            let q = prefix_is under x op h in
            brings_bind _ _ again (λ mid left a. rw q.1 (subst (λ (l : ℕ). IsExpression p (suc l) room ts mid left
            → Brings (IsExpression p (suc l) room (prefix_token op ∷ ts)) (make_signed op left mid)) q.0 (signed_made op ts mid left) a))

  -- one token
  leaf : (d : Expression p zero) (ts : List Token) → expression_open d ≡ 0 → depth_of (expression_tree d) ≤ 64
      → Brings (IsExpression p 0 room (expression_tokens d ++ ts)) (Some (expression_tree d, ts))
  leaf d ts closed shallow = brings (record { by = d; parts = refl; gives = refl; within = omega (arith, closed); shallow = shallow })

-- ---- the rules

module _ (p : Profile) (inner : ℕ → Parser Node) (inner_sound : (room : ℕ) (ts : List Token) → Brings (IsExpression p 10 room ts) (inner room ts)) (room : ℕ) where
  argument_sound : (ts : List Token) → Brings (IsArgument p room ts) (argument p inner room ts)
  unfolding argument
  argument_sound ts = brings_if (is_empty_here p.locale ts) _ _
      (λ h. brings (record { by = G.empty; parts = refl; gives = refl; within = omega arith; shallow = omega (arith, depth_empty_argument) }))
      (λ h. brings_over _ (inner_sound room ts) (λ rest out d.
      record { by = G.given d.by; parts = d.parts; gives = d.gives; within = d.within; shallow = d.shallow }))

  arguments_from_sound : (k : ℕ) (found : List Node) (ts : List Token) → Brings (GoesOn p room found ts) (arguments_from p inner room k found ts)
  unfolding arguments_from
  arguments_from_sound zero found ts = nothing
  arguments_from_sound (suc k) found ts =
      brings_bind _ _ (argument_sound ts) (λ mid x a. brings_bind _ _ (separator_sound p.locale mid) (λ last goes_on e. brings_by goes_on _ _ last
      (λ h. brings_over _ (arguments_from_sound k (found ++ x ∷ []) last) (λ rest all g. record {
        by = G.more a.by g.by;
        parts = rw (a.parts, e, h, g.parts, append_assoc (argument_tokens a.by) (separator_token p.locale ∷ arguments_tokens g.by) (t.CloseParenthesis ∷ rest));
        gives = rw (a.gives, ← append_assoc found (x ∷ []) (arguments_trees g.by)) g.gives;
        within = omega (arith, a.within, g.within);
      }))
      (λ h. brings (record { by = G.last a.by; parts = rw (a.parts, e, h); gives = rw a.gives; within = a.within }))))

  -- where no parenthesis closes, they are no lone one that is empty
  all_passed : (d : Arguments p) (rest : List Token) → closing (arguments_tokens d ++ t.CloseParenthesis ∷ rest) ≡ None → passed d (arguments_trees d) ≡ arguments_trees d
  all_passed d rest e = grind arith

  arguments_sound : (ts : List Token) → Brings (IsArguments p room ts) (arguments p inner room ts)
  unfolding arguments
  arguments_sound ts = go (closing ts) refl (closing_sound ts)
    where
      go : (o : Outcome (Unit {0})) → closing ts ≡ o → Brings (λ rest _. ts ≡ t.CloseParenthesis ∷ rest) o → Brings (IsArguments p room ts) (arguments_by p inner room ts o)
      go (Some (u, rest)) h e = brings (record { by = G.last G.empty; parts = e.read; gives = refl; within = omega arith })
      go None h e = brings_over _ (arguments_from_sound (length ts) [] ts) (λ rest all g.
          record { by = g.by; parts = g.parts; gives = all_passed g.by rest (sym (ap closing g.parts) ∙ h) ∙ g.gives; within = g.within })

  function_sound : (word : List ℕ) → is_lambda word ≡ true → (ts : List Token) → Brings (IsLambda p room (t.Word word ∷ t.OpenParenthesis ∷ ts)) (function p inner room ts)
  unfolding function
  function_sound word is ts =
      brings_bind _ _ (parameters_sound p ts) (λ mid all e. brings_bind _ _ (inner_sound room mid) (λ last x body. brings_bind _ _ (closing_sound last)
      (λ rest _ c. brings_made (n.Lambda all x) rest (λ h. record {
        by = G.function word is all body.by;
        parts = simp (e, body.parts, c, append_assoc);
        gives = rw body.gives;
        within = body.within;
        shallow = h;
      }))))

  lambda_turn_sound : (all ts : List Token) (left : Node) → IsLambda p room all ts left
      → Brings (λ mid u. Brings (IsLambda p room all) (lambda_turn p inner room u left mid)) (opening ts)
  lambda_turn_sound all ts left x = brings_over _ (opening_sound ts) (λ mid u e. brings_bind _ _ (arguments_sound mid) (λ rest given a.
      brings_made (n.LambdaCall left given) rest (λ h. record {
        by = G.applied x.by a.by;
        parts = simp (x.parts, e, a.parts, append_assoc);
        gives = rw (x.gives, a.gives);
        within = omega (arith, x.within, a.within);
        shallow = h;
      })))

  call_sound : (word : List ℕ) (ts : List Token) → Brings (IsExpression p 0 room (t.Word word ∷ t.OpenParenthesis ∷ ts)) (call p inner room word ts)
  unfolding call lambda
  call_sound word ts = brings_by (is_lambda word) _ _ ts
      (λ h. brings_over _ (brings_bind _ _ (function_sound word h ts)
      (from_sound opening (lambda_turn p inner room) (IsLambda p room (t.Word word ∷ t.OpenParenthesis ∷ ts)) (lambda_turn_sound _) 64))
      (λ rest out d. record { by = G.lambda d.by; parts = d.parts; gives = d.gives; within = d.within; shallow = d.shallow }))
      (λ h. brings_bind _ _ (arguments_sound ts) (λ rest all a. brings_made (called p.language word all) rest (λ shallow. record {
        by = G.call word h a.by;
        parts = simp (a.parts, append_assoc);
        gives = rw a.gives;
        within = a.within;
        shallow = shallow;
      })))

  enclosed_sound : (ts : List Token) → Brings (IsExpression p 0 room (t.OpenParenthesis ∷ ts)) (enclosed p inner room ts)
  unfolding enclosed
  enclosed_sound ts = brings_by (room == 0) _ _ ts (λ h. nothing)
      (λ h. brings_bind _ _ (inner_sound (room - 1) ts) (λ mid x d. brings_bind _ _ (closing_sound mid) (λ rest _ c. brings (record {
        by = G.parentheses d.by;
        parts = simp (d.parts, c, append_assoc);
        gives = d.gives;
        within = omega (arith, d.within, eqb-false room 0 h);
        shallow = d.shallow;
      }))))

  primary_sound : (ts : List Token) → Brings (IsExpression p 0 room ts) (primary p inner room ts)
  unfolding primary
  primary_sound (t.Number value ∷ ts) = leaf p room (G.number value) ts refl (omega (arith, depth_number value))
  primary_sound (t.Text value ∷ ts) = leaf p room (G.text value) ts refl (omega (arith, depth_text value))
  primary_sound (t.Error x ∷ ts) = leaf p room (G.error x) ts refl (omega (arith, depth_error x))
  primary_sound (t.Reference sheet mark ∷ ts) = go (mark_place mark) refl
    where
      go : (o : Result Position EditError) → mark_place mark ≡ o → Brings (IsExpression p 0 room (t.Reference sheet mark ∷ ts)) (with_rest ts (reference_at p.place sheet mark o))
      go (Ok at) is = leaf p room (G.reference sheet mark at is) ts refl (omega (arith, depth_reference sheet (corner_of p.place mark at)))
      go (Err x) is = nothing
  primary_sound (t.Range sheet first second ∷ ts) = go (mark_place first) (mark_place second) refl refl
    where
      go : (a b : Result Position EditError) → mark_place first ≡ a → mark_place second ≡ b
          → Brings (IsExpression p 0 room (t.Range sheet first second ∷ ts)) (with_rest ts (range_at p.place sheet first second a b))
      go (Ok start) (Ok stop) is also = leaf p room (G.range sheet first second start stop is also) ts refl
          (omega (arith, depth_range_node p.place sheet (corner_of p.place first start) (corner_of p.place second stop)))
      go (Ok start) (Err x) is also = nothing
      go (Err x) b is also = nothing
  primary_sound (t.Word word ∷ t.OpenParenthesis ∷ ts) = call_sound word ts
  primary_sound (t.Word word ∷ ts) = leaf p room (G.word word) ts refl (omega (arith, depth_worded p.language word))
  primary_sound (t.OpenParenthesis ∷ ts) = enclosed_sound ts
  primary_sound (t.OpenBrace ∷ ts) = brings_over _ (array_sound p ts) (λ rest out a. record {
    by = G.array a.by a.even;
    parts = simp (a.parts, append_assoc);
    gives = a.gives;
    within = omega arith;
    shallow = omega (arith, ap depth_of a.gives, depth_array (G.rows_lines a.by));
  })
  primary_sound _ = nothing

  pub expression_sound : (level : ℕ) (ts : List Token) → Brings (IsExpression p level room ts) (expression p inner room level ts)
  unfolding expression
  expression_sound zero ts = primary_sound ts
  expression_sound (suc under) ts = brings_bind _ _ (signed_sound p room under (expression p inner room under) (expression_sound under) ts)
      (from_sound (operator_at under) (turn (expression p inner room under)) (IsExpression p (suc under) room ts)
      (turn_sound p room under (expression p inner room under) (expression_sound under) ts) 64)

pub whole_sound : (p : Profile) (nesting room : ℕ) (ts : List Token) → Brings (IsExpression p 10 room ts) (whole p nesting room ts)
unfolding whole
whole_sound p zero room ts = nothing
whole_sound p (suc nesting) room ts = expression_sound p (whole p nesting) (whole_sound p nesting) room 10 ts
