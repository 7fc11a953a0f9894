-- What steps of reading bring, where they bring something, and what goes on behind a first operand, a turn at a time.
use Rattle.std.proofs.Common.{◌≡◌, ℕ, zero, suc, ◌≤◌, Bool, true, false, cond, List, Option, Some, None, option_map, refl, ◌+◌, ◌-◌, ◌<◌, ap, ◌∙◌, arith}
use Rattle.std.specs.Prelude.{IfSome}
use Rattle.std.proofs.lemmas.Bool.{cond_both, leb-true}
use Rattle.formula_tree.specs.declared.node.Node.{Node}
use Rattle.formula_tree.specs.Depth.{depth_of}
use Rattle.formula_grammar.specs.declared.token.Token.{Token}
use Rattle.formula_grammar.specs.laws.Reading.{Outcome, Parser, and_then, with_rest, shallow_tree, make, chain_step, chain_from}
use lib.Dec.{leb}

pub record Brings {A : Type 0} (P : List Token → A → Type 0) (o : Outcome A) : Type 0 where
  pub read : IfSome o (λ r. P r.1 r.0)

module _ {A : Type 0} {P : List Token → A → Type 0} where
  pub nothing : Brings P None
  nothing = record { read = tt }

  pub brings : {a : A} {ts : List Token} → P ts a → Brings P (Some (a, ts))
  brings h = record { read = h }

  pub brings_over : {Q : List Token → A → Type 0} (o : Outcome A) → Brings Q o → ((rest : List Token) (a : A) → Q rest a → P rest a) → Brings P o
  brings_over None h k = nothing
  brings_over (Some (a, rest)) h k = brings (k rest a h.read)

  pub brings_bind : {B : Type 0} {Q : List Token → B → Type 0} (o : Outcome B) (f : B → Parser A) → Brings Q o
      → ((mid : List Token) (b : B) → Q mid b → Brings P (f b mid)) → Brings P (and_then o f)
  brings_bind None f h k = nothing
  brings_bind (Some (b, mid)) f h k = k mid b h.read

  pub brings_map : {B : Type 0} (f : B → A) (ts : List Token) (o : Option B) → ((b : B) → o ≡ Some b → P ts (f b)) → Brings P (with_rest ts (option_map f o))
  brings_map f ts None k = nothing
  brings_map f ts (Some b) k = brings (k b refl)

  pub brings_if : (test : Bool) (o other : Outcome A) → (test ≡ true → Brings P o) → (test ≡ false → Brings P other) → Brings P (cond test o other)
  brings_if test o other = cond_both test o other (Brings P)

  pub brings_by : (test : Bool) (f g : Parser A) (ts : List Token) → (test ≡ true → Brings P (f ts)) → (test ≡ false → Brings P (g ts))
      → Brings P (cond test f g ts)
  brings_by test f g ts = cond_both test f g (λ (h : Parser A). Brings P (h ts))

pub brings_made : {P : List Token → Node → Type 0} (tree : Node) (ts : List Token) → (depth_of tree ≤ 64 → P ts tree) → Brings P (make tree ts)
unfolding shallow_tree
brings_made {P} tree ts k = cond_both (leb (depth_of tree) 64) (Some tree) None (λ (o : Option Node). Brings P (with_rest ts o))
    (λ h. brings (k (leb-true (depth_of tree) 64 h))) (λ h. nothing)

-- ---- chains: what holds of what was read, and of the tokens after it

module _ {Op : Type 0} (operator : Parser Op) (turn : Op → Node → Parser Node) (Read : List Token → Node → Type 0)
    (turns : (ts : List Token) (left : Node) → Read ts left → Brings (λ mid op. Brings Read (turn op left mid)) (operator ts)) where
  pub from_sound : (k : ℕ) (ts : List Token) (left : Node) → Read ts left → Brings Read (chain_from operator turn k left ts)
  unfolding chain_from
  from_sound zero ts left h = nothing
  from_sound (suc k) ts left h = go (from_sound k) (operator ts) (turns ts left h)
    where
      go : ((ts : List Token) (left : Node) → Read ts left → Brings Read (chain_from operator turn k left ts))
          → (o : Outcome Op) → Brings (λ mid op. Brings Read (turn op left mid)) o → Brings Read (chain_step operator turn (chain_from operator turn k) left ts o)
      go again None b = brings h
      go again (Some (op, mid)) b = brings_bind (turn op left mid) (chain_from operator turn k) b.read again

module _ {Op : Type 0} (operator : Parser Op) (turn : Op → Node → Parser Node) where
  abbrev from : ℕ → Node → Parser Node
  from = chain_from operator turn

  pub chain_ends : (k : ℕ) (left : Node) (ts : List Token) → 0 < k → operator ts ≡ None → from k left ts ≡ Some (left, ts)
  unfolding chain_from
  chain_ends zero left ts h e = absurd (omega arith)
  chain_ends (suc k) left ts h e = ap (chain_step operator turn (from k) left ts) e

  pub chain_turns : (k : ℕ) (op : Op) (left out : Node) (ts rest mid : List Token) → operator ts ≡ Some (op, rest) → turn op left rest ≡ Some (out, mid) → from (suc k) left ts ≡ from k out mid
  unfolding chain_from
  chain_turns k op left out ts rest mid e f = ap (chain_step operator turn (from k) left ts) e ∙ ap (λ (o : Outcome Node). and_then o (from k)) f

  pub chain_starts : (o : Outcome Node) (left : Node) (rest : List Token) (k : ℕ) → o ≡ Some (left, rest) → 64 ≡ k → and_then o (from 64) ≡ from k left rest
  chain_starts o left rest k e k-is = ap (λ (o : Outcome Node). and_then o (from 64)) e ∙ ap (λ j. from j left rest) k-is

  -- reading came as far as this tree, and no operator follows
  pub chain_closes : (out : Outcome Node) (turns : ℕ) (left : Node) (ts : List Token) → turns < depth_of left → depth_of left ≤ 64 → operator ts ≡ None
      → ((k : ℕ) → k + turns ≡ 64 → out ≡ from k left ts) → out ≡ Some (left, ts)
  chain_closes out turns left ts below shallow none reads = reads (64 - turns) (omega (arith, below, shallow)) ∙ chain_ends (64 - turns) left ts (omega (arith, below, shallow)) none

  -- where there is never an operator, nothing goes on
  pub chain_never : ((ts : List Token) → operator ts ≡ None) → (o : Outcome Node) → and_then o (from 64) ≡ o
  chain_never never None = refl
  chain_never never (Some p) = chain_ends 64 p.0 p.1 (omega arith) (never p.1)
