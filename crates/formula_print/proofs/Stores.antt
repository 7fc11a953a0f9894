-- Trees stored one after the other, and scopes that are left again.
use Rattle.std.proofs.Common.{◌≡◌, ℕ, ◌+◌, ◌<◌, List, [], ◌∷◌, ◌++◌, length, get_or, take, drop, map, not, ◌&&◌, Bool, true, false, Option, Some, None, refl, ap, subst, sym, ◌∙◌, append_assoc, append-nil, arith}
use Rattle.std.specs.Prelude.{nat_lt, ◌-◌}
use Rattle.std.proofs.lemmas.Bool.Decides.{nat_tests}
use Rattle.std.proofs.lemmas.List.{take_more, map-append, drop_more, length-map, length-drop}
use Rattle.std.proofs.Math.Seq.{take-append_seam}
use Rattle.formula_tree.specs.declared.Node.{Node}
use Rattle.formula_tree.specs.declared.Parameter.{Parameter}
use Rattle.formula_print.specs.declared.scope.Scope.{Scope}
use Rattle.formula_print.specs.Scope.{Scoped, bind_parameters, scoped, stored, declares, all_within, let_arguments, argument, bind_argument, place_of, bind_place}

-- the names of a lambda are forgotten behind it
pub forgets : (scope : Scope) (parameters : List Parameter) → take (length scope.names) (bind_parameters scope parameters).names ≡ scope.names
forgets scope parameters = take-append_seam scope.names (map (λ p. p.name) parameters)

-- the first trees and one more
pub all_stored : (scope : Scope) (nodes : List Node) (i : ℕ) (d : Node) → i < length nodes
    → all_within scope (map scoped (take (i + 1) nodes)) ≡ all_within scope (map scoped (take i nodes)) ++ stored scope (get_or nodes i d) ∷ []
unfolding stored
all_stored scope nodes i d h =
    ap (λ xs. all_within scope (map scoped xs)) (take_more nodes i d h) ∙ ap (all_within scope) (map-append scoped (take i nodes) (get_or nodes i d ∷ []))
    ∙ map-append (λ a. a.within scope) (map scoped (take i nodes)) (scoped (get_or nodes i d) ∷ [])

-- ---- LET

-- how many arguments there are does not depend on how they are stored
pub counted : (nodes : List Node) → length (map scoped nodes) ≡ length nodes
counted nodes = length-map nodes scoped

-- the scope has more names than it had
pub record Extends (old new : Scope) : Type 0 where
  pub marks : new.marks ≡ old.marks
  pub names : (more : List (List ℕ)) × (new.names ≡ old.names ++ more)

pub extends_itself : (scope : Scope) → Extends scope scope
extends_itself scope = record { marks = refl; names = ([], sym (append-nil scope.names)) }

extends_place : (old new : Scope) (declared : Option (List ℕ)) → Extends old new → Extends old (bind_place new declared)
extends_place old new None e = e
extends_place old new (Some name) e = record {
  marks = e.marks;
  names = (e.names.0 ++ name ∷ [], ap (λ (z : List (List ℕ)). z ++ name ∷ []) e.names.1 ∙ append_assoc old.names e.names.0 (name ∷ []));
}

pub extends_argument : (is_place : Bool) (old new : Scope) (declared : Option (List ℕ)) → Extends old new → Extends old (bind_argument is_place new declared)
extends_argument true old new declared e = extends_place old new declared e
extends_argument false old new declared e = e

-- the scope as it was
pub restored : (old new : Scope) → Extends old new → (let back : Scope = record { marks = new.marks; names = take (length old.names) new.names } in back) ≡ old
restored old new e =
    let same : take (length old.names) new.names ≡ old.names = ap (take (length old.names)) e.names.1 ∙ take-append_seam old.names e.names.0 in
    λ i. record { marks = e.marks i; names = same i }

is_positive : (n : ℕ) → 0 < n → nat_lt 0 n ≡ true
is_positive n h = grind (arith, nat_tests)

abbrev is_some_more : List Scoped → Bool
is_some_more [] = false
is_some_more (a ∷ later) = true

-- the arguments of `LET` one by one, as the loop takes them: in a name's place and not, in turns
abbrev pub turns_from : Bool → Scope → List Scoped → List Node
turns_from is_place scope [] = []
turns_from is_place scope (a ∷ later) =
    argument (is_place && is_some_more later) scope a.declares a.within ∷ turns_from (not is_place) (bind_argument (is_place && is_some_more later) scope a.declares) later

-- two turns take a pair
pub by_pairs : (scope : Scope) (all : List Scoped) → turns_from true scope all ≡ let_arguments scope all
by_pairs scope [] = refl
by_pairs scope (body ∷ []) = refl
by_pairs scope (name ∷ value ∷ later) =
    ap (λ (z : List Node). place_of scope name.declares name.within ∷ value.within (bind_place scope name.declares) ∷ z) (by_pairs (bind_place scope name.declares) later)

-- a test of whether arguments follow
more_left : (all : List Scoped) (count : ℕ) → length all ≡ count → is_some_more all ≡ nat_lt 0 count
more_left [] count h = ap (nat_lt 0) h
more_left (a ∷ all) count h = sym (is_positive count (omega arith))

left_after : (at count : ℕ) → at < count → nat_lt 0 (count - (at + 1)) ≡ nat_lt (at + 1) count
left_after at count h = grind (arith, nat_tests)

more_after : (nodes : List Node) (at : ℕ) → at < length nodes → is_some_more (map scoped (drop (at + 1) nodes)) ≡ nat_lt (at + 1) (length nodes)
more_after nodes at h =
    more_left (map scoped (drop (at + 1) nodes)) (length nodes - (at + 1)) (counted (drop (at + 1) nodes) ∙ length-drop (at + 1) nodes) ∙ left_after at (length nodes) h

-- one argument is stored, and the others are left
pub turn : (is_place : Bool) (scope : Scope) (nodes : List Node) (at : ℕ) (d : Node) → at < length nodes
    → turns_from is_place scope (map scoped (drop at nodes))
    ≡ argument (is_place && nat_lt (at + 1) (length nodes)) scope (declares (get_or nodes at d)) (λ inner. stored inner (get_or nodes at d))
    ∷ turns_from (not is_place) (bind_argument (is_place && nat_lt (at + 1) (length nodes)) scope (declares (get_or nodes at d))) (map scoped (drop (at + 1) nodes))
unfolding stored declares
turn is_place scope nodes at d h =
    ap (λ xs. turns_from is_place scope (map scoped xs)) (drop_more nodes at d h)
    ∙ ap (λ (b : Bool). argument (is_place && b) scope (declares (get_or nodes at d)) (λ inner. stored inner (get_or nodes at d))
    ∷ turns_from (not is_place) (bind_argument (is_place && b) scope (declares (get_or nodes at d))) (map scoped (drop (at + 1) nodes))) (more_after nodes at h)

-- what is stored and what is left
pub turned : (before : List Node) (is_place : Bool) (scope : Scope) (nodes : List Node) (at : ℕ) (d : Node) (all : List Node) → at < length nodes
    → before ++ turns_from is_place scope (map scoped (drop at nodes)) ≡ all
    → (before ++ argument (is_place && nat_lt (at + 1) (length nodes)) scope (declares (get_or nodes at d)) (λ inner. stored inner (get_or nodes at d)) ∷ [])
    ++ turns_from (not is_place) (bind_argument (is_place && nat_lt (at + 1) (length nodes)) scope (declares (get_or nodes at d))) (map scoped (drop (at + 1) nodes)) ≡ all
turned before is_place scope nodes at d all h e =
    append_assoc before (argument (is_place && nat_lt (at + 1) (length nodes)) scope (declares (get_or nodes at d)) (λ inner. stored inner (get_or nodes at d)) ∷ [])
    (turns_from (not is_place) (bind_argument (is_place && nat_lt (at + 1) (length nodes)) scope (declares (get_or nodes at d))) (map scoped (drop (at + 1) nodes)))
    ∙ ap (λ (z : List Node). before ++ z) (sym (turn is_place scope nodes at d h)) ∙ e

after_turn : List Node → Bool → Bool → Scope → List Node → ℕ → List Node → Node → Type 0
after_turn before is_place binds scope nodes at all node =
    (before ++ argument binds scope (declares node) (λ inner. stored inner node) ∷ [])
    ++ turns_from (not is_place) (bind_argument binds scope (declares node)) (map scoped (drop (at + 1) nodes)) ≡ all

-- the same by what a turn of the loop knows
pub loop_turn : (before after : List Node) (is_place binds : Bool) (scope next : Scope) (nodes : List Node) (at : ℕ) (node tree : Node) (all : List Node) → at < length nodes
    → node ≡ get_or nodes at node → binds ≡ (is_place && nat_lt (at + 1) (length nodes)) → tree ≡ argument binds scope (declares node) (λ inner. stored inner node)
    → next ≡ bind_argument binds scope (declares node) → after ≡ before ++ tree ∷ [] → before ++ turns_from is_place scope (map scoped (drop at nodes)) ≡ all
    → after ++ turns_from (not is_place) next (map scoped (drop (at + 1) nodes)) ≡ all
unfolding after_turn
loop_turn before after is_place binds scope next nodes at node tree all h is b t s a e =
    let first : after_turn before is_place (is_place && nat_lt (at + 1) (length nodes)) scope nodes at all (get_or nodes at node) = turned before is_place scope nodes at node all h e in
    let second : after_turn before is_place binds scope nodes at all (get_or nodes at node) = subst (λ (x : Bool). after_turn before is_place x scope nodes at all (get_or nodes at node)) (sym b) first in
    let third : after_turn before is_place binds scope nodes at all node = subst (λ (n : Node). after_turn before is_place binds scope nodes at all n) (sym is) second in
    let pushed : after ≡ before ++ argument binds scope (declares node) (λ inner. stored inner node) ∷ [] = a ∙ ap (λ (n : Node). before ++ n ∷ []) t in
    (λ i. pushed i ++ turns_from (not is_place) (s i) (map scoped (drop (at + 1) nodes))) ∙ third

pub extends_turn : (binds : Bool) (old new next : Scope) (declared : Option (List ℕ)) → next ≡ bind_argument binds new declared → Extends old new → Extends old next
extends_turn binds old new next declared is e = subst (λ (s : Scope). Extends old s) (sym is) (extends_argument binds old new declared e)

pub ruleset turns = (extends_itself, restored, append-nil, by_pairs)
