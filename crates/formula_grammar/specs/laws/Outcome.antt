-- What a function that reads ensures: the outcome of the reading function, unless memory ran out.
use Rattle.std.specs.Prelude.{◌≡◌, ◌≢◌, Bool, true, false, List, Option, Some, None, Result, Ok, Err}
use Rattle.formula_tree.specs.declared.node.Node.{Node}
use Rattle.formula_grammar.specs.declared.fault.Fault.{Fault}
use Rattle.formula_grammar.specs.declared.fault.Fault.TheVariants.{Memory}
use Rattle.formula_grammar.specs.declared.token.Token.{Token}
use Rattle.formula_grammar.specs.laws.Reading.{Outcome, shallow_tree}

-- what is read, and the tokens after it
abbrev pub Reads : {A X : Type 0} → Option (A × X) → Result A Fault → X → Type 0
Reads outcome (Ok a) new = outcome ≡ Some (a, new)
Reads outcome (Err e) new = e ≢ Memory → outcome ≡ None

-- takes what stands at the front, or leaves all
abbrev pub Picks : {A : Type 0} → Outcome A → Option A → List Token → List Token → Type 0
Picks outcome (Some a) old new = outcome ≡ Some (a, new)
Picks outcome None old new = (outcome ≡ None) × (new ≡ old)

abbrev pub Eats : Outcome (Unit {0}) → Bool → List Token → List Token → Type 0
Eats outcome true old new = outcome ≡ Some (tt, new)
Eats outcome false old new = (outcome ≡ None) × (new ≡ old)

-- the value, if there is one
abbrev pub Gives : {A : Type 0} → Option A → Result A Fault → Type 0
Gives o (Ok a) = o ≡ Some a
Gives o (Err e) = e ≢ Memory → o ≡ None

-- the tree, if it is not too deep
abbrev pub Makes : Node → Result Node Fault → Type 0
Makes tree (Ok m) = shallow_tree tree ≡ Some m
Makes tree (Err e) = e ≢ Memory → shallow_tree tree ≡ None
