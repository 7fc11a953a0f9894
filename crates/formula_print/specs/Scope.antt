-- A tree as Excel stores it: each use and each declaration of a bound name is marked by a prefix.
use Rattle.std.specs.Prelude.{ℕ, ◌%◌, ◌==◌, Bool, true, false, ◌&&◌, if◌then◌else◌, nat_le, Option, Some, None, List, [], ◌∷◌, ◌++◌, map, length, codes}
use Rattle.std.specs.List.{list_any}
use Rattle.base_tables.specs.Tables.{same_text}
use Rattle.base_tables.specs.declared.Function.{Function}
use Rattle.base_tables.specs.declared.Function.TheVariants as f
use Rattle.formula_tree.specs.declared.Node.{Node, fold-Node}
use Rattle.formula_tree.specs.declared.Node.TheVariants as node
use Rattle.formula_tree.specs.declared.Node.TheOpen.{Node-F}
use Rattle.formula_tree.specs.declared.Node.TheOpen as layer
use Rattle.formula_tree.specs.declared.Parameter.{Parameter}
use Rattle.formula_print.specs.declared.scope.Scope.{Scope}

-- outside of lambdas and `LET` no name is bound
abbrev pub outermost : Scope
outermost = record { marks = true; names = [] }

-- a name is bound by the same spelling
abbrev pub is_marked : Scope → List ℕ → Bool
is_marked scope name = scope.marks && list_any (same_text name) scope.names

abbrev pub prefixed : Bool → List ℕ → List ℕ
prefixed marks name = if marks then codes "_xlpm." ++ name else name

-- a name where it is used
abbrev pub used_name : Scope → List ℕ → List ℕ
used_name scope name = prefixed (is_marked scope name) name

-- a name where `LET` declares it
abbrev pub declared_name : Scope → List ℕ → List ℕ
declared_name scope name = prefixed scope.marks name

-- a parameter where a lambda declares it
abbrev pub stored_parameter : Parameter → Parameter
stored_parameter parameter = record { name = (if parameter.optional then codes "_xlop." else codes "_xlpm.") ++ parameter.name; optional = false }

abbrev pub bind : Scope → List ℕ → Scope
bind scope name = record { marks = scope.marks; names = scope.names ++ name ∷ [] }

abbrev pub bind_parameters : Scope → List Parameter → Scope
bind_parameters scope parameters = record { marks = scope.marks; names = scope.names ++ map (λ p. p.name) parameters }

-- the same names, of which none is marked
abbrev pub unmarked : Scope → Scope
unmarked scope = record { marks = false; names = scope.names }

-- a tree seen from the tree around it
pub record Scoped : Type 0 where
  -- the name, where the tree is one
  pub declares : Option (List ℕ)
  pub within : Scope → Node

-- what stands in the place of a name of `LET`: the name that is declared, or anything else, in which no name is marked
abbrev pub place_of : Scope → Option (List ℕ) → (Scope → Node) → Node
place_of scope (Some name) within = node.Name (declared_name scope name)
place_of scope None within = within (unmarked scope)

-- what is bound behind that place
abbrev pub bind_place : Scope → Option (List ℕ) → Scope
bind_place scope (Some name) = bind scope name
bind_place scope None = scope

-- an argument of `LET`, in a name's place or not
abbrev pub argument : Bool → Scope → Option (List ℕ) → (Scope → Node) → Node
argument is_place scope declared within = if is_place then place_of scope declared within else within scope

-- what is bound behind it
abbrev pub bind_argument : Bool → Scope → Option (List ℕ) → Scope
bind_argument is_place scope declared = if is_place then bind_place scope declared else scope

-- the arguments of `LET`: pairs of a name's place and a value, and last what is computed. A name is bound from its own value on
abbrev pub let_arguments : Scope → List Scoped → List Node
let_arguments scope [] = []
let_arguments scope (body ∷ []) = body.within scope ∷ []
let_arguments scope (name ∷ value ∷ later) =
    place_of scope name.declares name.within ∷ value.within (bind_place scope name.declares) ∷ let_arguments (bind_place scope name.declares) later

-- an odd count of at least 3
abbrev pub binds_names : ℕ → Bool
binds_names count = nat_le 3 count && (count % 2 == 1)

abbrev pub all_within : Scope → List Scoped → List Node
all_within scope all = map (λ a. a.within scope) all

abbrev pub call_arguments : Function → Scope → List Scoped → List Node
call_arguments f.Let scope all = if binds_names (length all) then let_arguments scope all else all_within scope all
call_arguments _ scope all = all_within scope all

abbrev pub plain : (Scope → Node) → Scoped
plain within = record { declares = None; within = within }

-- one node, whose children are stored
abbrev pub scope_layer : Node-F Scoped → Scoped
scope_layer (layer.Name name) = record { declares = Some name; within = λ scope. node.Name (used_name scope name) }
scope_layer (layer.NamedCall name all) = plain (λ scope. node.NamedCall (used_name scope name) (all_within scope all))
scope_layer (layer.Call function all) = plain (λ scope. node.Call function (call_arguments function scope all))
scope_layer (layer.Lambda parameters a) = plain (λ scope. node.Lambda (map stored_parameter parameters) (a.within (bind_parameters scope parameters)))
scope_layer (layer.Boolean value) = plain (λ scope. node.Boolean value)
scope_layer (layer.Number value) = plain (λ scope. node.Number value)
scope_layer (layer.Text text) = plain (λ scope. node.Text text)
scope_layer (layer.Reference sheet corner) = plain (λ scope. node.Reference sheet corner)
scope_layer (layer.Range sheet first second) = plain (λ scope. node.Range sheet first second)
scope_layer (layer.Colon a b) = plain (λ scope. node.Colon (a.within scope) (b.within scope))
scope_layer (layer.Concatenate a b) = plain (λ scope. node.Concatenate (a.within scope) (b.within scope))
scope_layer (layer.Compare kind a b) = plain (λ scope. node.Compare kind (a.within scope) (b.within scope))
scope_layer (layer.Sum kind a b) = plain (λ scope. node.Sum kind (a.within scope) (b.within scope))
scope_layer (layer.Product kind a b) = plain (λ scope. node.Product kind (a.within scope) (b.within scope))
scope_layer (layer.Power a b) = plain (λ scope. node.Power (a.within scope) (b.within scope))
scope_layer (layer.Unary kind a) = plain (λ scope. node.Unary kind (a.within scope))
scope_layer (layer.Array lines) = plain (λ scope. node.Array lines)
scope_layer (layer.Error error) = plain (λ scope. node.Error error)
scope_layer (layer.ParseError text) = plain (λ scope. node.ParseError text)
scope_layer layer.EmptyArgument = plain (λ scope. node.EmptyArgument)
scope_layer (layer.Spill a) = plain (λ scope. node.Spill (a.within scope))
scope_layer (layer.LambdaCall a all) = plain (λ scope. node.LambdaCall (a.within scope) (all_within scope all))
scope_layer (layer.ImplicitIntersection a) = plain (λ scope. node.ImplicitIntersection (a.within scope))

unfoldable pub scoped : Node → Scoped
scoped = fold-Node Scoped scope_layer

-- a tree as Excel stores it, where these names are bound
unfoldable pub stored : Scope → Node → Node
stored scope tree = (scoped tree).within scope

-- the name that a tree declares in a name's place of `LET`
unfoldable pub declares : Node → Option (List ℕ)
declares tree = (scoped tree).declares
