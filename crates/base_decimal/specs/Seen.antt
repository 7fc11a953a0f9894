-- What a function that reads the front of a text answers: a value and what follows.
use Rattle.std.specs.Prelude.{List, ℕ, Option}
use Rattle.std.specs.Option.{option_map}
use denote.Ref.{Bor}

abbrev pub seen : {A : Type 0} → Option (A × Bor (List ℕ)) → Option (A × List ℕ)
seen = option_map (λ p. (p.0, p.1.now))
