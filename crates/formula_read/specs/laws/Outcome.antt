-- What a function that reads the front of a text ensures.
use Rattle.std.specs.Prelude.{◌≡◌, ℕ, Option, take, drop}
use Rattle.std.specs.Option.{option_map}
use Rattle.std.specs.Str.{chars, IsCharBoundary}
use Rattle.formula_read.specs.Characters.{Text}
use denote.Ref.{Bor}

-- what is read, and the characters that follow it
abbrev pub seen : {A : Type 0} → Option (A × Bor Text) → Option (A × Text)
seen = option_map (λ p. (p.0, chars p.1.now))

-- the characters that follow
abbrev pub left : Option (Bor Text) → Option Text
left = option_map (λ rest. chars rest.now)

-- cut behind so many bytes, the text has these characters on both sides
pub record Cuts (text : Text) (len : ℕ) (s : Text × Text) : Type 0 where
  pub boundary : IsCharBoundary text len
  pub front : chars (take len text) ≡ s.0
  pub rest : chars (drop len text) ≡ s.1
