-- Texts on one line: `\n` stands for a line feed, and `\\` for a backslash.
use Rattle.std.specs.Prelude.{◌≡◌, ℕ, Bool, true, not, List, [], ◌∷◌, ◌==◌, ◌||◌, if◌then◌else◌}
use Rattle.std.specs.List.{flat_map, list_all}
use Rattle.std.specs.Option.{option_map}
use Rattle.std.specs.declared.option.Option.{Option}
use Rattle.std.specs.declared.option.Option.TheVariants.{Some, None}

-- a byte that is not written as itself
abbrev pub needs_escape : ℕ → Bool
needs_escape b = b == 10 || b == 92

-- how a byte is written
abbrev pub escape_byte : ℕ → List ℕ
escape_byte b = if b == 10 then 92 ∷ 110 ∷ [] else (if b == 92 then 92 ∷ 92 ∷ [] else b ∷ [])

-- how a text is written
abbrev pub escaped : List ℕ → List ℕ
escaped text = flat_map escape_byte text

-- a text with this byte before it
abbrev pub onto : ℕ → Option (List ℕ) → Option (List ℕ)
onto b text = option_map (λ bytes. b ∷ bytes) text

-- the text that the bytes stand for, if each backslash stands before `n` or a backslash
abbrev pub unescaped : List ℕ → Option (List ℕ)
unescaped [] = Some []
unescaped (b ∷ []) = if b == 92 then None else Some (b ∷ [])
unescaped (b ∷ c ∷ bytes) =
    if b == 92
    then (if c == 110 then onto 10 (unescaped bytes) else (if c == 92 then onto 92 (unescaped bytes) else None))
    else onto b (unescaped (c ∷ bytes))

-- what is escaped stands for what it was
abbrev pub IsUndone : Type 0
IsUndone = (text : List ℕ) → unescaped (escaped text) ≡ Some text

-- the bytes hold no line feed
abbrev pub is_one_line : List ℕ → Bool
is_one_line bytes = list_all (λ b. not (b == 10)) bytes

-- on one line nothing else stands for a text
abbrev pub IsOnlyWay : Type 0
IsOnlyWay = (bytes text : List ℕ) → is_one_line bytes ≡ true → unescaped bytes ≡ Some text → bytes ≡ escaped text
