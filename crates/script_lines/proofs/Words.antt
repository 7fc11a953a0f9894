-- More words than a command has, words that begin none, and lines that are text.
use Rattle.std.proofs.Common.{◌≡◌, ℕ, ◌==◌, Bool, true, false, cond, List, [], ◌∷◌, Option, Some, None, Result, Ok, Err, refl, sym, ap, subst, ◌∙◌}
use Rattle.std.specs.Prelude.{IfOk, IfSome}
use Rattle.std.specs.Option.{option_and_then, option_map}
use Rattle.script_lines.specs.CommandFits.{CommandFits}
use Rattle.script_lines.proofs.Fitting.{command_fits}
use Rattle.base_values.specs.declared.error.EditError.{EditError}
use Rattle.std.specs.Str.{IsUtf8, is_utf8, bytes_eq}
use Rattle.std.specs.List.{onto_first, find, AllByRecursion}
use Rattle.std.proofs.lemmas.Slice.Eq.{bytes_eq-Decides}
use Rattle.std.proofs.lemmas.Str.{IsUtf8-from_is_utf8, is_utf8-from_IsUtf8}
use Rattle.script_lines.specs.Parts.{parts_at}
use Rattle.script_lines.specs.References.{area_of_parts}
use Rattle.script_lines.specs.declared.command.Command.{Command}
use Rattle.script_lines.specs.Commands.{ended, Table, by_table, Readers, by_reader, from_words, command_of}

first_part : (P : List (List ℕ) → Type 0) → ((word : List ℕ) (words : List (List ℕ)) → P (word ∷ words)) → (separator : ℕ) (bytes : List ℕ) → P (parts_at separator bytes)
first_part P h separator [] = h [] []
first_part P h separator (b ∷ bytes) = either (b == separator)
  where
    onto : (parts : List (List ℕ)) → P (onto_first b parts)
    onto [] = h (b ∷ []) []
    onto (part ∷ parts) = h (b ∷ part) parts

    either : (t : Bool) → P (cond t ([] ∷ parts_at separator bytes) (onto_first b (parts_at separator bytes)))
    either true = h [] (parts_at separator bytes)
    either false = onto (parts_at separator bytes)

-- words behind it
pub never_ended : {A : Type 0} (value : A) (bytes : List ℕ) → None ≡ ended (value, parts_at 32 bytes)
never_ended value bytes = first_part (λ words. None ≡ ended (value, words)) (λ word words. refl) 32 bytes

-- a second colon
pub no_third : (bytes one rest other more : List ℕ) → parts_at 58 bytes ≡ one ∷ parts_at 58 rest → parts_at 58 rest ≡ other ∷ parts_at 58 more → None ≡ area_of_parts (parts_at 58 bytes)
no_third bytes one rest other more first second =
    first_part (λ parts. None ≡ area_of_parts (one ∷ other ∷ parts)) (λ part parts. refl) 58 more
    ∙ ap area_of_parts (sym (first ∙ ap (λ l. one ∷ l) second))

pub is_text : (line : List ℕ) → IsUtf8 line → from_words (parts_at 32 line) ≡ command_of line
is_text line text = sym (ap (λ b. cond b (from_words (parts_at 32 line)) None) (is_utf8-from_IsUtf8 line text))

pub no_text : (line : List ℕ) → (IsUtf8 line → ⊥) → None ≡ command_of line
no_text line none = (elim (is_utf8 line) as (λ b. is_utf8 line ≡ b → None ≡ cond b (from_words (parts_at 32 line)) None) [
  | true ↦ λ e. absurd (none (IsUtf8-from_is_utf8 line e))
  | false ↦ λ e. refl
]) refl

pub same_found : (line text : List ℕ) (answer : Result (Option Command) EditError) → (text ≡ line) × IsUtf8 line
    → IfOk answer (λ found. found ≡ from_words (parts_at 32 text)) → IfOk answer (λ found. found ≡ command_of line)
same_found line text (Ok found) h is = is ∙ ap (λ l. from_words (parts_at 32 l)) h.0 ∙ is_text line h.1
same_found line text (Err error) h is = tt

pub found_fits : (line : List ℕ) (answer : Result (Option Command) EditError) → IfOk answer (λ found. found ≡ command_of line) → IfOk answer (λ found. IfSome found CommandFits)
found_fits line (Ok found) is = subst (λ o. IfSome o CommandFits) (sym is) (command_fits line)
found_fits line (Err error) is = tt

-- a word that no entry of a table is named by
pub none_named : {A : Type 0} (name_of : A → List ℕ) (first : List ℕ) (entries : List A) → AllByRecursion (λ entry. first ≡ name_of entry → ⊥) entries
    → find (λ entry. bytes_eq (name_of entry) first) entries ≡ None
none_named name_of first [] h = refl
none_named name_of first (entry ∷ entries) h = go (none_named name_of first entries h.1) (bytes_eq (name_of entry) first) refl
  where
    go : find (λ entry. bytes_eq (name_of entry) first) entries ≡ None → (t : Bool) → bytes_eq (name_of entry) first ≡ t
        → cond t (Some entry) (find (λ entry. bytes_eq (name_of entry) first) entries) ≡ None
    go rest true e = absurd (h.0 (sym ((bytes_eq-Decides (name_of entry) first).0 e)))
    go rest false e = rest

-- a word that begins no command of a table
pub none_by_table : {A : Type 0} (table : Table A) (first : List ℕ) (value : A) → AllByRecursion (λ entry. first ≡ entry.0 → ⊥) table → None ≡ by_table table first value
none_by_table table first value h = sym (ap (option_map (λ entry. entry.1 value)) (none_named (λ entry. entry.0) first table h))

pub none_by_reader : (readers : Readers) (first : List ℕ) (words : List (List ℕ)) → AllByRecursion (λ entry. first ≡ entry.0 → ⊥) readers → None ≡ by_reader readers first words
none_by_reader readers first words h = sym (ap (option_and_then (λ entry. entry.1 words)) (none_named (λ entry. entry.0) first readers h))
