use Rattle.std.proofs.Common.{◌≡◌, ◌^◌, ◌++◌, List, ℤ, drop}
use Rattle.std.specs.List.{All}
use Rattle.std.specs.Option.{option_map}
use Rattle.sheet_progress.specs.Steps.{IsWithin}
use Rattle.sheet_progress.specs.Texts.{texts, each}
use Rattle.sheet_progress.proofs.reading.numbers.Given as goal

-- the numbers so far stand before those of the texts that are left
abbrev pub invariant-loop-value : goal.invariant-loop-value
invariant-loop-value g l = record {
  within : All (IsWithin (10 ^ 30)) l.numbers.items;
  same : (each (g.F.FindNumber.number_of l.find) (texts l.values) ≡ option_map (λ (rest : List ℤ). l.numbers.items ++ rest) (each (g.F.FindNumber.number_of l.find) (texts (drop l.value-index l.values))));
}
