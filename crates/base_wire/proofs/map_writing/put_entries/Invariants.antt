use Rattle.std.proofs.Common.{◌≡◌, ◌++◌}
use Rattle.std.specs.List.{flat_map, AllByRecursion}
use Rattle.base_wire.specs.Encoding.{encode_both}
use Rattle.base_wire.specs.laws.MapFits.{Carried}
use Rattle.base_wire.proofs.map_writing.put_entries.Given as goal

-- what is written, and the entries that are left; and if bytes can carry those where they are known, they can carry all
abbrev pub invariant-loop-key : goal.invariant-loop-key
invariant-loop-key g l =
    (goal.iterator-loop-key g).can_next l.key-iterator ×
    (goal.iterator-loop-key g).is_finite l.key-iterator ×
    (l.out.items ++ flat_map (encode_both g.K.Part.encoding g.P.Part.encoding) l.key-iterator ≡ l.initial.out.items ++ flat_map (encode_both g.K.Part.encoding g.P.Part.encoding) l.initial.key-iterator) ×
    (AllByRecursion (Carried g.K.Part.Known g.P.Part.Known g.K.Part.Fits g.P.Part.Fits) l.key-iterator → AllByRecursion (Carried g.K.Part.Known g.P.Part.Known g.K.Part.Fits g.P.Part.Fits) l.fn.entries)
