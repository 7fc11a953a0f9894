use Rattle.std.proofs.Common.{◌≡◌}
use Rattle.std.specs.List.{fold}
use Rattle.std.specs.FinMap.{insert}
use Rattle.base_values.specs.KeyMap.{put_under}
use Rattle.base_values.proofs.key_map.KeyMap.put_under.Given as goal

-- what is left of the map, put into what was made, makes the whole
abbrev pub invariant-loop-key : goal.invariant-loop-key
invariant-loop-key g l =
    fold (λ so_far e. insert so_far (g.K.SheetKey.under l.fn.sheet e.0) e.1) (g.K.MapKey.seen l.self) l.key-iterator
    ≡ put_under g.K.SheetKey.under l.fn.sheet (g.K.Own.MapKey.seen l.fn.map) (g.K.MapKey.seen l.fn.self)
