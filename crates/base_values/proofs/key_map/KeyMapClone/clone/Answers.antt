use Rattle.std.proofs.Common.{ap, ◌∙◌}
use Rattle.std.specs.FinMap.{from_entries}
use Rattle.base_values.specs.laws.KeyMap.{IsInside-same}
use Rattle.base_values.proofs.Seen.{cloned}
use Rattle.base_values.proofs.key_map.KeyMapClone.clone.Goals as goal

pub invariant_of-result : goal.invariant_of-result
invariant_of-result g c =
    IsInside-same c.self.inside.map c.in_ok-clone.field-0 (cloned g.met.K.Key.Exact.copies g.met.V.Exact.copies _ _ c.in_ok-clone.ensures.cases) c.self.invariant

pub returns : goal.returns
returns g c = record {
  cases = ap (λ es. g.K.MapKey.model (from_entries es)) (cloned g.met.K.Key.Exact.copies g.met.V.Exact.copies c.self.inside.map.entries c.in_ok-clone.field-0.entries c.in_ok-clone.ensures.cases) ∙ c.self.view_is;
}
