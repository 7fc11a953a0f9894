use Rattle.std.proofs.Common.{ap, ◌∙◌, Ok, length}
use Rattle.std.specs.declared.alloc.AllocError.{AllocError}
use Rattle.std.specs.BTreeMap.{IsFromIterResult}
use Rattle.std.proofs.lemmas.Iterator.Adapters.{fact_from_collect, YieldsList-from_vec}
use Rattle.base_values.proofs.Seen.{model-seen, inside-model}
use Rattle.base_values.proofs.key_map.KeyMap.of_entries.Given.{Over}
use Rattle.base_values.proofs.key_map.KeyMap.of_entries.Goals as goal

gathered : (g : Over) (c : goal.In_ok-map g) → IsFromIterResult g.K.Key.Ord.cmp c.args.entries c.in_ok-map.map
gathered g c =
    fact_from_collect {E = AllocError} (IsFromIterResult g.K.Key.Ord.cmp) (Ok c.in_ok-map.map) c.in_ok-map.ensures.ran
    (YieldsList-from_vec c.args.entries (c.into_iter.ensures.rest ∙ c.into_vec.ensures) (c.into_iter.ensures.len ∙ c.into_vec.result.ok.0 ∙ ap length c.into_vec.ensures))

pub invariant_of-result : goal.invariant_of-result
invariant_of-result g c = inside-model g.met.K.MapKey.ordered g.met.K.Key.Ord.total g.met.K.Key.Exact.equals g.met.K.Key.Ord.matches_eq g.K.MapKey.model g.K.MapKey.seen g.K.MapKey.seen_model g.K.MapKey.fits c.args.entries c.in_ok-map.map (gathered g c) c.requires.inside

pub returns-clause-map : goal.returns-clause-map
returns-clause-map g c = model-seen g.met.K.MapKey.ordered g.met.K.Key.Ord.total g.met.K.Key.Exact.equals g.met.K.Key.Ord.matches_eq g.K.MapKey.model g.K.MapKey.seen g.K.MapKey.seen_model g.K.MapKey.fits c.args.entries c.in_ok-map.map (gathered g c)
