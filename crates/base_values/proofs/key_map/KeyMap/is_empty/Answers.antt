use Rattle.base_values.proofs.Seen.{empty-seen}
use Rattle.base_values.proofs.key_map.KeyMap.is_empty.Goals as goal

pub returns : goal.returns
returns g c = empty-seen (g.K.MapKey.seen c.args.self.now) c.len.result c.len.ensures.count
