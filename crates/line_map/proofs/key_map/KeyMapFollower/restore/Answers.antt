use Rattle.std.proofs.Common.{ap, sym, ◌∙◌}
use Rattle.std.proofs.lemmas.Result.{IfOk-weaker}
use Rattle.line_map.proofs.key_map.KeyMapFollower.restore.Goals as goal

pub returns-clause-value : goal.returns-clause-value
returns-clause-value g c = IfOk-weaker c.restored_map.result _ _
    (λ output is. sym (g.K.MapKey.model_seen output) ∙ ap g.K.MapKey.model is) c.restored_map.ensures.map
