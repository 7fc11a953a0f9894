use Rattle.std.proofs.Common.{◌≡◌, subst}
use Rattle.std.specs.Prelude.{◌↔◌, IsTrue}
use Rattle.base_styles.specs.declared.Style.{Style}
use Rattle.range_styles.specs.laws.DefaultTest.{default_test}
use Rattle.range_styles.proofs.shown.is_default.Goals as goal

pub returns : goal.returns
returns c =
    default_test c.same.result c.args.style.now
    (subst (λ (plain : Style). IsTrue c.same.result ↔ (c.args.style.now ≡ plain)) c.shared.ensures c.same.ensures)
