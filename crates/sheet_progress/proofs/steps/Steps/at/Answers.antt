use Rattle.std.proofs.Common.{◌≡◌, ap, ◌∙◌, arith}
use Rattle.std.proofs.lemmas.Int.{ints}
use Rattle.sheet_progress.specs.Steps.{Steps, number_at}
use Rattle.sheet_progress.proofs.Bounds.{number_is}
use Rattle.sheet_progress.proofs.steps.Steps.at.Goals as goal

pub overflow_add-result-2 : goal.overflow_add-result-2
overflow_add-result-2 c =
    let same : c.from.result ≡ c.args.index = let is = c.from.ensures in omega (arith, ints) in
    (number_is c.self.inside.last c.self.inside.step c.from.result c.args.index same c.self.invariant.0 c.self.invariant.1 c.requires.from c.requires.to).0

pub returns : goal.returns
returns c =
    let same : c.from.result ≡ c.args.index = let is = c.from.ensures in omega (arith, ints) in
    (number_is c.self.inside.last c.self.inside.step c.from.result c.args.index same c.self.invariant.0 c.self.invariant.1 c.requires.from c.requires.to).1
    ∙ ap (λ (s : Steps). number_at s c.args.index) c.self.view_is
