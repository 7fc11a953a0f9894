use Rattle.std.proofs.Common.{◌++◌, ℕ, refl, ap, ◌∙◌}
use Rattle.std.specs.Prelude.{string_bytes, encode_utf8}
use Rattle.sheet_progress.specs.Names.{letter, raised}
use Rattle.sheet_progress.specs.declared.letters.Letters.TheVariants.{AsWritten}
use Rattle.sheet_progress.proofs.Mapped.{first_and_rest}
use Rattle.sheet_progress.proofs.case.push_capital.Goals as goal

pub returns : goal.returns
returns c =
    let pushed = c.in_ok-push.ensures.bytes ∙ ap (λ (x : ℕ). string_bytes c.args.out.now ++ encode_utf8 x) c.raised.ensures in
    first_and_rest (letter AsWritten) (λ x. refl) _ _ _ c.args.rest.now (raised c.args.c) pushed c.in_ok-push_letters.ensures
