use Rattle.std.proofs.Common.{◌≡◌, ◌++◌, sym, ap, ◌∙◌, map-id}
use Rattle.std.specs.Prelude.{string_bytes, encode_utf8_all}
use Rattle.std.specs.Str.{chars}
use Rattle.std.proofs.lemmas.Iterator.{YieldsList-from_chars}
use Rattle.std.proofs.lemmas.Iterator.Consumers.{YieldsList-end}
use Rattle.base_tables.specs.Word.{doubled}
use Rattle.base_tables.proofs.quote.push_doubled.Goals as goal

pub returns : goal.returns
returns c =
    let given = YieldsList-from_chars c.args.text.now c.utf8.text cc in
    let ended = YieldsList-end given c.loop-c.yielded _ c.loop-c.yielded_by _ _ c.in-None.is c.next.ensures.steps in
    let all : c.loop-c.yielded ≡ chars c.args.text.now = sym (map-id c.loop-c.yielded) ∙ ended.0 in
    c.loop-c.invariant ∙ ap (λ text. string_bytes c.args.out.now ++ encode_utf8_all (doubled c.args.quote text)) all
