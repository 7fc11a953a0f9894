use Rattle.std.specs.Str.{chars}
use Rattle.base_tables.specs.Word.{doubled}
use Rattle.base_tables.proofs.Doubling.{quoted_bytes}
use Rattle.base_tables.proofs.quote.quoted.Goals as goal

pub returns : goal.returns
returns c =
    quoted_bytes _ _ _ _ (doubled 39 (chars c.args.name.now)) c.new-text.ensures.bytes c.in_ok-push.ensures.bytes c.in_ok-push_doubled.ensures c.in_ok-push-2.ensures.bytes
