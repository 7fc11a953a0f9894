use Rattle.sheet_wire.specs.TreesBytes.{encode_rename}
use Rattle.sheet_wire.proofs.Joined.{four_joined}
use Rattle.sheet_wire.proofs.encode_sheets.put_rename.Goals as goal

pub returns-clause-encoded : goal.returns-clause-encoded
unfolding encode_rename
returns-clause-encoded c =
    four_joined _ _ _ _ _ _ _ _ _ c.in_ok-put.ensures.encoded c.in_ok-put-2.ensures.encoded c.in_ok-put-3.ensures.encoded c.in_ok-put-4.ensures.encoded
