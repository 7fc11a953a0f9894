-- Parts written one after the other.
use Rattle.std.proofs.Common.{append-nil, append_assoc}

pub ruleset pieces = (append_assoc, append-nil)
