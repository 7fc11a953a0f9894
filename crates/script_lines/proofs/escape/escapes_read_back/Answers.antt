use Rattle.script_lines.proofs.EscapeLaws.{unescaped-escaped, only_escaped}
use Rattle.script_lines.proofs.escape.escapes_read_back.Goals as goal

pub returns-clause-undone : goal.returns-clause-undone
returns-clause-undone c = unescaped-escaped

pub returns-clause-only : goal.returns-clause-only
returns-clause-only c = only_escaped
