use Rattle.engine_checks.proofs.Silencing.{silencing}
use Rattle.engine_checks.proofs.silenced.Silenced.by.Goals as goal

pub returns : goal.returns
returns c = silencing c.in_ok-codes_in_file.field-0 c.in_ok-codes_at_lines.field-0 c.args.ignores.now c.in_ok-codes_in_file.ensures c.in_ok-codes_at_lines.ensures
