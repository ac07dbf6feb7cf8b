use Rattle.std.proofs.Common.{map}
use Rattle.engine_formats.specs.Diagnostics.{shown}
use Rattle.engine_checks.proofs.Silencing.{met}
use Rattle.engine_checks.proofs.met.Met.of.Goals as goal

pub returns : goal.returns
returns c = met c.in_ok-codes_in_file.field-0 c.in_ok-codes_at_lines.field-0 (map shown c.args.found.now) c.in_ok-codes_in_file.ensures c.in_ok-codes_at_lines.ensures
