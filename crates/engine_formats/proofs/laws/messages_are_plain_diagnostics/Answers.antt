use Rattle.engine_formats.proofs.SameLines.{same_lines}
use Rattle.engine_formats.proofs.laws.messages_are_plain_diagnostics.Goals as goal

pub returns : goal.returns
returns c messages diagnostics made = same_lines messages diagnostics made
