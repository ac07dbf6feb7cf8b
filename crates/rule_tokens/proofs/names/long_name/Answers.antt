use Rattle.std.proofs.Common.{sym}
use Rattle.rule_tokens.specs.Names.{long_names, old_names}
use Rattle.rule_tokens.proofs.FirstPieces.{named_first}
use Rattle.rule_tokens.proofs.names.long_name.Goals as goal

pub returns-in-Some : goal.returns-in-Some
returns-in-Some c = rw c.in-Udev.is (sym (named_first old_names long_names c.args.text.now (c.in-Some.found.0, c.in-Some.found.1.now) (sym c.in-Some.ensures)))
