use Rattle.std.proofs.Common.{rules}
use Rattle.rule_remarks.specs.Known.{key_of}
use Rattle.rule_remarks.proofs.known.key_of.Goals as goal

pub returns : goal.returns
unfolding key_of
returns c = search rules
