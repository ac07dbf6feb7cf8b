use Rattle.std.proofs.Common.{sym}
use Rattle.rule_core.proofs.Cuts.{rest_without_cut}
use Rattle.rule_core.proofs.letters.after_byte.Goals as goal

pub returns-in-None : goal.returns-in-None
returns-in-None c = rest_without_cut c.args.byte c.args.text.now (sym c.in-None.ensures.value)
