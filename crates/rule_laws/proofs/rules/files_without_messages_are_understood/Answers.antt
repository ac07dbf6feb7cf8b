use Rattle.rule_laws.proofs.Understanding.{understood}
use Rattle.rule_laws.proofs.rules.files_without_messages_are_understood.Goals as goal

pub returns : goal.returns
returns c = understood
