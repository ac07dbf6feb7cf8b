use Rattle.rule_laws.proofs.Ordering.{messages_ordered}
use Rattle.rule_laws.proofs.rules.messages_are_in_order.Goals as goal

pub returns : goal.returns
returns c = messages_ordered
