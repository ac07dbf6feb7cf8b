use Rattle.rule_laws.proofs.Reporting.{messages_follow, messages_named, messages_rise}
use Rattle.rule_laws.proofs.sources.database_messages_are_in_order.Goals as goal

pub returns : goal.returns
returns c = record { files = messages_follow; rise = messages_rise; named = messages_named }
