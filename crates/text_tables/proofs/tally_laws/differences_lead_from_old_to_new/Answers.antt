use Rattle.text_tables.proofs.Counting.{fewer, led}
use Rattle.text_tables.proofs.tally_laws.differences_lead_from_old_to_new.Goals as goal

pub returns-clause-taken : goal.returns-clause-taken
returns-clause-taken c = fewer

pub returns-clause-put : goal.returns-clause-put
returns-clause-put c = led
