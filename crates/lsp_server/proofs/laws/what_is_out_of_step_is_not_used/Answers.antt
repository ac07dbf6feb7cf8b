use Rattle.std.proofs.Common.{refl}
use Rattle.lsp_server.proofs.Lost.{asked_same}
use Rattle.lsp_server.proofs.laws.what_is_out_of_step_is_not_used.Goals as goal

pub returns-clause-told : goal.returns-clause-told
returns-clause-told c server params uri document running is none there = rw (running, is, none, there) refl

pub returns-clause-opened : goal.returns-clause-opened
returns-clause-opened c server params uri document running is none there = rw (running, is, none, there) refl

pub returns-clause-asked : goal.returns-clause-asked
returns-clause-asked c server uri id method params = asked_same server uri id server.phase method params

pub returns-clause-changed : goal.returns-clause-changed
returns-clause-changed c server params uri changes running is made parts there = rw (running, is, made, there, parts) refl
