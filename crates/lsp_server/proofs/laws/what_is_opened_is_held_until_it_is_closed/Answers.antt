use Rattle.std.proofs.Common.{refl}
use Rattle.lsp_server.proofs.laws.what_is_opened_is_held_until_it_is_closed.Goals as goal

pub returns-clause-opened : goal.returns-clause-opened
returns-clause-opened c server params opened running is held = rw (running, is, held) refl

pub returns-clause-changed : goal.returns-clause-changed
returns-clause-changed c server params uri changes document text running is made there known held = rw (running, is, made, there, known, held) refl

pub returns-clause-closed : goal.returns-clause-closed
returns-clause-closed c server params uri running is = rw (running, is) refl
