use Rattle.std.proofs.Common.{refl}
use Rattle.lsp_server.specs.Beginning.{begun}
use Rattle.lsp_server.proofs.laws.what_is_asked_is_answered.Goals as goal

pub returns-clause-begins : goal.returns-clause-begins
unfolding begun
returns-clause-begins c server id params settings fresh asked = rw (fresh, asked) refl

pub returns-clause-answers : goal.returns-clause-answers
returns-clause-answers c server id method params query running first last is = rw (running, first, last, is) refl
