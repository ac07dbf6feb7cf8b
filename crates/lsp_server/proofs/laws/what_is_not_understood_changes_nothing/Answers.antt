use Rattle.std.proofs.Common.{ap, refl}
use Rattle.lsp_server.specs.Contents.{step, step_by}
use Rattle.lsp_server.proofs.laws.what_is_not_understood_changes_nothing.Goals as goal

pub returns-clause-no_frame : goal.returns-clause-no_frame
unfolding step
returns-clause-no_frame c server = refl

pub returns-clause-too_long : goal.returns-clause-too_long
unfolding step
returns-clause-too_long c server = refl

pub returns-clause-no_json : goal.returns-clause-no_json
unfolding step
returns-clause-no_json c server content none = ap (step_by server) none
