use Rattle.eval_laws.proofs.EngineLines.{commands_around}
use Rattle.std.proofs.Common.{refl}
use Rattle.eval_laws.proofs.sources.each_command_comes_from_the_rule_of_its_run.Goals as goal

pub returns : goal.returns
returns c = record { kept = commands_around; made = λ run. refl }
