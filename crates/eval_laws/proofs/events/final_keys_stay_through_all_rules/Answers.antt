use Rattle.eval_laws.proofs.Keeping.{run_keeps}
use Rattle.eval_laws.proofs.events.final_keys_stay_through_all_rules.Goals as goal

pub returns : goal.returns
returns c = run_keeps
