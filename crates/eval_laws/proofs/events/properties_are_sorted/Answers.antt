use Rattle.std.proofs.Common.{None}
use Rattle.eval_state.specs.Scenes.{start}
use Rattle.eval_rules.specs.Jumps.{run}
use Rattle.eval_rules.specs.Outcomes.{outcome_of}
use Rattle.text_tables.proofs.ByName.{by_name_rises}
use Rattle.eval_laws.proofs.events.properties_are_sorted.Goals as goal

pub returns : goal.returns
unfolding outcome_of
returns c = λ rules known event. by_name_rises (run known None rules (start event)).state.env
