use Rattle.eval_state.specs.Scenes.{start}
use Rattle.eval_laws.proofs.Stages.{from_no_rule}
use Rattle.eval_laws.proofs.sources.what_was_there_from_the_start_comes_from_no_rule.Goals as goal

pub returns : goal.returns
returns c rules known event item = from_no_rule known rules (start event) item
