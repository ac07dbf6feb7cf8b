use Rattle.eval_laws.proofs.Stages.{from_then_on}
use Rattle.eval_laws.proofs.sources.an_item_comes_from_the_stage_since_which_it_is_there.Goals as goal

pub returns : goal.returns
returns c before later last stage item = from_then_on item before later last stage
