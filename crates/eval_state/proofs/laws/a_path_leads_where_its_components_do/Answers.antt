use Rattle.eval_state.proofs.Leading.{leads_back, stays_there}
use Rattle.eval_state.proofs.laws.a_path_leads_where_its_components_do.Goals as goal

pub returns : goal.returns
returns c = record { stays = stays_there; back = leads_back }
