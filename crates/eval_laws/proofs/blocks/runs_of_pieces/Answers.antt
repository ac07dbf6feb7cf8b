use Rattle.device_core.proofs.Law.{complete_runs-append, rest_of-append, runs-append}
use Rattle.eval_laws.proofs.blocks.runs_of_pieces.Goals as goal

pub returns : goal.returns
returns c = record { complete = complete_runs-append; rest = rest_of-append; all = runs-append }
