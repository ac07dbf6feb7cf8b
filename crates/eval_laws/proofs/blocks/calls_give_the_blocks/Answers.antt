use Rattle.eval_laws.proofs.CallLemmas.{give_runs, give_all, ends_too_long}
use Rattle.eval_laws.proofs.blocks.calls_give_the_blocks.Goals as goal

pub returns : goal.returns
returns c = record {
  takes = give_runs;
  end = give_all;
  too_long = λ calls now last piece line h f later. ends_too_long calls now piece later line h (f.0 later);
}
