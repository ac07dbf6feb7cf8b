use Rattle.eval_laws.proofs.EngineLines.{lines_alone}
use Rattle.eval_laws.proofs.sources.without_their_sources_the_lines_are_the_answer.Goals as goal

pub returns : goal.returns
returns c = lines_alone
