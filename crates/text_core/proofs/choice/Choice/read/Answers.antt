use Rattle.text_core.specs.Choices.{choice}
use Rattle.text_core.proofs.choice.Choice.read.Goals as goal

pub returns-clause-value : goal.returns-clause-value
unfolding choice
returns-clause-value c = c.read_by.ensures.value
