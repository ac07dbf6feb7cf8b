use Rattle.text_core.specs.Choices.{choice_blind}
use Rattle.text_core.proofs.choice.Choice.read_blind.Goals as goal

pub returns-clause-value : goal.returns-clause-value
unfolding choice_blind
returns-clause-value c = c.read_by.ensures.value
