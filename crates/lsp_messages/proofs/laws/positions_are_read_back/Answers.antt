use Rattle.lsp_messages.proofs.ReadBack.{position_back, range_back}
use Rattle.lsp_messages.proofs.laws.positions_are_read_back.Goals as goal

pub returns-clause-position : goal.returns-clause-position
returns-clause-position c = position_back

pub returns-clause-range : goal.returns-clause-range
returns-clause-range c = range_back
