use Rattle.lsp_words.proofs.Jumping.{goes_nowhere, nowhere_only}
use Rattle.lsp_words.proofs.mark_laws.jumps_without_a_label_go_nowhere.Goals as goal

pub returns-clause-without : goal.returns-clause-without
returns-clause-without c = goes_nowhere

pub returns-clause-only : goal.returns-clause-only
returns-clause-only c = nowhere_only
