use Rattle.lsp_words.proofs.Jumping.{references_jump, references_named}
use Rattle.lsp_words.proofs.mark_laws.references_have_the_name.Goals as goal

pub returns-clause-named : goal.returns-clause-named
returns-clause-named c = references_named

pub returns-clause-jumps : goal.returns-clause-jumps
returns-clause-jumps c = references_jump
