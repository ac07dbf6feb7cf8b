use Rattle.text_tables.proofs.Found.{among_removed}
use Rattle.text_tables.proofs.laws.removed_texts_are_gone.Goals as goal

pub returns : goal.returns
returns c = among_removed
