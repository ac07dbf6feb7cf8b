use Rattle.text_tables.proofs.Found.{among_added}
use Rattle.text_tables.proofs.laws.added_texts_are_there.Goals as goal

pub returns : goal.returns
returns c = among_added
