use Rattle.text_tables.proofs.Found.{text_after, text_there}
use Rattle.text_tables.proofs.laws.new_texts_come_last.Goals as goal

pub returns-clause-new : goal.returns-clause-new
returns-clause-new c = text_after

pub returns-clause-there : goal.returns-clause-there
returns-clause-there c = text_there
