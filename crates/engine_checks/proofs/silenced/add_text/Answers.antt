use Rattle.text_tables.proofs.Found.{among_added}
use Rattle.engine_checks.proofs.silenced.add_text.Goals as goal

pub returns : goal.returns
returns c other = rw c.in_ok-add.ensures.texts (among_added c.args.texts.now c.args.text.now other)
