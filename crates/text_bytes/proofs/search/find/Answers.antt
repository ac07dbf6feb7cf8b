use Rattle.memchr.specs.Find.{is_byte}
use Rattle.text_bytes.proofs.Finding.{position-from_first_byte}
use Rattle.text_bytes.proofs.search.find.Goals as goal

pub returns-clause-value : goal.returns-clause-value
returns-clause-value c = position-from_first_byte (is_byte c.args.byte) c.args.text.now c.memchr.result c.memchr.ensures
