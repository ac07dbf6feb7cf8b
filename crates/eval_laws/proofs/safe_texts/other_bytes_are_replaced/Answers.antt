use Rattle.text_bytes.proofs.LinkPlaces.{length-safe}
use Rattle.eval_laws.proofs.SafeBytes.{bytes_made_safe}
use Rattle.eval_laws.proofs.safe_texts.other_bytes_are_replaced.Goals as goal

pub returns-clause-as_long : goal.returns-clause-as_long
returns-clause-as_long c = length-safe

pub returns-clause-bytes : goal.returns-clause-bytes
returns-clause-bytes c = bytes_made_safe
