use Rattle.eval_core.proofs.Heading.{fits_same_head}
use Rattle.eval_laws.proofs.sketches.texts_that_fit_have_the_first_byte.Goals as goal

pub returns : goal.returns
returns c = fits_same_head
