use Rattle.eval_core.proofs.Sketching.{fits_same_sketch}
use Rattle.eval_laws.proofs.sketches.texts_that_fit_have_the_sketch.Goals as goal

pub returns : goal.returns
returns c = fits_same_sketch
