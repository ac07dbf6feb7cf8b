use Rattle.lsp_messages.proofs.Fits.{fits_few, fits_most}
use Rattle.lsp_messages.proofs.text_laws.most_that_fits.Goals as goal

pub returns-clause-within : goal.returns-clause-within
returns-clause-within c = fits_few

pub returns-clause-longest : goal.returns-clause-longest
returns-clause-longest c = fits_most
