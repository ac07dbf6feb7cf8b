use Rattle.hwdb_core.proofs.FormLaw.{form_met}
use Rattle.hwdb_core.proofs.laws.reported_matches_fit_no_modalias.Goals as goal

pub returns : goal.returns
returns c form text modalias items e f o = form_met form text modalias items e f o
