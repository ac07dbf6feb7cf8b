use Rattle.builtin_link.proofs.NewNames.{all_fine}
use Rattle.builtin_link.proofs.laws.new_names_may_be_names.Goals as goal

pub returns : goal.returns
returns c = λ event env settings name h. (all_fine event env settings).fine name h
