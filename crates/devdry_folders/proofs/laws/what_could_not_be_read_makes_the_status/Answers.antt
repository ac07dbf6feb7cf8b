use Rattle.devdry_folders.proofs.HandedOn.{status_of_all}
use Rattle.devdry_folders.proofs.laws.what_could_not_be_read_makes_the_status.Goals as goal

pub returns : goal.returns
returns c = status_of_all
