use Rattle.file_catalogue.proofs.Each.{each_found, each_named}
use Rattle.file_catalogue.proofs.laws.each_remark_is_found.Goals as goal

pub returns-clause-found : goal.returns-clause-found
returns-clause-found c = each_found

pub returns-clause-named : goal.returns-clause-named
returns-clause-named c = each_named
