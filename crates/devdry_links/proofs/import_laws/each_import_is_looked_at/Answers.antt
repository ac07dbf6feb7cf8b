use Rattle.devdry_links.proofs.EachImport.{each_is_named}
use Rattle.devdry_links.proofs.import_laws.each_import_is_looked_at.Goals as goal

pub returns : goal.returns
returns c = each_is_named
