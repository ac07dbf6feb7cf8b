use Rattle.hwdb_core.proofs.Earlier.{record_keys}
use Rattle.hwdb_core.proofs.earlier_laws.earlier_keys_of_the_record_count.Goals as goal

pub returns : goal.returns
returns c = record_keys
