use Rattle.engine_courses.proofs.Own.{own_fates}
use Rattle.engine_courses.proofs.unused.laws.each_rule_is_counted_by_its_own_fates.Goals as goal

pub returns : goal.returns
returns c = own_fates
