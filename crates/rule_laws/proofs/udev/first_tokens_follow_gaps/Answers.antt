use Rattle.rule_laws.proofs.FirstPlaces.{is_first_place}
use Rattle.rule_laws.proofs.udev.first_tokens_follow_gaps.Goals as goal

pub returns : goal.returns
returns c = is_first_place
