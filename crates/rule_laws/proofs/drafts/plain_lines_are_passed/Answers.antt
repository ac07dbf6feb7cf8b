use Rattle.rule_laws.proofs.GapPlaces.{gaps_in_place}
use Rattle.rule_laws.proofs.Gaps.{plain_is_passed}
use Rattle.rule_laws.proofs.drafts.plain_lines_are_passed.Goals as goal

pub returns : goal.returns
returns c = λ line tokens e. plain_is_passed line tokens (gaps_in_place line tokens e)
