use Rattle.engine_checks.proofs.Following.{all_about}
use Rattle.engine_checks.proofs.comment_laws.comments_are_about_what_follows.Goals as goal

pub returns : goal.returns
returns c by file = all_about by file
