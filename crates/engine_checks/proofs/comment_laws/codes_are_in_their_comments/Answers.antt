use Rattle.engine_checks.proofs.Placement.{codes_in_place}
use Rattle.engine_checks.proofs.comment_laws.codes_are_in_their_comments.Goals as goal

pub returns : goal.returns
returns c by file few short = codes_in_place by file few short
