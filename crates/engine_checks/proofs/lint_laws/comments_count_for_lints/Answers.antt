use Rattle.engine_checks.proofs.LintsReported.{commented_lints}
use Rattle.engine_checks.proofs.lint_laws.comments_count_for_lints.Goals as goal

pub returns : goal.returns
returns c line file counts = commented_lints line file counts
