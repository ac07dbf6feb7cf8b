use Rattle.eval_laws.proofs.PrintedGiven.{line_gives}
use Rattle.eval_laws.proofs.PrintedReading.{bare_gives_none, comment_gives_none, given_read}
use Rattle.eval_laws.proofs.printed.a_written_property_is_read_back.Goals as goal

pub returns-clause-given : goal.returns-clause-given
returns-clause-given c = λ line property. (line_gives line property, given_read line property)

pub returns-clause-bare : goal.returns-clause-bare
returns-clause-bare c = bare_gives_none

pub returns-clause-comment : goal.returns-clause-comment
returns-clause-comment c = comment_gives_none
