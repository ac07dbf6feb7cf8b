use Rattle.std.proofs.Common.{sym, ◌∙◌}
use Rattle.text_tables.proofs.Tallying.{taken_none, taken_one}
use Rattle.text_tables.proofs.tallies.take_one.Goals as goal

pub returns-then-left-eq0-clause-left : goal.returns-then-left-eq0-clause-left
returns-then-left-eq0-clause-left c = taken_none c.args.tally.now c.args.line.now (sym c.left_of-left.ensures ∙ c.if-left-eq0.true)

pub returns-clause-left : goal.returns-clause-left
returns-clause-left c = taken_one c.args.tally.now c.add.new.self c.args.line.now c.left_of-left.result c.left_of-left.ensures c.in_ok-add.ensures.pairs
