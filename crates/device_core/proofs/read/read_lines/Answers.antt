use Rattle.std.proofs.Common.{sym, subst, ◌∙◌}
use Rattle.device_core.specs.Steps.{HaveNoNul}
use Rattle.device_core.proofs.NoNul.{none_in_lines}
use Rattle.device_core.proofs.Reading.{no_lines}
use Rattle.device_core.proofs.read.read_lines.Goals as goal

pub returns-then-is_empty : goal.returns-then-is_empty
returns-then-is_empty c = no_lines c.args.block.now (sym c.is_empty.ensures ∙ c.if-is_empty.true)

pub action_in-requires : goal.action_in-requires
action_in-requires c = λ e. (subst HaveNoNul c.first_line.ensures.value (none_in_lines c.args.block.now (sym c.has_nul-may_have_nul.ensures ∙ e))).0

pub read_rest-requires-clause-plain : goal.read_rest-requires-clause-plain
read_rest-requires-clause-plain c = λ e. (subst HaveNoNul c.first_line.ensures.value (none_in_lines c.args.block.now (sym c.has_nul-may_have_nul.ensures ∙ e))).1
