-- Serves proofs alone: what is given with a text that is assigned, part by part.
use Rattle.text_bytes.specs.Text.{Text}
use Rattle.rule_types.specs.declared.roles.AssignOperator.{AssignOperator}
use Rattle.rule_types.specs.declared.roles.Target.{Target}
use Rattle.rule_types.specs.Rules.{Rule}
use Rattle.eval_assignments.specs.Givens.{Given}
use Rattle.eval_assignments.specs.declared.escapes.Escape.{Escape}

-- these parts
abbrev pub given_by : Rule → Escape → AssignOperator → Target → Text → Given
given_by r e o about written = record { rule = r; escape = e; operator = o; target = about; written = written }
