-- What is given with a text that is assigned.
use Rattle.text_bytes.specs.Text.{Text}
use Rattle.rule_types.specs.declared.roles.AssignOperator.{AssignOperator}
use Rattle.rule_types.specs.declared.roles.Target.{Target}
use Rattle.rule_types.specs.Rules.{Rule}
use Rattle.eval_assignments.specs.declared.escapes.Escape.{Escape}

-- The rule, how it treats bytes of links and names, the operator, what the text is assigned to, and the text as it is
-- written.
pub record Given : Type 0 where
  pub rule : Rule
  pub escape : Escape
  pub operator : AssignOperator
  pub target : Target
  pub written : Text
