-- The operator of a part of a rule, and what an operator counts as after a key.
use Rattle.rule_tokens.specs.declared.kinds.Operator.{Operator}
use Rattle.rule_tokens.specs.declared.kinds.Operator.TheVariants as op
use Rattle.rule_types.specs.Operators.{read_as}
use Rattle.rule_types.specs.declared.keys.Key.{Key}
use Rattle.rule_types.specs.declared.keys.Key.TheVariants as key
use Rattle.rule_types.specs.declared.part.Part.{Part}
use Rattle.rule_types.specs.declared.part.Part.TheVariants as part
use Rattle.rule_types.specs.declared.roles.AssignOperator.{AssignOperator}
use Rattle.rule_types.specs.declared.roles.AssignOperator.TheVariants.{Assign, Add, Remove, AssignFinal}
use Rattle.rule_types.specs.declared.roles.MatchOperator.{MatchOperator}
use Rattle.rule_types.specs.declared.roles.MatchOperator.TheVariants.{Equal, NotEqual}

-- the operator of a match
abbrev pub of_match : MatchOperator → Operator
of_match Equal = op.Equal
of_match NotEqual = op.NotEqual

-- the operator of an assignment
abbrev pub of_assignment : AssignOperator → Operator
of_assignment Assign = op.Assign
of_assignment Add = op.Add
of_assignment Remove = op.Remove
of_assignment AssignFinal = op.AssignFinal

-- the operator of a part; a label and a jump are assigned
abbrev pub operator_of : Part → Operator
operator_of (part.Plain match) = of_match match.wanted.operator
operator_of (part.Up match) = of_match match.wanted.operator
operator_of (part.Act act) = of_match act.operator
operator_of (part.Result comparison) = of_match comparison.operator
operator_of (part.Set assignment) = of_assignment assignment.operator
operator_of (part.Label name) = op.Assign
operator_of (part.Goto name) = op.Assign

-- `!=`, and for each other operator `==`
abbrev pub compared_as : Operator → Operator
compared_as op.NotEqual = op.NotEqual
compared_as o = op.Equal

-- what an operator counts as after a key: PROGRAM and IMPORT only compare, and other keys may read it as `=`
abbrev pub counted_as : Key → Operator → Operator
counted_as key.Program o = compared_as o
counted_as key.Import o = compared_as o
counted_as k o = read_as k o
