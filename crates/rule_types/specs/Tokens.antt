-- The tokens of a rule, as they are read.
use Rattle.std.specs.Prelude.{Bool, true, false, List, map}
use Rattle.rule_tokens.specs.Grammar.{Placed}
use Rattle.rule_tokens.specs.declared.kinds.Operator.{Operator}
use Rattle.rule_tokens.specs.declared.kinds.Operator.TheVariants as op
use Rattle.rule_types.specs.declared.part.Part.{Part}

-- a token of a rule with the part of the rule that it is
pub record WrittenPart : Type 0 where
  pub token : Placed
  pub part : Part

-- tokens without their parts, and parts without their tokens
abbrev pub tokens_in : List WrittenPart → List Placed
tokens_in parts = map (λ w. w.token) parts

abbrev pub parts_in : List WrittenPart → List Part
parts_in parts = map (λ w. w.part) parts

-- whether two operators are the same
abbrev pub same_operator : Operator → Operator → Bool
same_operator op.Equal op.Equal = true
same_operator op.NotEqual op.NotEqual = true
same_operator op.Add op.Add = true
same_operator op.Remove op.Remove = true
same_operator op.AssignFinal op.AssignFinal = true
same_operator op.Assign op.Assign = true
same_operator _ _ = false
