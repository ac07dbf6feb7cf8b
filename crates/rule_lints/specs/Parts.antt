-- What the lints look at in a part of a rule.
use Rattle.std.specs.Prelude.{Bool, true, false, Option, Some, None}
use Rattle.rule_types.specs.declared.part.Change.{Change}
use Rattle.rule_types.specs.declared.part.Comparison.{Comparison}
use Rattle.rule_types.specs.declared.part.Part.{Part}
use Rattle.rule_types.specs.declared.part.Part.TheVariants as part
use Rattle.rule_types.specs.declared.roles.MatchOperator.{MatchOperator}
use Rattle.rule_types.specs.declared.roles.MatchOperator.TheVariants as op

-- what a part changes, if it is an assignment
abbrev pub change_of : Part → Option Change
change_of (part.Set a) = Some a.change
change_of _ = None

-- what a part compares with, if it is a match
abbrev pub comparison_of : Part → Option Comparison
comparison_of (part.Plain m) = Some m.wanted
comparison_of (part.Up m) = Some m.wanted
comparison_of (part.Result c) = Some c
comparison_of _ = None

-- whether an operator is `==`
abbrev pub is_equal : MatchOperator → Bool
is_equal op.Equal = true
is_equal op.NotEqual = false
