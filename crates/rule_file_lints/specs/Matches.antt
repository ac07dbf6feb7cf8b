-- Parts of rules that are matches.
use Rattle.std.specs.Prelude.{Bool, true, false, Option, None}
use Rattle.rule_types.specs.declared.part.Part.{Part}
use Rattle.rule_types.specs.declared.part.Part.TheVariants as part
use Rattle.rule_types.specs.declared.roles.MatchOperator.{MatchOperator}
use Rattle.rule_types.specs.declared.roles.MatchOperator.TheVariants.{Equal, NotEqual}

-- whether a part of a rule is a match of the event, of one device of the chain or of the result
abbrev pub is_match : Part → Bool
is_match (part.Plain m) = true
is_match (part.Up m) = true
is_match (part.Result c) = true
is_match _ = false

-- whether a rule may end at a part: it is a match, or something that is done while the rule is matched
abbrev pub may_end_at : Part → Bool
may_end_at (part.Act a) = true
may_end_at p = is_match p

-- what is compared, if the operator is `==`
abbrev pub by_equal : {X : Type 0} → MatchOperator → Option X → Option X
by_equal Equal x = x
by_equal NotEqual x = None
