-- Serves inner proofs only: rules added to others, as long as not too many tokens are left in them.
use Rattle.std.specs.Prelude.{◌≡◌, ◌<◌, ◌≤◌, ◌^◌, ℕ, List, ◌++◌, Result, Ok, Err}
use Rattle.rule_types.specs.Rules.{Rule, tokens_in}
use Rattle.rule_core.specs.declared.fault.RulesFault.{RulesFault}
use Rattle.rule_core.specs.declared.fault.RulesFault.TheVariants.{TooMany, Memory}

-- rules with the number of the tokens that are left in them, which does not exceed the bound
pub record IsCounted (rules : List Rule) (tokens : ℕ) : Type 0 where
  pub counted : tokens ≡ tokens_in rules
  pub within : tokens ≤ 2 ^ 24

-- why rules were not added to others: with them too many tokens are left
abbrev pub FailsAt : List Rule → List Rule → RulesFault → Type 0
FailsAt before more TooMany = 2 ^ 24 < tokens_in (before ++ more)
FailsAt before more Memory = Unit {0}

-- rules were added to others, or were not, for a reason
abbrev pub Adds : {T : Type 0} → List Rule → List Rule → List Rule → Result T RulesFault → Type 0
Adds before now more (Ok _) = now ≡ before ++ more
Adds before now more (Err e) = FailsAt before more e
