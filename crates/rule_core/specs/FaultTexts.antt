-- What is said about rules files that give no rules.
use Rattle.std.specs.Prelude.{codes}
use Rattle.text_bytes.specs.Text.{Text}
use Rattle.rule_core.specs.declared.fault.RulesFault.{RulesFault}
use Rattle.rule_core.specs.declared.fault.RulesFault.TheVariants.{TooMany, Memory}

-- why files gave no rules, in words
abbrev pub fault_text : RulesFault → Text
fault_text TooMany = codes "too many tokens"
fault_text Memory = codes "out of memory"
