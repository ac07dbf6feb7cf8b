-- A rule, and how many tokens are left in it.
use Rattle.std.specs.Prelude.{ℕ, ◌+◌, if◌then◌else◌, is_some, List, length, sum_by, Option}
use Rattle.text_bytes.specs.Text.{Text}
use Rattle.rule_types.specs.declared.part.Act.{Act}
use Rattle.rule_types.specs.declared.part.Assignment.{Assignment}
use Rattle.rule_types.specs.declared.part.Comparison.{Comparison}
use Rattle.rule_types.specs.declared.part.PlainMatch.{PlainMatch}
use Rattle.rule_types.specs.declared.part.UpMatch.{UpMatch}

-- a rule: its file and line, its names for jumps, and its parts in the order of evaluation
pub record Rule : Type 0 where
  pub file : Text
  pub line : ℕ
  pub label : Option Text
  pub goto : Option Text
  pub plain : List PlainMatch
  pub up : List UpMatch
  pub acts : List Act
  pub results : List Comparison
  pub sets : List Assignment

-- 1 for a name, 0 for none
abbrev pub name_count : Option Text → ℕ
name_count name = if is_some name then 1 else 0

-- how many tokens are left in a rule
unfoldable pub rule_tokens : Rule → ℕ
rule_tokens r = name_count r.label + (name_count r.goto + (length r.plain + (length r.up + (length r.acts + (length r.results + length r.sets)))))

-- how many tokens are left in rules
abbrev pub tokens_in : List Rule → ℕ
tokens_in rules = sum_by rule_tokens rules
