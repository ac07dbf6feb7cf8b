-- The rules of a file: its lines that were read as rules.
use Rattle.std.specs.Prelude.{ℕ, ◌+◌, List, [], ◌∷◌, length, map, Option, Some, None, Result, Ok, Err}
use Rattle.text_bytes.specs.Text.{Text}
use Rattle.text_bytes.specs.declared.profile.Profile.{Profile}
use Rattle.file_messages.specs.declared.message.MessageKind.{MessageKind}
use Rattle.rule_types.specs.declared.jumps.Landing.{Landing}
use Rattle.rule_core.specs.Drafts.{Draft}
use Rattle.rule_core.specs.Ends.{abandoned}
use Rattle.rule_core.specs.Lines.{joined_lines}
use Rattle.rule_core.specs.Rules.{Reading, landed, reading_of}
use Rattle.rule_types.specs.declared.spot.Spot.{Spot}

-- a rule of a file: the number with which it is reported, how many bytes of joined lines come before it, what its line
-- says, and what becomes of its jump and of its label
pub record FileRule : Type 0 where
  pub number : ℕ
  pub start : ℕ
  pub draft : Draft
  pub landing : Landing

-- a line with a number after so many bytes of others, if it was read as a rule, before the rules that follow
abbrev pub rule_before : ℕ → ℕ → Result Draft (Spot MessageKind) → Landing → List FileRule → List FileRule
rule_before number start (Ok d) landing rules = record { number = number; start = start; draft = d; landing = landing } ∷ rules
rule_before number start (Err wrong) landing rules = rules

-- the rules among lines that follow so many bytes of others
abbrev pub rules_from : ℕ → List (Reading × Landing) → List FileRule
rules_from start [] = []
rules_from start (x ∷ lines) = rule_before x.0.line start x.0.read x.1 (rules_from (start + length x.0.text) lines)

-- the rules of a file, of which there are none if it is given up because of a line
abbrev pub rules_unless : Profile → Text → Option ℕ → List FileRule
rules_unless profile bytes None = rules_from 0 (landed (map (reading_of profile) (joined_lines profile bytes).lines))
rules_unless profile bytes (Some number) = []

-- the rules of a file with these bytes
abbrev pub file_rules : Profile → Text → List FileRule
file_rules profile bytes = rules_unless profile bytes (abandoned profile bytes)
