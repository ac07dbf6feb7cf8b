-- What becomes of each joined line of a file, with its jump decided by the rules after it.
use Rattle.std.specs.Prelude.{◌≡◌, ◌↔◌, ℕ, List, [], ◌∷◌, ◌++◌, ⊤, map, flat_map, Any, Some, Ok, Err}
use Rattle.text_bytes.specs.Text.{Text}
use Rattle.file_messages.specs.declared.message.Message.{Message}
use Rattle.text_bytes.specs.declared.source_file.SourceFile.{SourceFile}
use Rattle.text_bytes.specs.declared.profile.Profile.{Profile}
use Rattle.file_messages.specs.declared.message.MessageKind.TheVariants.{FileAbandoned}
use Rattle.file_messages.specs.declared.message.MessageKind.{MessageKind}
use Rattle.rule_core.specs.Lines.{NumberedLine, joined_lines}
use Rattle.rule_types.specs.declared.spot.Spot.{Spot}
use Rattle.rule_core.specs.Drafts.{Draft, draft_of}
use Rattle.rule_types.specs.declared.jumps.Landing.{Landing}
use Rattle.rule_types.specs.Rules.{Rule}
use Rattle.rule_core.specs.Rules.{file_messages, file_rules, findings_of, message, message_at, name_of, open_messages, rule_at}

-- what becomes of a joined line: one rule and the messages about it, or no rule and one message
pub data LineOutcome : Type 0 where
  one_rule : Rule → List Message → LineOutcome
  one_message : Message → LineOutcome

-- the rule of a line, if it is one
abbrev pub rules_in : LineOutcome → List Rule
rules_in (one_rule r messages) = r ∷ []
rules_in (one_message m) = []

-- the messages about a line
abbrev pub messages_in : LineOutcome → List Message
messages_in (one_rule r messages) = messages
messages_in (one_message m) = m ∷ []

-- one of these rules has the label
abbrev pub HasLabel : Text → List Rule → Type 0
HasLabel name rules = Any (λ r. r.label ≡ Some name) rules

-- a line is read as a rule, which has its jump if and only if a rule after it has the label
pub record IsRule (profile : Profile) (file : Text) (l : NumberedLine) (r : Rule) (messages : List Message) (following : List Rule) : Type 0 where
  pub draft : Draft
  pub landing : Landing
  pub reads : draft_of profile l.text ≡ Ok draft
  pub is : r ≡ rule_at profile file l.number draft landing
  pub reported : messages ≡ map (message_at file l.number) (findings_of draft landing)
  pub jump : (name : Text) → (r.goto ≡ Some name) ↔ ((name_of draft.goto ≡ Some name) × HasLabel name following)

-- a line is not a rule, and the message says why
pub record IsNoRule (profile : Profile) (file : Text) (l : NumberedLine) (m : Message) : Type 0 where
  pub wrong : Spot MessageKind
  pub reads : draft_of profile l.text ≡ Err wrong
  pub is : m ≡ message_at file l.number wrong

-- this becomes of a line that is before these rules
abbrev pub Becomes : Profile → Text → NumberedLine → LineOutcome → List Rule → Type 0
Becomes profile file l (one_rule r messages) following = IsRule profile file l r messages following
Becomes profile file l (one_message m) following = IsNoRule profile file l m

-- these become of lines, line by line
abbrev pub AllBecome : Profile → Text → List NumberedLine → List LineOutcome → Type 0
AllBecome profile file [] [] = ⊤
AllBecome profile file [] (o ∷ outcomes) = ⊥
AllBecome profile file (l ∷ lines) [] = ⊥
AllBecome profile file (l ∷ lines) (o ∷ outcomes) = Becomes profile file l o (flat_map rules_in outcomes) × AllBecome profile file lines outcomes

-- The rules and messages of a file that is not given up are those of its joined lines: each is one rule, or no rule
-- and one message. What is still open at the end has a message of its own.
pub record IsReadByLine (profile : Profile) (f : SourceFile) : Type 0 where
  pub outcomes : List LineOutcome
  pub each : AllBecome profile f.name (joined_lines profile f.bytes).lines outcomes
  pub rules : file_rules profile f ≡ flat_map rules_in outcomes
  pub messages : file_messages profile f ≡ flat_map messages_in outcomes ++ open_messages f.name (joined_lines profile f.bytes).open_at

-- A file that is given up because of a line has no rule, and one message.
pub record IsAbandoned (profile : Profile) (f : SourceFile) (line : ℕ) : Type 0 where
  pub rules : file_rules profile f ≡ []
  pub messages : file_messages profile f ≡ message f.name line FileAbandoned [] ∷ []
