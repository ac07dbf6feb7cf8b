-- The rules of files, and the messages about them.
use Rattle.std.specs.Prelude.{ℕ, if◌then◌else◌, List, [], ◌∷◌, ◌++◌, map, zip, filter_map, flat_map, Option, Some, None, option_map, Result, Ok, Err}
use Rattle.text_bytes.specs.Text.{Text}
use Rattle.file_messages.specs.declared.message.Message.{Message}
use Rattle.file_messages.specs.declared.message.MessageKind.{MessageKind}
use Rattle.file_messages.specs.declared.message.MessageKind.TheVariants.{NoLaterLabel, OpenAtEnd, LabelUnused, FileAbandoned}
use Rattle.text_bytes.specs.declared.profile.Profile.{Profile}
use Rattle.text_bytes.specs.declared.profile.Profile.TheVariants.{Manual}
use Rattle.text_bytes.specs.declared.source_file.SourceFile.{SourceFile}
use Rattle.rule_core.specs.Ends.{abandoned}
use Rattle.rule_core.specs.Lines.{NumberedLine, joined_lines}
use Rattle.rule_types.specs.Rules.{Rule}
use Rattle.rule_core.specs.Drafts.{Draft, acts_of, draft_of, plain_in, result_in, sets_of, up_in}
use Rattle.rule_types.specs.Spots.{spot}
use Rattle.rule_types.specs.Tokens.{parts_in}
use Rattle.rule_core.specs.declared.names.NamePlace.{NamePlace}
use Rattle.rule_types.specs.declared.spot.Spot.{Spot}
use Rattle.text_bytes.specs.Texts.{word_of}
use Rattle.rule_types.specs.Jumps.{Names, landings}
use Rattle.rule_types.specs.declared.jumps.Landing.{Landing}

-- the rules of files, and the messages about them
pub record ReadRules : Type 0 where
  pub rules : List Rule
  pub messages : List Message

-- a joined line, read as a rule
pub record Reading : Type 0 where
  pub line : ℕ
  pub text : Text
  pub read : Result Draft (Spot MessageKind)

-- a joined line, read as a rule
abbrev pub reading_of : Profile → NumberedLine → Reading
reading_of profile l = record { line = l.number; text = l.text; read = draft_of profile l.text }

-- the joined lines of a file, read as rules
abbrev pub readings_of : Profile → SourceFile → List Reading
readings_of profile file = map (reading_of profile) (joined_lines profile file.bytes).lines

-- a name, if there is one, without its place
abbrev pub name_of : Option NamePlace → Option Text
name_of given = option_map (λ n. n.name) given

-- the names for jumps of a line; one that is not a rule has none
abbrev pub names_of : Result Draft (Spot MessageKind) → Names
names_of (Ok d) = record { label = name_of d.label; goto = name_of d.goto }
names_of (Err wrong) = record { label = None; goto = None }

-- lines with what becomes of their jumps
abbrev pub landed : List Reading → List (Reading × Landing)
landed readings = zip readings (landings (map (λ r. names_of r.read) readings))

-- a name at its value, empty if there is none
abbrev pub name_spot : MessageKind → Option NamePlace → Spot MessageKind
name_spot kind None = spot kind [] 0 0
name_spot kind (Some n) = spot kind n.name n.start n.size

-- the findings about a rule: first about its jump, and about its label last
abbrev pub findings_of : Draft → Landing → List (Spot MessageKind)
findings_of d l =
    (if l.lost then name_spot NoLaterLabel d.goto ∷ [] else [])
    ++ (d.findings
    ++ (if l.unused then name_spot LabelUnused d.label ∷ [] else []))

-- the findings about a line
abbrev pub line_findings : Result Draft (Spot MessageKind) → Landing → List (Spot MessageKind)
line_findings (Ok d) l = findings_of d l
line_findings (Err wrong) l = wrong ∷ []

-- what is found, reported for a line of a file with what a message keeps of a text
abbrev pub message : Text → ℕ → MessageKind → Text → Message
message name line kind text = record { file = name; line = line; kind = kind; word = word_of text }

-- a finding about a line of a file, as a message: without its place
abbrev pub message_at : Text → ℕ → Spot MessageKind → Message
message_at name line found = message name line found.kind found.word

-- the messages about a line
abbrev pub line_messages : Text → ℕ → Result Draft (Spot MessageKind) → Landing → List Message
line_messages name line read l = map (message_at name line) (line_findings read l)

-- a rule, its jump dropped if no later rule has the label
abbrev pub rule_at : Profile → Text → ℕ → Draft → Landing → Rule
rule_at profile name line d l = record {
  file = name;
  line = line;
  label = name_of d.label;
  goto = if l.lost then None else name_of d.goto;
  plain = filter_map plain_in (parts_in d.parts);
  up = filter_map up_in (parts_in d.parts);
  acts = acts_of (parts_in d.parts);
  results = filter_map result_in (parts_in d.parts);
  sets = sets_of profile (parts_in d.parts);
}

-- the rule of a line, if it is one
abbrev pub line_rules : Profile → Text → ℕ → Result Draft (Spot MessageKind) → Landing → List Rule
line_rules profile name line (Ok d) l = rule_at profile name line d l ∷ []
line_rules profile name line (Err wrong) l = []

-- the message about a line that is still open at its file's end
abbrev pub open_messages : Text → Option ℕ → List Message
open_messages name None = []
open_messages name (Some line) = message name line OpenAtEnd [] ∷ []

-- the rules of a file in order, none if it is given up because of a line
abbrev pub rules_unless : Profile → SourceFile → Option ℕ → List Rule
rules_unless profile f (Some line) = []
rules_unless profile f None = flat_map (λ x. line_rules profile f.name x.0.line x.0.read x.1) (landed (readings_of profile f))

-- the rules of a file, in order
abbrev pub file_rules : Profile → SourceFile → List Rule
file_rules profile f = rules_unless profile f (abandoned profile f.bytes)

-- the messages about a file by line, only one if it is given up because of a line
abbrev pub messages_unless : Profile → SourceFile → Option ℕ → List Message
messages_unless profile f (Some line) = message f.name line FileAbandoned [] ∷ []
messages_unless profile f None =
    flat_map (λ x. line_messages f.name x.0.line x.0.read x.1) (landed (readings_of profile f))
    ++ open_messages f.name (joined_lines profile f.bytes).open_at

-- the messages about a file, by line
abbrev pub file_messages : Profile → SourceFile → List Message
file_messages profile f = messages_unless profile f (abandoned profile f.bytes)

-- the rules of files, and the messages about them
unfoldable pub set_of_as : Profile → List SourceFile → ReadRules
set_of_as profile files = record { rules = flat_map (file_rules profile) files; messages = flat_map (file_messages profile) files }

-- the same by the manual
abbrev pub set_of : List SourceFile → ReadRules
set_of files = set_of_as Manual files
