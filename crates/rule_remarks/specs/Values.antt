-- What is wrong with the value of a token of a rule that stays.
use Rattle.std.specs.Prelude.{if◌then◌else◌, Option, Some, None, codes, ◌||◌}
use Rattle.text_bytes.specs.Text.{Text}
use Rattle.text_bytes.specs.Texts.{is_empty}
use Rattle.file_messages.specs.declared.message.MessageKind.{MessageKind}
use Rattle.file_messages.specs.declared.message.MessageKind.TheVariants.{BadSubstitution, BadValue, EmptyValue, OldSubsystemName, UnknownAccount}
use Rattle.text_tables.specs.Texts.{same_text}
use Rattle.rule_tokens.specs.TemplateReading.{is_faulty}
use Rattle.rule_tokens.specs.Grammar.{compares}
use Rattle.rule_tokens.specs.declared.kinds.Operator.{Operator}
use Rattle.rule_types.specs.declared.keys.Key.{Key}
use Rattle.rule_types.specs.declared.keys.Key.TheVariants as key
use Rattle.rule_parts.specs.Options.{is_known_option}
use Rattle.rule_remarks.specs.Accounts.{Accounts, given_in}
use Rattle.rule_remarks.specs.declared.accounts.AccountKind.TheVariants.{User, Group}
use Rattle.rule_remarks.specs.declared.accounts.Given.{Given}
use Rattle.rule_remarks.specs.declared.accounts.Given.TheVariants as given

-- what is wrong with a text in which substitutions may be
abbrev pub text_fault : Text → Option MessageKind
text_fault text = if is_faulty text then Some BadSubstitution else None

-- the same for a text that must not be empty
abbrev pub filled_fault : Text → Option MessageKind
filled_fault text = if is_empty text then Some EmptyValue else text_fault text

-- what is wrong with a value of OWNER or GROUP that gives this
abbrev pub given_fault : Given → Text → Option MessageKind
given_fault (given.Number n) text = None
given_fault given.Unknown text = Some UnknownAccount
given_fault given.Text text = filled_fault text

-- what is wrong with what a key is compared with; substitutions are not looked for in matches, and `bus` and `class` are old names of `subsystem`
abbrev pub compared_fault : Key → Text → Option MessageKind
compared_fault key.Subsystem text = if same_text text (codes "bus") || same_text text (codes "class") then Some OldSubsystemName else None
compared_fault key.Test text = filled_fault text
compared_fault key.Program text = filled_fault text
compared_fault key.Import text = filled_fault text
compared_fault _ text = None

-- what is wrong with what is assigned to a key; the names of LABEL and GOTO have no substitutions
abbrev pub assigned_fault : Accounts → Key → Text → Option MessageKind
assigned_fault accounts key.Name text = text_fault text
assigned_fault accounts key.Symlink text = text_fault text
assigned_fault accounts key.Env text = text_fault text
assigned_fault accounts key.Attr text = text_fault text
assigned_fault accounts key.Sysctl text = text_fault text
assigned_fault accounts key.Tag text = filled_fault text
assigned_fault accounts key.Seclabel text = filled_fault text
assigned_fault accounts key.Mode text = filled_fault text
assigned_fault accounts key.Run text = filled_fault text
assigned_fault accounts key.Program text = filled_fault text
assigned_fault accounts key.Import text = filled_fault text
assigned_fault accounts key.Owner text = given_fault (given_in accounts User text) text
assigned_fault accounts key.Group text = given_fault (given_in accounts Group text) text
assigned_fault accounts key.Options text = if is_known_option text then None else Some BadValue
assigned_fault accounts _ text = None

-- what is wrong with a value of a key after an operator
unfoldable pub value_fault : Accounts → Key → Operator → Text → Option MessageKind
value_fault accounts k o text = if compares o then compared_fault k text else assigned_fault accounts k text
