-- Notes: what rules asked for that a dry run does not do.
use Rattle.std.specs.Prelude.{codes, take, [], ◌∷◌, ◌++◌, Option, Some, None}
use Rattle.text_bytes.specs.Names.{open_brace, close_brace}
use Rattle.text_bytes.specs.Text.{Text}
use Rattle.text_bytes.specs.Texts.{word_of}
use Rattle.rule_types.specs.Names.{key_name}
use Rattle.rule_types.specs.declared.keys.Key.{Key}
use Rattle.rule_types.specs.Rules.{Rule}
use Rattle.eval_state.specs.declared.note_kind.NoteKind.{NoteKind}
use Rattle.eval_state.specs.declared.note_kind.NoteKind.TheVariants.{ImportNotRun, BuiltinNotRun, BadHwdbArguments, NoAnswer, TestNotMade, SysctlNotRead}
use Rattle.eval_state.specs.declared.note_kind.NoteKind.TheVariants.{TextTooLong, NameIgnored, NoDeviceNumber, NoValue, LinkIgnored, ModeIgnored}
use Rattle.eval_state.specs.declared.note_kind.NoteKind.TheVariants.{TagIgnored, AttributeNotRead, AttributeNotFound, AttributesNotGiven, BuiltinNeeds, ConstantNotGiven}
use Rattle.eval_state.specs.declared.notes.Note.{Note}

-- the text of each kind of note
abbrev pub text_of : NoteKind → Text
text_of ImportNotRun = codes "import not run"
text_of BuiltinNotRun = codes "builtin not run"
text_of BadHwdbArguments = codes "bad hwdb arguments"
text_of NoAnswer = codes "no answer for program"
text_of TestNotMade = codes "test not made"
text_of SysctlNotRead = codes "sysctl not read"
text_of TextTooLong = codes "text too long"
text_of NameIgnored = codes "name ignored"
text_of NoDeviceNumber = codes "no device number"
text_of NoValue = codes "no value"
text_of LinkIgnored = codes "link ignored"
text_of ModeIgnored = codes "mode ignored"
text_of TagIgnored = codes "tag ignored"
text_of AttributeNotRead = codes "attribute not read"
text_of AttributeNotFound = codes "attribute not found"
text_of BuiltinNeeds = codes "builtin needs"
text_of ConstantNotGiven = codes "constant not given"
text_of AttributesNotGiven = codes "attributes not given"

-- what a note keeps of a text: the first 256 bytes of what a builtin needs, which may be several names, else the first 32
abbrev pub kept_word : NoteKind → Text → Text
kept_word BuiltinNeeds text = take 256 text
kept_word kind text = word_of text

-- the note that something in a rule was not done: the rule's file and line, and what is kept of a text
abbrev pub note_about : Rule → NoteKind → Text → Note
note_about r kind text = record { file = r.file; line = r.line; kind = kind; word = kept_word kind text }

-- a key as a note names it: with its attribute in braces, if it has one
abbrev pub word_of_key : Key → Option Text → Text
word_of_key key None = key_name key
word_of_key key (Some attribute) = key_name key ++ open_brace ∷ (attribute ++ close_brace ∷ [])
