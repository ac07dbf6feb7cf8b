-- The value of a token, read as what its role asks for.
use Rattle.std.specs.Prelude.{Bool, true, false, if◌then◌else◌, List, [], ◌∷◌, Option, Some, None, Result, Ok, Err}
use Rattle.text_bytes.specs.Text.{Text}
use Rattle.text_bytes.specs.Texts.{word_of}
use Rattle.text_bytes.specs.declared.profile.Profile.{Profile}
use Rattle.text_bytes.specs.declared.profile.Profile.TheVariants.{Manual, Udev}
use Rattle.file_messages.specs.declared.message.MessageKind.{MessageKind}
use Rattle.file_messages.specs.declared.message.MessageKind.TheVariants.{BadValue, BadSubstitution, SetNotSupported}
use Rattle.text_core.specs.Choices.{choice, choice_blind}
use Rattle.text_core.specs.Fnmatch.{fnmatch_choice}
use Rattle.text_core.specs.declared.reading.Reading.{Reading}
use Rattle.text_core.specs.declared.reading.Reading.TheVariants.{Exact, Blind}
use Rattle.text_core.specs.declared.item.Item.{Item}
use Rattle.text_core.specs.declared.glob_fault.GlobFault.{GlobFault}
use Rattle.text_core.specs.declared.glob_fault.GlobFault.TheVariants as glob
use Rattle.rule_tokens.specs.TemplateReading as templates
use Rattle.rule_tokens.specs.Template.{Parts as Template}
use Rattle.rule_tokens.specs.declared.piece.Piece.{Piece}
use Rattle.rule_tokens.specs.declared.fault.TemplateFault.{TemplateFault}
use Rattle.rule_parts.specs.Options.{option_of}
use Rattle.rule_parts.specs.declared.finding.Finding.{Finding}
use Rattle.rule_types.specs.declared.rule_option.RuleOption.{RuleOption}

-- what is wrong, reported with what a message keeps of a text
abbrev pub finding : MessageKind → Text → Finding
finding kind text = record { kind = kind; word = word_of text }

-- what is wrong with a value that is not a choice of patterns
abbrev pub choice_fault : GlobFault → MessageKind
choice_fault (glob.Class at) = SetNotSupported
choice_fault _ = BadValue

-- patterns, or what is wrong with them
abbrev pub as_choice : Text → Result (List (List Item)) GlobFault → Result (List (List Item)) Finding
as_choice text (Ok patterns) = Ok patterns
as_choice text (Err fault) = Err (finding (choice_fault fault) text)

-- how patterns are read, by whether case is ignored
abbrev pub reading_of : Bool → Reading
reading_of true = Blind
reading_of false = Exact

-- patterns between bars, as the manual has them; whether case is ignored
abbrev pub manual_choice : Bool → Text → Result (List (List Item)) Finding
manual_choice blind text = if blind then as_choice text (choice_blind text) else as_choice text (choice text)

-- patterns between bars, which udev reads as fnmatch(3) does; whether case is ignored
unfoldable pub read_choice : Profile → Bool → Text → Result (List (List Item)) Finding
read_choice Manual blind text = manual_choice blind text
read_choice Udev blind text = as_choice text (fnmatch_choice (reading_of blind) text)

-- the pieces of a text, or what is wrong with it
abbrev pub as_template : Text → Result (List Piece) TemplateFault → Result Template Finding
as_template text (Ok pieces) = Ok (record { written = text; pieces = pieces })
as_template text (Err fault) = Err (finding BadSubstitution text)

-- a text with substitutions
unfoldable pub read_template : Profile → Text → Result Template Finding
read_template profile text = as_template text (templates.pieces_as profile text)

-- an option, if there is one
abbrev pub as_option : Text → Option RuleOption → Result RuleOption Finding
as_option text (Some known) = Ok known
as_option text None = Err (finding BadValue text)

-- an option of OPTIONS
unfoldable pub read_option : Profile → Text → Result RuleOption Finding
read_option profile text = as_option text (option_of profile text)

-- a name, which is not empty
abbrev pub some_name : Text → Result Text Finding
some_name [] = Err (finding BadValue [])
some_name (b ∷ rest) = Ok (b ∷ rest)

-- a name to jump to: udev also takes an empty one
unfoldable pub read_name : Profile → Text → Result Text Finding
read_name Manual text = some_name text
read_name Udev text = Ok text
