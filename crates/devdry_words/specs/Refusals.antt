-- Which of the words that clap takes `devdry` itself refuses, and what it says about them.
use Rattle.std.specs.Prelude.{◌&&◌, ◌||◌, ◌++◌, List, [], ◌∷◌, Bool, Option, Some, None, if◌then◌else◌, find, is_some, map, nat_eq, not}
use Rattle.std.specs.Prelude.{unwrap_or, codes, false, true}
use Rattle.std.specs.List.{ends_with, list_any}
use Rattle.std.specs.Option.{is_none, option_map_or}
use Rattle.std.specs.Str.{bytes_eq}
use Rattle.clap.specs.Words.{Row, Text, first_of}
use Rattle.text_bytes.specs.Kinds.{suffix_of}
use Rattle.text_bytes.specs.declared.source_file.FileKind.TheVariants.{Hwdb, Rules}
use Rattle.engine_sessions.specs.declared.line.Format.{Format}
use Rattle.engine_sessions.specs.declared.line.Format.TheVariants.{Plain, Json, Human}
use Rattle.file_catalogue.specs.Catalogue.{known_codes}
use Rattle.file_catalogue.specs.Ignored.{unknown_ignored}
use Rattle.devdry_words.specs.declared.refusals.Refusal.{Refusal}
use Rattle.devdry_words.specs.declared.refusals.Refusal.TheVariants.{TwoDatabases, LinksAsRules, AddedToNamed, AddedToRules, AddedToIndex, TwoAnswers}
use Rattle.devdry_words.specs.declared.refusals.Refusal.TheVariants.{LinesBesideJson, InputTwice, UnreadInput}
use Rattle.devdry_words.specs.declared.refusals.Refusal.TheVariants.{EmptyRoot, EmptySide, NoUdev, UnknownFormat, NoAnswerFormat}
use Rattle.devdry_words.specs.declared.refusals.Refusal.TheVariants.{UnknownColor, UnknownPart, NotRules, NotFile}
use Rattle.devdry_words.specs.Lines.{color_of, format_of, is_input}
use Rattle.devdry_words.specs.Values.{has_value, is_empty_text, is_set, text_of, texts_of}

-- the standard input is named as a file
abbrev pub names_input : List Row → Bool
names_input rows = list_any is_input (texts_of (codes "FILE") rows)

-- the standard input is to be one of the rules files that `compare` compares
abbrev pub compares_input : List Row → Bool
compares_input rows = is_set (codes "rules") rows && (is_input (text_of (codes "OLD") rows) || is_input (text_of (codes "NEW") rows))

-- the standard input is named as a file, and something else is read from it: the blocks of `events` and `compare`, or modaliases
abbrev pub reads_twice : Text → List Row → Bool
reads_twice name rows =
    names_input rows && (bytes_eq name (codes "events") || is_input (text_of (codes "MODALIAS") rows)) || compares_input rows

-- the standard input has a name as a file, and is not named as one
abbrev pub lacks_input : List Row → Bool
lacks_input rows = is_some (first_of (codes "stdin-name") rows) && not (names_input rows)

-- a query names two databases: files and an index
abbrev pub names_two : Text → List Row → Bool
names_two name rows = bytes_eq name (codes "query") && (is_some (first_of (codes "index") rows) && has_value (codes "FILE") rows)

-- `.link` files are to be checked in place of rules, and what is asked beside it is about rules alone
abbrev pub links_as_rules : List Row → Bool
links_as_rules rows = is_set (codes "links") rows && (has_value (codes "with") rows || (is_set (codes "udev") rows || (is_set (codes "strict") rows
    || (is_some (first_of (codes "users") rows) || is_some (first_of (codes "groups") rows)))))

-- a file is added to those of the folders, and others are named to be read in place of these
abbrev pub adds_to_named : List Row → Bool
adds_to_named rows = has_value (codes "with") rows && has_value (codes "FILE") rows

-- a file is added to those of a root, and rules are compared in place of roots
abbrev pub adds_to_rules : List Row → Bool
adds_to_rules rows = has_value (codes "with") rows && is_set (codes "rules") rows

-- a path ends as those of database files do
abbrev pub is_of_database : Text → Bool
is_of_database path = ends_with nat_eq path (suffix_of Hwdb)

-- a path ends as those of rules files do
abbrev pub is_of_rules : Text → Bool
is_of_rules path = ends_with nat_eq path (suffix_of Rules)

-- a file may be added at a path, by how the path ends: as those of rules do, or, if not only rules are read, as those of
-- a database
abbrev pub is_addable : Bool → Text → Bool
is_addable rules_alone path = is_of_rules path || (not rules_alone && is_of_database path)

-- the first of these paths at which none may be added
abbrev pub first_unaddable : Bool → List Text → Option Text
first_unaddable rules_alone paths = find (λ path. not (is_addable rules_alone path)) paths

-- the first path at which a file is added that may not be, if there is one
abbrev pub unaddable : Bool → List Row → Option Text
unaddable rules_alone rows = first_unaddable rules_alone (texts_of (codes "with") rows)

-- a file is added that is no rules file, and an index is named to be read in place of all files of the database
abbrev pub adds_to_index : List Row → Bool
adds_to_index rows = is_some (first_of (codes "index") rows) && is_some (unaddable true rows)

-- events are to give questions and are to say more of their answers, which are then not given
abbrev pub asks_both : List Row → Bool
asks_both rows = is_set (codes "questions") rows && (is_set (codes "sources") rows || (has_value (codes "why") rows || is_set (codes "unused") rows))

-- answers are to be objects of JSON, and lines are asked for that are none: questions, or the rules that are unused
abbrev pub breaks_json : List Row → Bool
breaks_json rows = bytes_eq (text_of (codes "format") rows) (codes "json") && (is_set (codes "questions") rows || is_set (codes "unused") rows)

-- `verify` is strict, and so asks for every check
abbrev pub is_strict : Text → List Row → Bool
is_strict name rows = bytes_eq name (codes "verify") && is_set (codes "strict") rows

-- all is asked for
abbrev pub asks_all : Text → List Row → Bool
asks_all name rows = is_set (codes "all") rows || is_strict name rows

-- all is asked for, or which files count, below a root that is given and empty
abbrev pub lacks_root : Text → List Row → Bool
lacks_root name rows = (asks_all name rows || bytes_eq name (codes "files")) && is_empty_text (codes "root") rows

-- one of the two roots that are compared is empty
abbrev pub lacks_side : List Row → Bool
lacks_side rows = is_empty_text (codes "OLD") rows || is_empty_text (codes "NEW") rows

-- users or groups are named, and rules are not to be read as udev reads them
abbrev pub lacks_udev : Text → List Row → Bool
lacks_udev name rows = (is_some (first_of (codes "users") rows) || is_some (first_of (codes "groups") rows))
    && not (is_set (codes "udev") rows || is_strict name rows)

-- a subcommand of this name answers event blocks
abbrev pub answers_blocks : Text → Bool
answers_blocks name = bytes_eq name (codes "events") || bytes_eq name (codes "compare")

-- answers can be written in the format
abbrev pub is_for_answers : Format → Bool
is_for_answers Plain = true
is_for_answers Json = true
is_for_answers Human = true
is_for_answers _ = false

-- answers are asked for in a format in which they can't be written, or in one that there is not
abbrev pub lacks_answer_format : Text → List Row → Bool
lacks_answer_format name rows = answers_blocks name && not (option_map_or is_for_answers (format_of rows) false)

-- the first part of `--ignore` that may not be ignored, if there is one
abbrev pub unknown_part : List Row → Option Text
unknown_part rows = unknown_ignored (texts_of (codes "ignore") rows)

-- Reasons to refuse matches, each with whether it is met.

-- why a file may not be added for a subcommand: `verify` reads only rules
abbrev pub added_reasons : Text → List Row → List (Bool × Refusal)
added_reasons name rows = (bytes_eq name (codes "verify") && is_some (unaddable true rows), NotRules)
    ∷ (is_some (unaddable false rows), NotFile)
    ∷ (adds_to_index rows, AddedToIndex) ∷ []

-- why a value that has to be one of a few is refused: answers can't be written in the format, no format has the name, colors
-- are asked for in no known way, a part of `--ignore` names nothing, or a file may not be added
abbrev pub value_reasons : Text → List Row → List (Bool × Refusal)
value_reasons name rows = (lacks_answer_format name rows, NoAnswerFormat)
    ∷ (is_none (format_of rows), UnknownFormat)
    ∷ (is_none (color_of rows), UnknownColor)
    ∷ (is_some (unknown_part rows), UnknownPart) ∷ added_reasons name rows

-- why the matches of a subcommand are refused
abbrev pub reasons : Text → List Row → List (Bool × Refusal)
reasons name rows = (names_two name rows, TwoDatabases)
    ∷ (links_as_rules rows, LinksAsRules)
    ∷ (adds_to_named rows, AddedToNamed)
    ∷ (adds_to_rules rows, AddedToRules)
    ∷ (asks_both rows, TwoAnswers)
    ∷ (breaks_json rows, LinesBesideJson)
    ∷ (reads_twice name rows, InputTwice)
    ∷ (lacks_input rows, UnreadInput)
    ∷ (lacks_root name rows, EmptyRoot)
    ∷ (lacks_side rows, EmptySide)
    ∷ (lacks_udev name rows, NoUdev) ∷ value_reasons name rows

-- the refusal of the first reason that is met, if one is
abbrev pub first_met : List (Bool × Refusal) → Option Refusal
first_met [] = None
first_met (reason ∷ others) = if reason.0 then Some reason.1 else first_met others

-- how the matches of a subcommand are refused, if they are
abbrev pub refusal_of : Text → List Row → Option Refusal
refusal_of name rows = first_met (reasons name rows)

-- what is said about a value that its argument does not take, by what comes before and after the value
abbrev pub invalid_value : Text → Text → Text
invalid_value value following = codes "error: invalid value '" ++ value ++ following

-- what is said after the name of an unknown format
abbrev pub no_such_format : Text
no_such_format = codes "' for '--format <FORMAT>'\n  [possible values: plain, gcc, github, gitlab, json, sarif, human]\n\nFor more information, try '--help'.\n"

-- what is said after the name of a format in which no answer can be written
abbrev pub no_answer_format : Text
no_answer_format = codes "' for '--format <FORMAT>'\n  [possible values: plain, json, human]\n\nFor more information, try '--help'.\n"

-- what is said after the name of what is no way to ask for colors
abbrev pub no_such_color : Text
no_such_color = codes "' for '--color <WHEN>'\n  [possible values: auto, always, never]\n\nFor more information, try '--help'.\n"

-- what is said after a part of `--ignore` that is neither a code nor a class nor the word `comments`
abbrev pub not_ignorable : Text
not_ignorable =
    codes "' for '--ignore <CODES>'\n  [possible values: " ++ known_codes ++ codes ", V, S, H, W, D, L, I, comments]\n\nFor more information, try '--help'.\n"

-- what is said after the path of a file that `verify` may not add
abbrev pub not_rules : Text
not_rules = codes "' for '--with <FILE>': its name has to end in .rules\n\nFor more information, try '--help'.\n"

-- what is said after the path of a file that no subcommand may add
abbrev pub not_a_file : Text
not_a_file = codes "' for '--with <FILE>': its name has to end in .rules or .hwdb\n\nFor more information, try '--help'.\n"

-- what is said about matches that are refused
abbrev pub said_of : Refusal → List Row → Text
said_of TwoDatabases rows =
    codes "error: the argument '--index <FILE>' cannot be used with '[FILE]...'\n\nUsage: devdry query --index <FILE> <MODALIAS>\n\n"
    ++ codes "For more information, try '--help'.\n"
said_of LinksAsRules rows =
    codes "error: the argument '--links' cannot be used with '--with <FILE>', '--udev', '--users <FILE>', '--groups <FILE>' or '--strict'\n\n"
    ++ codes "Usage: devdry verify --links [FILE]...\n\nFor more information, try '--help'.\n"
said_of AddedToNamed rows = codes "error: the argument '--with <FILE>' cannot be used with '[FILE]...'\n\nFor more information, try '--help'.\n"
said_of AddedToRules rows =
    codes "error: the argument '--with <FILE>' cannot be used with '--rules'\n\nUsage: devdry compare --rules <OLD> <NEW>\n\n"
    ++ codes "For more information, try '--help'.\n"
said_of AddedToIndex rows =
    codes "error: the argument '--with <FILE>' cannot add to the database with '--index <FILE>'\n\nFor more information, try '--help'.\n"
said_of TwoAnswers rows =
    codes "error: the argument '--questions' cannot be used with '--sources', '--why <FILE[:LINE]>' or '--unused'\n\n"
    ++ codes "Usage: devdry events --questions [FILE]...\n\nFor more information, try '--help'.\n"
said_of LinesBesideJson rows =
    codes "error: the argument '--format=json' cannot be used with '--unused' or '--questions'\n\nUsage: devdry events --format=json [FILE]...\n\n"
    ++ codes "For more information, try '--help'.\n"
said_of InputTwice rows =
    codes "error: '-' can't be '[FILE]...' where the standard input has event blocks or modaliases\n\nFor more information, try '--help'.\n"
said_of UnreadInput rows = codes "error: the argument '--stdin-name <PATH>' needs '-' as '[FILE]...'\n\nFor more information, try '--help'.\n"
said_of EmptyRoot rows = codes "error: an empty value of '--root <DIR>' names no folder\n\nFor more information, try '--help'.\n"
said_of EmptySide rows =
    codes "error: an empty value of '<OLD>' or '<NEW>' names no folder; '/' is that of the running system\n\nFor more information, try '--help'.\n"
said_of NoUdev rows =
    codes "error: the arguments '--users <FILE>' and '--groups <FILE>' need '--udev' or '--strict'\n\n"
    ++ codes "Usage: devdry verify --udev --users <FILE> --groups <FILE> [FILE]...\n\nFor more information, try '--help'.\n"
said_of UnknownFormat rows = invalid_value (text_of (codes "format") rows) no_such_format
said_of NoAnswerFormat rows = invalid_value (text_of (codes "format") rows) no_answer_format
said_of UnknownColor rows = invalid_value (text_of (codes "color") rows) no_such_color
said_of UnknownPart rows = invalid_value (unwrap_or (unknown_part rows) []) not_ignorable
said_of NotRules rows = invalid_value (unwrap_or (unaddable true rows) []) not_rules
said_of NotFile rows = invalid_value (unwrap_or (unaddable false rows) []) not_a_file
