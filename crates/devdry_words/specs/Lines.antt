-- The line that the matches of a subcommand mean.
use Rattle.std.specs.Prelude.{◌≡◌, ◌∷◌, ◌&&◌, ◌||◌, Bool, true, false, IfSome, if◌then◌else◌, List, [], Option, Some, None, find}
use Rattle.std.specs.Prelude.{map, not, unwrap_or, codes}
use Rattle.std.specs.Option.{option_map, option_map_or}
use Rattle.std.specs.Str.{bytes_eq}
use Rattle.clap.specs.Words.{Row, Text, first_of}
use Rattle.engine_sessions.specs.declared.line.AccountFile.{AccountFile}
use Rattle.engine_sessions.specs.declared.line.Color.{Color}
use Rattle.engine_sessions.specs.declared.line.Color.TheVariants.{Auto, Always, Never}
use Rattle.engine_sessions.specs.declared.line.Format.{Format}
use Rattle.engine_sessions.specs.declared.line.Format.TheVariants.{Plain, Gcc, Github, Gitlab, Json, Sarif, Human, HumanInColor}
use Rattle.engine_sessions.specs.declared.line.Line.{Line}
use Rattle.engine_sessions.specs.declared.line.Verb.{Verb}
use Rattle.engine_sessions.specs.declared.line.Verb.TheVariants.{Update, Query, Verify, Events, Mend}
use Rattle.file_catalogue.specs.Ignored.{ignored_codes}
use Rattle.text_bytes.specs.declared.profile.Profile.{Profile}
use Rattle.text_bytes.specs.declared.profile.Profile.TheVariants.{Manual, Udev}
use Rattle.devdry_words.specs.Values.{is_set, text_of, texts_of}

-- the subcommand of a verb
abbrev pub name_of : Verb → Text
name_of Update = codes "update"
name_of Query = codes "query"
name_of Verify = codes "verify"
name_of Events = codes "events"
name_of Mend = codes "fmt"

-- the name of a format, in colors or without
abbrev pub format_name : Format → Text
format_name Plain = codes "plain"
format_name Gcc = codes "gcc"
format_name Github = codes "github"
format_name Gitlab = codes "gitlab"
format_name Json = codes "json"
format_name Sarif = codes "sarif"
format_name Human = codes "human"
format_name HumanInColor = codes "human"

-- the format with a name, if there is one
abbrev pub format_named : Text → Option Format
format_named name = find (λ f. bytes_eq name (format_name f)) (Plain ∷ Gcc ∷ Github ∷ Gitlab ∷ Json ∷ Sarif ∷ Human ∷ [])

-- the format that is asked for, plain if none is; none if the name is unknown
abbrev pub format_of : List Row → Option Format
format_of rows = option_map_or format_named (first_of (codes "format") rows) (Some Plain)

-- the name of when there are colors
abbrev pub color_name : Color → Text
color_name Auto = codes "auto"
color_name Always = codes "always"
color_name Never = codes "never"

-- when there are colors, by its name, if there is one
abbrev pub color_named : Text → Option Color
color_named name = find (λ c. bytes_eq name (color_name c)) (Auto ∷ Always ∷ Never ∷ [])

-- when colors are asked for, by the terminal if none are; none if the name is unknown
abbrev pub color_of : List Row → Option Color
color_of rows = option_map_or color_named (first_of (codes "color") rows) (Some Auto)

-- the name of the standard input as a file, `-` if it is given none
abbrev pub input_name_of : List Row → Text
input_name_of rows = unwrap_or (first_of (codes "stdin-name") rows) (codes "-")

-- a FILE is the standard input
abbrev pub is_input : Text → Bool
is_input file = bytes_eq file (codes "-")

-- a FILE by its name: that of the standard input is given to it
abbrev pub file_named : (input_name file : Text) → Text
file_named input_name file = if is_input file then input_name else file

-- the files that are named, each by its name
abbrev pub files_of : List Row → List Text
files_of rows = map (file_named (input_name_of rows)) (texts_of (codes "FILE") rows)

-- whether a verb is `verify`
abbrev pub is_verify : Verb → Bool
is_verify Verify = true
is_verify _ = false

-- whether every check is asked for: `verify` is strict
abbrev pub asks_every : Verb → List Row → Bool
asks_every verb rows = is_verify verb && is_set (codes "strict") rows

-- whether a flag is given, or every check is asked for, which is more
abbrev pub is_set_or_every : Verb → Text → List Row → Bool
is_set_or_every verb id rows = is_set id rows || asks_every verb rows

-- the profile by which rules are read and evaluated: udev's if `--udev` is given, otherwise the manual's
abbrev pub profile_of : Verb → List Row → Profile
profile_of verb rows = if is_set_or_every verb (codes "udev") rows then Udev else Manual

-- the path of a file of users or groups, and whether it is that inside the root: the one that is named, and without
-- one that of the root if every check is asked for
abbrev pub account_path : Bool → Option Text → Text → Option (Text × Bool)
account_path every (Some path) own = Some (path, false)
account_path true None own = Some (own, true)
account_path false None own = None

-- the file of users or groups at the path, if there is one; none of its bytes has been read yet
abbrev pub IsUnreadFile : Option (Text × Bool) → Option AccountFile → Type 0
IsUnreadFile path file = (option_map (λ f. (f.path.now, f.of_root)) file ≡ path) × IfSome file (λ f. f.bytes ≡ [])

-- whether all is asked for: by `--all`, by a check of everything, or where rules files or folders of them are compared, which are
-- read like that
abbrev pub asks_all_of : Verb → List Row → Bool
asks_all_of verb rows = is_set_or_every verb (codes "all") rows || is_set (codes "rules") rows

-- the line is that of the verb, below the root, with the added and the named files, and its other fields are the values of the
-- matches
pub record Reads (verb : Verb) (root : Text) (added named : List Text) (rows : List Row) (line : Line) : Type 0 where
  pub verb_is : line.verb ≡ verb
  pub root_is : line.root.now ≡ root
  pub files : map (λ f. f.now) line.files.items ≡ named
  pub added_are : map (λ f. f.now) line.added.items ≡ added
  pub input_name : line.input_name.now ≡ input_name_of rows
  pub index : option_map (λ i. i.now) line.index ≡ first_of (codes "index") rows
  pub strict : line.strict ≡ is_set (codes "strict") rows
  pub sources : line.sources ≡ is_set (codes "sources") rows
  pub why : map (λ w. w.now) line.why.items ≡ texts_of (codes "why") rows
  pub questions : line.questions ≡ is_set (codes "questions") rows
  pub unused : line.unused ≡ is_set (codes "unused") rows
  pub modalias : line.modalias.now ≡ text_of (codes "MODALIAS") rows
  pub summary : line.summary ≡ not (is_set (codes "no-summary") rows)
  pub style : line.style ≡ not (is_set (codes "no-style") rows)
  pub lint : line.lint ≡ is_set_or_every verb (codes "lint") rows
  pub checks_links : line.checks_links ≡ is_set (codes "links") rows
  pub check : line.check ≡ is_set (codes "check") rows
  pub format : line.format ≡ unwrap_or (format_of rows) Plain
  pub color : line.color ≡ unwrap_or (color_of rows) Auto
  pub all : line.all ≡ asks_all_of verb rows
  pub ignored : map (λ c. c.now) line.ignored.items ≡ ignored_codes (texts_of (codes "ignore") rows)
  pub profile : line.profile ≡ profile_of verb rows
  pub users : IsUnreadFile (account_path (asks_every verb rows) (first_of (codes "users") rows) (codes "/etc/passwd")) line.users
  pub groups : IsUnreadFile (account_path (asks_every verb rows) (first_of (codes "groups") rows) (codes "/etc/group")) line.groups
  pub links : line.links.items ≡ []
