-- What the definitions say of words that are written out.
use Rattle.std.proofs.Common.{◌≡◌, ◌++◌, ◌||◌, Bool, refl, true, false, List, [], ◌∷◌, Option, Some, None, codes, option_map}
use Rattle.std.specs.List.{filter_map, flat_map, list_all, list_any}
use Rattle.std.specs.Option.{option_map_or}
use Rattle.std.specs.Str.{bytes_eq}
use Rattle.clap.specs.Walk.{Text}
use Rattle.clap.specs.Words.{Rule, first_of}
use Rattle.clap.specs.declared.builder.action.ArgAction.{ArgAction}
use Rattle.clap.specs.declared.builder.action.ArgAction.TheVariants.{Append, SetTrue}
use Rattle.clap.specs.Simple.{subcommand_of}
use Rattle.clap.specs.Takes.{takes}
use Rattle.clap.specs.Faults.{fault_of}
use Rattle.clap.specs.declared.error.kind.ErrorKind.TheVariants as kind
use Rattle.clap.proofs.OnLiterals.{clap_on_literals}
use Rattle.devdry_words.specs.Commands.{devdry}
use Rattle.engine_sessions.specs.declared.line.Color.{Color}
use Rattle.engine_sessions.specs.declared.line.Color.TheVariants.{Auto, Always, Never}
use Rattle.engine_sessions.specs.declared.line.Format.{Format}
use Rattle.engine_sessions.specs.declared.line.Format.TheVariants.{Plain, Gcc, Github, Gitlab, Json, Sarif, Human, HumanInColor}
use Rattle.devdry_words.specs.declared.refusals.Refusal.{Refusal}
use Rattle.engine_sessions.specs.declared.line.Verb.TheVariants.{Update, Verify, Events}
use Rattle.devdry_words.specs.Lines.{color_name, color_named, color_of, files_of, format_name, format_named, format_of, is_set_or_every, profile_of}
use Rattle.text_bytes.specs.Texts.{split_once}
use Rattle.text_bytes.specs.declared.profile.Profile.{Profile}
use Rattle.text_bytes.specs.declared.profile.Profile.TheVariants.{Manual, Udev}
use Rattle.devdry_words.specs.Refusals.{refusal_of}
use Rattle.engine_sessions.specs.Names.{flag_names, repeated_names, valued_names}
use Rattle.devdry_words.specs.Options.{options_in, with_options}
use Rattle.devdry_words.specs.Requests.{added_of, side_files, side_root}
use Rattle.file_catalogue.specs.Ignored.{cut_at_commas}
use Rattle.devdry_words.specs.Values.{is_set, texts_of, text_of}

abbrev query_words : List Text
query_words = codes "query" ∷ codes "-r" ∷ codes "/mnt" ∷ codes "usb:v1" ∷ codes "--sources" ∷ codes "a.hwdb" ∷ codes "--" ∷ codes "-b" ∷ []

query_is_taken : takes devdry query_words ≡ true
unfolding clap_on_literals devdry
query_is_taken = refl

query_has_its_files : option_map {U = Text × (Text × (Text × List Text))} (λ p. (p.0, (text_of (codes "root") p.1, (text_of (codes "MODALIAS") p.1, texts_of (codes "FILE") p.1)))) (subcommand_of devdry query_words)
    ≡ Some (codes "query", (codes "/mnt", (codes "usb:v1", codes "a.hwdb" ∷ codes "-b" ∷ [])))
unfolding clap_on_literals devdry
query_has_its_files = refl

query_has_its_flag : option_map {U = Bool × Bool} (λ p. (is_set (codes "sources") p.1, is_set (codes "strict") p.1)) (subcommand_of devdry query_words) ≡ Some (true, false)
unfolding clap_on_literals devdry
query_has_its_flag = refl

abbrev index_words : List Text
index_words = codes "query" ∷ codes "--index" ∷ codes "hwdb.index" ∷ codes "usb:v1" ∷ []

query_has_its_index : option_map {U = Text × (Option Text × List Text)} (λ p. (p.0, (first_of (codes "index") p.1, texts_of (codes "FILE") p.1))) (subcommand_of devdry index_words)
    ≡ Some (codes "query", (Some (codes "hwdb.index"), []))
unfolding clap_on_literals devdry
query_has_its_index = refl

index_of_update : fault_of devdry (codes "update" ∷ codes "--index" ∷ codes "hwdb.index" ∷ []) ≡ kind.UnknownArgument ∷ []
unfolding clap_on_literals devdry
index_of_update = refl

update_is_taken : takes devdry (codes "update" ∷ codes "-s" ∷ codes "--root" ∷ codes "none" ∷ codes "a.hwdb" ∷ []) ≡ true
unfolding clap_on_literals devdry
update_is_taken = refl

verify_is_taken : takes devdry (codes "verify" ∷ codes "--no-style" ∷ codes "a.rules" ∷ []) ≡ true
unfolding clap_on_literals devdry
verify_is_taken = refl

events_is_taken : takes devdry (codes "events" ∷ codes "-r" ∷ codes "none" ∷ codes "a.rules" ∷ []) ≡ true
unfolding clap_on_literals devdry
events_is_taken = refl

no_words : fault_of devdry [] ≡ kind.DisplayHelpOnMissingArgumentOrSubcommand ∷ []
unfolding clap_on_literals devdry
no_words = refl

no_modalias : fault_of devdry (codes "query" ∷ []) ≡ kind.MissingRequiredArgument ∷ []
unfolding clap_on_literals devdry
no_modalias = refl

version : fault_of devdry (codes "-V" ∷ []) ≡ kind.DisplayVersion ∷ []
unfolding clap_on_literals devdry
version = refl

version_of_query : fault_of devdry (codes "query" ∷ codes "--version" ∷ []) ≡ kind.DisplayVersion ∷ []
unfolding clap_on_literals devdry
version_of_query = refl

abbrev verify_words : List Text
verify_words = codes "verify" ∷ codes "--all" ∷ codes "--lint" ∷ codes "--format" ∷ codes "gcc" ∷ codes "--ignore" ∷ codes "V6,S2" ∷ codes "--ignore=comments" ∷ codes "a.rules" ∷ []

verify_is_asked : option_map {U = Option Format × (Bool × (Bool × List Text))} (λ p. (format_of p.1, (is_set (codes "all") p.1, (is_set (codes "lint") p.1, flat_map cut_at_commas (texts_of (codes "ignore") p.1))))) (subcommand_of devdry verify_words)
    ≡ Some (Some Gcc, (true, (true, codes "V6" ∷ codes "S2" ∷ codes "comments" ∷ [])))
unfolding clap_on_literals devdry
verify_is_asked = refl

lint_of_update : takes devdry (codes "update" ∷ codes "--lint" ∷ codes "a.hwdb" ∷ []) ≡ true
unfolding clap_on_literals devdry
lint_of_update = refl

lint_of_query : fault_of devdry (codes "query" ∷ codes "--lint" ∷ codes "usb:v1" ∷ []) ≡ kind.UnknownArgument ∷ []
unfolding clap_on_literals devdry
lint_of_query = refl

udev_is_asked : option_map {U = Profile × List Text} (λ p. (profile_of Verify p.1, texts_of (codes "FILE") p.1)) (subcommand_of devdry (codes "verify" ∷ codes "--udev" ∷ codes "a.rules" ∷ []))
    ≡ Some (Udev, codes "a.rules" ∷ [])
unfolding clap_on_literals devdry
udev_is_asked = refl

manual_is_asked : option_map {U = Profile} (λ p. profile_of Verify p.1) (subcommand_of devdry verify_words) ≡ Some Manual
unfolding clap_on_literals devdry
manual_is_asked = refl

udev_of_events : option_map {U = Profile × List Text} (λ p. (profile_of Events p.1, texts_of (codes "FILE") p.1)) (subcommand_of devdry (codes "events" ∷ codes "--udev" ∷ codes "a.rules" ∷ []))
    ≡ Some (Udev, codes "a.rules" ∷ [])
unfolding clap_on_literals devdry
udev_of_events = refl

manual_of_events : option_map {U = Profile} (λ p. profile_of Events p.1) (subcommand_of devdry (codes "events" ∷ codes "a.rules" ∷ [])) ≡ Some Manual
unfolding clap_on_literals devdry
manual_of_events = refl

udev_of_both_sides : option_map {U = Profile × (Text × Text)} (λ p. (profile_of Events p.1, (text_of (codes "OLD") p.1, text_of (codes "NEW") p.1))) (subcommand_of devdry (codes "compare" ∷ codes "--udev" ∷ codes "/old" ∷ codes "/new" ∷ []))
    ≡ Some (Udev, (codes "/old", codes "/new"))
unfolding clap_on_literals devdry
udev_of_both_sides = refl

udev_of_query : fault_of devdry (codes "query" ∷ codes "--udev" ∷ codes "usb:v1" ∷ []) ≡ kind.UnknownArgument ∷ []
unfolding clap_on_literals devdry
udev_of_query = refl

udev_of_files : fault_of devdry (codes "files" ∷ codes "--udev" ∷ []) ≡ kind.UnknownArgument ∷ []
unfolding clap_on_literals devdry
udev_of_files = refl

udev_is_given_once : fault_of devdry (codes "verify" ∷ codes "--udev" ∷ codes "--udev" ∷ []) ≡ kind.ArgumentConflict ∷ []
unfolding clap_on_literals devdry
udev_is_given_once = refl

files_are_taken : takes devdry (codes "files" ∷ codes "--root=/mnt" ∷ []) ≡ true
unfolding clap_on_literals devdry
files_are_taken = refl

abbrev compare_words : List Text
compare_words = codes "compare" ∷ codes "/old" ∷ codes "--index" ∷ codes "hwdb.index" ∷ codes "/new" ∷ []

compare_has_its_roots : option_map {U = Text × (Text × Text)} (λ p. (p.0, (text_of (codes "OLD") p.1, text_of (codes "NEW") p.1))) (subcommand_of devdry compare_words)
    ≡ Some (codes "compare", (codes "/old", codes "/new"))
unfolding clap_on_literals devdry
compare_has_its_roots = refl

compare_with_one_root : fault_of devdry (codes "compare" ∷ codes "/old" ∷ []) ≡ kind.MissingRequiredArgument ∷ []
unfolding clap_on_literals devdry
compare_with_one_root = refl

explain_has_its_code : option_map {U = Text × (Text × Option Refusal)} (λ p. (p.0, (text_of (codes "CODE") p.1, refusal_of p.0 p.1))) (subcommand_of devdry (codes "explain" ∷ codes "V6" ∷ []))
    ≡ Some (codes "explain", (codes "V6", None))
unfolding clap_on_literals devdry
explain_has_its_code = refl

format_of_query : fault_of devdry (codes "query" ∷ codes "--format" ∷ codes "json" ∷ codes "usb:v1" ∷ []) ≡ kind.UnknownArgument ∷ []
unfolding clap_on_literals devdry
format_of_query = refl

answers_have_a_format : option_map {U = Option Format × Option Refusal} (λ p. (format_of p.1, refusal_of p.0 p.1)) (subcommand_of devdry (codes "events" ∷ codes "--format" ∷ codes "json" ∷ codes "a.rules" ∷ []))
    ≡ Some (Some Json, None)
unfolding clap_on_literals devdry
answers_have_a_format = refl

differences_have_a_format : option_map {U = Option Format × Option Refusal} (λ p. (format_of p.1, refusal_of p.0 p.1)) (subcommand_of devdry (codes "compare" ∷ codes "--format=json" ∷ codes "/old" ∷ codes "/new" ∷ []))
    ≡ Some (Some Json, None)
unfolding clap_on_literals devdry
differences_have_a_format = refl

unused_rules_are_asked : option_map {U = Bool × (Bool × Option Refusal)} (λ p. (is_set (codes "unused") p.1, (is_set (codes "sources") p.1, refusal_of p.0 p.1))) (subcommand_of devdry (codes "events" ∷ codes "--unused" ∷ codes "--why=a.rules" ∷ codes "--sources" ∷ []))
    ≡ Some (true, (true, None))
unfolding clap_on_literals devdry
unused_rules_are_asked = refl

links_are_asked : option_map {U = Bool × (Bool × Option Refusal)} (λ p. (is_set (codes "links") p.1, (is_set (codes "lint") p.1, refusal_of p.0 p.1))) (subcommand_of devdry (codes "verify" ∷ codes "--links" ∷ codes "--lint" ∷ codes "a.link" ∷ []))
    ≡ Some (true, (true, None))
unfolding clap_on_literals devdry
links_are_asked = refl

questions_are_asked : option_map {U = Bool × (Profile × List Text)} (λ p. (is_set (codes "questions") p.1, (profile_of Events p.1, texts_of (codes "FILE") p.1))) (subcommand_of devdry (codes "events" ∷ codes "--questions" ∷ codes "--udev" ∷ codes "a.rules" ∷ []))
    ≡ Some (true, (Udev, codes "a.rules" ∷ []))
unfolding clap_on_literals devdry
questions_are_asked = refl

questions_of_compare : fault_of devdry (codes "compare" ∷ codes "--questions" ∷ codes "/old" ∷ codes "/new" ∷ []) ≡ kind.UnknownArgument ∷ []
unfolding clap_on_literals devdry
questions_of_compare = refl

files_have_their_names : option_map {U = List Text} (λ p. files_of p.1) (subcommand_of devdry (codes "verify" ∷ codes "--stdin-name=a.rules" ∷ codes "b.rules" ∷ codes "-" ∷ codes "./-" ∷ []))
    ≡ Some (codes "b.rules" ∷ codes "a.rules" ∷ codes "./-" ∷ [])
unfolding clap_on_literals devdry
files_have_their_names = refl

color_is_asked : option_map {U = Option Color} (λ p. color_of p.1) (subcommand_of devdry (codes "verify" ∷ codes "--color" ∷ codes "never" ∷ codes "a.rules" ∷ [])) ≡ Some (Some Never)
unfolding clap_on_literals devdry
color_is_asked = refl

color_of_query : fault_of devdry (codes "query" ∷ codes "--color=never" ∷ codes "usb:v1" ∷ []) ≡ kind.UnknownArgument ∷ []
unfolding clap_on_literals devdry
color_of_query = refl

rules_are_sides : option_map {U = Text × (List Text × (Text × List Text))} (λ p. (side_root (codes "OLD") p.1, (side_files (codes "OLD") p.1, (side_root (codes "NEW") p.1, side_files (codes "NEW") p.1)))) (subcommand_of devdry (codes "compare" ∷ codes "--rules" ∷ codes "a.rules" ∷ codes "b" ∷ []))
    ≡ Some ([], (codes "a.rules" ∷ [], ([], codes "b" ∷ [])))
unfolding clap_on_literals devdry
rules_are_sides = refl

roots_are_sides : option_map {U = Text × (List Text × (Text × List Text))} (λ p. (side_root (codes "OLD") p.1, (side_files (codes "OLD") p.1, (side_root (codes "NEW") p.1, side_files (codes "NEW") p.1)))) (subcommand_of devdry (codes "compare" ∷ codes "--all" ∷ codes "a" ∷ codes "b" ∷ []))
    ≡ Some (codes "a", ([], (codes "b", [])))
unfolding clap_on_literals devdry
roots_are_sides = refl

with_of_query : fault_of devdry (codes "query" ∷ codes "--with=a.hwdb" ∷ codes "usb:v1" ∷ []) ≡ kind.UnknownArgument ∷ []
unfolding clap_on_literals devdry
with_of_query = refl

added_files_are_asked : option_map {U = List Text × Option Refusal} (λ p. (added_of p.1, refusal_of p.0 p.1)) (subcommand_of devdry (codes "compare" ∷ codes "--with" ∷ codes "a.rules" ∷ codes "/old" ∷ codes "--with=b.hwdb" ∷ codes "/new" ∷ []))
    ≡ Some (codes "a.rules" ∷ codes "b.hwdb" ∷ [], None)
unfolding clap_on_literals devdry
added_files_are_asked = refl

strict_makes_every_check : option_map {U = Bool × (Profile × Bool)} (λ p. (is_set_or_every Verify (codes "lint") p.1, (profile_of Verify p.1, is_set_or_every Verify (codes "all") p.1))) (subcommand_of devdry (codes "verify" ∷ codes "--strict" ∷ []))
    ≡ Some (true, (Udev, true))
unfolding clap_on_literals devdry
strict_makes_every_check = refl

strict_update_makes_no_check : option_map {U = Bool} (λ p. is_set_or_every Update (codes "all") p.1) (subcommand_of devdry (codes "update" ∷ codes "-s" ∷ [])) ≡ Some false
unfolding clap_on_literals devdry
strict_update_makes_no_check = refl

events_go_on : option_map {U = Bool} (λ p. is_set_or_every Events (codes "all") p.1) (subcommand_of devdry (codes "events" ∷ codes "--all" ∷ [])) ≡ Some true
unfolding clap_on_literals devdry
events_go_on = refl

-- the names of the options that a file may give as an argument of this action has them
abbrev names_for : Option ArgAction → List Text
names_for (Some SetTrue) = flag_names
names_for (Some Append) = repeated_names
names_for _ = valued_names

-- an argument is no option, or the one that names a file of options, or a file may give it as clap reads it
abbrev may_be_in_a_file : Rule → Bool
may_be_in_a_file rule = option_map_or (λ name. bytes_eq name (codes "options") || list_any (bytes_eq name) (names_for rule.action)) rule.long true

each_option_may_be_in_a_file : list_all may_be_in_a_file (flat_map (λ s. s.rules) devdry.subs) ≡ true
unfolding devdry flag_names repeated_names valued_names
each_option_may_be_in_a_file = refl

-- the long names of all options
abbrev long_names : List Text
long_names = filter_map (λ rule. rule.long) (flat_map (λ s. s.rules) devdry.subs)

each_name_is_an_option : list_all (λ name. list_any (bytes_eq name) long_names) (flag_names ++ (valued_names ++ repeated_names)) ≡ true
unfolding devdry flag_names repeated_names valued_names
each_name_is_an_option = refl

a_file_of_options_is_named : options_in (codes "verify" ∷ codes "--lint" ∷ codes "--options" ∷ codes "ours" ∷ codes "a.rules" ∷ []) ≡ Some (codes "ours")
unfolding clap_on_literals devdry
a_file_of_options_is_named = refl

no_file_of_options_is_named : options_in (codes "explain" ∷ codes "V6" ∷ []) ≡ None
unfolding clap_on_literals devdry
no_file_of_options_is_named = refl

words_at_fault_name_no_file : options_in (codes "query" ∷ codes "--options=ours" ∷ []) ≡ None
unfolding clap_on_literals devdry
words_at_fault_name_no_file = refl

options_stand_behind_the_name : with_options (codes "--lint" ∷ codes "--format=gcc" ∷ codes "--ignore=S2" ∷ codes "--strict" ∷ [])
    (codes "verify" ∷ codes "--options=ours" ∷ codes "--format" ∷ codes "json" ∷ codes "-s" ∷ codes "--ignore=S1" ∷ codes "a.rules" ∷ [])
    ≡ codes "verify" ∷ codes "--lint" ∷ codes "--ignore=S2" ∷ codes "--options=ours" ∷ codes "--format" ∷ codes "json" ∷ codes "-s" ∷ codes "--ignore=S1" ∷ codes "a.rules" ∷ []
unfolding clap_on_literals devdry flag_names valued_names split_once
options_stand_behind_the_name = refl

-- the format that words name it by
abbrev uncolored : Format → Format
uncolored HumanInColor = Human
uncolored f = f

each_format_is_found : (f : Format) → format_named (format_name f) ≡ Some (uncolored f)
each_format_is_found Plain = refl
each_format_is_found Gcc = refl
each_format_is_found Github = refl
each_format_is_found Gitlab = refl
each_format_is_found Json = refl
each_format_is_found Sarif = refl
each_format_is_found Human = refl
each_format_is_found HumanInColor = refl

each_color_is_found : (c : Color) → color_named (color_name c) ≡ Some c
each_color_is_found Auto = refl
each_color_is_found Always = refl
each_color_is_found Never = refl
