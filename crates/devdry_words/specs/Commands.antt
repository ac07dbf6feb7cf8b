-- The command line of `devdry`, as `clap` reads it.
use Rattle.std.specs.Prelude.{Some, List, [], ◌∷◌, codes, true}
use Rattle.clap.specs.Words.{App, Rule, Shape, Text, new_rule, with_subcommand}
use Rattle.clap.specs.Simple.{new_shape}
use Rattle.clap.specs.declared.builder.action.ArgAction.TheVariants.{Append, SetTrue}

-- `--NAME`, which takes no value
abbrev pub flag_rule : Text → Rule
flag_rule name = record (new_rule name) { long = Some name; action = Some SetTrue }

-- `--NAME VALUE`
abbrev pub option_rule : Text → Rule
option_rule name = record (new_rule name) { long = Some name; value_names = 1 }

-- `--NAME VALUE`, any number of times
abbrev pub repeated_rule : Text → Rule
repeated_rule name = record (option_rule name) { action = Some Append }

-- `-r DIR`, `--root DIR`; the letter r has the number 114
abbrev pub root_rule : Rule
root_rule = record (option_rule (codes "root")) { short = Some 114 }

-- `--with FILE`, any number of times
abbrev pub added_rule : Rule
added_rule = repeated_rule (codes "with")

-- `-s`, `--strict`; the letter s has the number 115
abbrev pub strict_rule : Rule
strict_rule = record (flag_rule (codes "strict")) { short = Some 115 }

-- a word without an option, which has to be there
abbrev pub required_rule : Text → Rule
required_rule name = record (new_rule name) { required = true }

-- `[FILE]..`, any number of them
abbrev pub files_rule : Rule
files_rule = record (new_rule (codes "FILE")) { action = Some Append }

-- `FILE..`, one of them or more
abbrev pub mended_rule : Rule
mended_rule = record files_rule { required = true }

-- a command of this name with these arguments
abbrev pub with_rules : Text → List Rule → Shape
with_rules name rules = record (new_shape name) { rules = rules }

-- `update [--options FILE] [-r DIR] [-s] [--all] [--format FORMAT] [--color WHEN] [--ignore CODES].. [--lint] [--stdin-name PATH]
-- [FILE]..`
abbrev pub update_shape : Shape
update_shape = with_rules (codes "update")
    (option_rule (codes "options") ∷ root_rule ∷ strict_rule ∷ flag_rule (codes "all") ∷ option_rule (codes "format") ∷ option_rule (codes "color")
    ∷ repeated_rule (codes "ignore") ∷ flag_rule (codes "lint") ∷ option_rule (codes "stdin-name") ∷ files_rule ∷ [])

-- `query [--options FILE] [-r DIR] [--all] [--sources] [--index FILE] [--stdin-name PATH] MODALIAS [FILE]..`
abbrev pub query_shape : Shape
query_shape = with_rules (codes "query")
    (option_rule (codes "options") ∷ root_rule ∷ flag_rule (codes "all") ∷ flag_rule (codes "sources") ∷ option_rule (codes "index")
    ∷ option_rule (codes "stdin-name") ∷ required_rule (codes "MODALIAS") ∷ files_rule ∷ [])

-- `verify [--options FILE] [-r DIR] [--with FILE].. [-s] [--all] [--format FORMAT] [--color WHEN] [--ignore CODES].. [--no-summary] [--no-style] [--lint]
-- [--links] [--udev] [--users FILE] [--groups FILE] [--stdin-name PATH] [FILE]..`
abbrev pub verify_shape : Shape
verify_shape = with_rules (codes "verify")
    (option_rule (codes "options") ∷ root_rule ∷ added_rule ∷ strict_rule ∷ flag_rule (codes "all") ∷ option_rule (codes "format") ∷ option_rule (codes "color")
    ∷ repeated_rule (codes "ignore") ∷ flag_rule (codes "no-summary") ∷ flag_rule (codes "no-style") ∷ flag_rule (codes "lint") ∷ flag_rule (codes "links")
    ∷ flag_rule (codes "udev") ∷ option_rule (codes "users") ∷ option_rule (codes "groups") ∷ option_rule (codes "stdin-name") ∷ files_rule ∷ [])

-- `events [--options FILE] [-r DIR] [--with FILE].. [--all] [--format FORMAT] [--sources] [--why FILE[:LINE]].. [--unused] [--questions] [--index FILE]
-- [--udev] [FILE]..`
abbrev pub events_shape : Shape
events_shape = with_rules (codes "events")
    (option_rule (codes "options") ∷ root_rule ∷ added_rule ∷ flag_rule (codes "all") ∷ option_rule (codes "format") ∷ flag_rule (codes "sources")
    ∷ repeated_rule (codes "why") ∷ flag_rule (codes "unused") ∷ flag_rule (codes "questions") ∷ option_rule (codes "index")
    ∷ flag_rule (codes "udev") ∷ files_rule ∷ [])

-- `files [--options FILE] [-r DIR] [--with FILE]..`
abbrev pub files_shape : Shape
files_shape = with_rules (codes "files") (option_rule (codes "options") ∷ root_rule ∷ added_rule ∷ [])

-- `compare [--options FILE] [--with FILE].. [--all] [--format FORMAT] [--sources] [--index FILE] [--udev] [--rules] OLD NEW`
abbrev pub compare_shape : Shape
compare_shape = with_rules (codes "compare")
    (option_rule (codes "options") ∷ added_rule ∷ flag_rule (codes "all") ∷ option_rule (codes "format") ∷ flag_rule (codes "sources")
    ∷ option_rule (codes "index") ∷ flag_rule (codes "udev") ∷ flag_rule (codes "rules") ∷ required_rule (codes "OLD") ∷ required_rule (codes "NEW") ∷ [])

-- `fmt [--options FILE] [--check] [--stdin-name PATH] FILE..`
abbrev pub fmt_shape : Shape
fmt_shape = with_rules (codes "fmt") (option_rule (codes "options") ∷ flag_rule (codes "check") ∷ option_rule (codes "stdin-name") ∷ mended_rule ∷ [])

-- `explain CODE`
abbrev pub explain_shape : Shape
explain_shape = with_rules (codes "explain") (required_rule (codes "CODE") ∷ [])

-- the program without its subcommands: the words come without its name, one subcommand has to be there, and each has
-- the program's version
abbrev pub program : App
program = record {
  top = record (new_shape (codes "devdry")) {
    no_binary_name = true;
    propagate_version = true;
    has_version = true;
    arg_required_else_help = true;
    subcommand_required = true;
  };
  subs = [];
}

-- `devdry` with its subcommands
unfoldable pub devdry : App
devdry = with_subcommand (with_subcommand (with_subcommand (with_subcommand (with_subcommand (with_subcommand (with_subcommand (with_subcommand program
    verify_shape) query_shape) update_shape) events_shape) files_shape) compare_shape) fmt_shape) explain_shape
