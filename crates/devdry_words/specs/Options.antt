-- Words with those of a file of options.
use Rattle.std.specs.Prelude.{◌&&◌, ◌||◌, ◌++◌, Bool, List, [], ◌∷◌, Option, None, codes, filter, is_some, not, if◌then◌else◌}
use Rattle.std.specs.List.{list_any}
use Rattle.std.specs.Option.{option_map_or}
use Rattle.clap.specs.Words.{Row, Text, fault_of, first_of, subcommand_of}
use Rattle.text_bytes.specs.Texts.{is_empty}
use Rattle.engine_sessions.specs.Names.{flag_names, valued_names}
use Rattle.engine_sessions.specs.Words.{has_value_of, is_flag}
use Rattle.devdry_words.specs.Commands.{devdry}
use Rattle.devdry_words.specs.Values.{is_set}

-- the matches of the subcommand that words name, none if they name none
abbrev pub matches_in : List Text → List Row
matches_in words = option_map_or (λ p. p.1) (subcommand_of devdry words) []

-- the file of options that words name, if clap takes them
abbrev pub options_in : List Text → Option Text
options_in words = if is_empty (fault_of devdry words) then first_of (codes "options") (matches_in words) else None

-- matches have a flag, and the word is it
abbrev pub has_flag : List Row → (word name : Text) → Bool
has_flag rows word name = is_flag word name && is_set name rows

-- matches have a value of an option, and the word gives it one
abbrev pub has_option : List Row → (word name : Text) → Bool
has_option rows word name = has_value_of word name && is_some (first_of name rows)

-- matches have what a word gives, and it can be given once
abbrev pub has_given : List Row → Text → Bool
has_given rows word = list_any (has_flag rows word) flag_names || list_any (has_option rows word) valued_names

-- what a file adds to words with these matches: its words, without those whose option the matches have, if it can be
-- given once
abbrev pub added_to : List Row → List Text → List Text
added_to rows added = filter (λ word. not (has_given rows word)) added

-- words with others behind the first one, which names the subcommand
abbrev pub behind_first : (more words : List Text) → List Text
behind_first more [] = []
behind_first more (name ∷ others) = name ∷ (more ++ others)

-- words with those that a file adds
abbrev pub with_options : (added words : List Text) → List Text
with_options added words = behind_first (added_to (matches_in words) added) words
