-- The settings that words ask for, which are those of a file of options of `devdry verify`.
use Rattle.std.specs.Prelude.{Bool, ◌||◌, not, nat_eq, if◌then◌else◌, List, ◌++◌, Option, Some, None, Result, Ok, Err, codes, drop, find}
use Rattle.std.specs.List.{filter_map, starts_with}
use Rattle.std.specs.Option.{option_map_or}
use Rattle.text_bytes.specs.declared.profile.Profile.TheVariants.{Manual, Udev}
use Rattle.text_bytes.specs.Text.{Text}
use Rattle.text_tables.specs.Texts.{is_among}
use Rattle.engine_sessions.specs.Words.{is_word}
use Rattle.engine_sessions.specs.Places.{word_part}
use Rattle.file_catalogue.specs.Ignored.{ignored_codes, unknown_ignored}
use Rattle.lsp_answers.specs.Settings.{Settings}

-- how `--ignore` begins
abbrev pub ignore_option : Text
ignore_option = codes "--ignore="

-- the value of a word that is `--ignore`
abbrev pub ignore_value : Text → Option Text
ignore_value word = if starts_with nat_eq word ignore_option then Some (drop 9 word) else None

-- the values of `--ignore` among words
abbrev pub ignore_values : List Text → List Text
ignore_values words = filter_map ignore_value words

-- the settings that words ask for; a word that is about files, folders or outputs asks for nothing here
abbrev pub settings_by : List Text → Settings
settings_by words = record {
  profile = if is_among words (codes "--strict") || is_among words (codes "--udev") then Udev else Manual;
  style = not (is_among words (codes "--no-style"));
  lint = is_among words (codes "--strict") || is_among words (codes "--lint");
  ignored = ignored_codes (ignore_values words);
}

-- what is said about an unknown part of `--ignore`
abbrev pub no_such_code : Text → Text
no_such_code part = codes "no such code" ++ word_part part

-- the settings that words ask for, or what is said about the first unknown part of `--ignore`
abbrev pub asked_for : List Text → Result Settings Text
asked_for words = option_map_or (λ part. Err (no_such_code part)) (unknown_ignored (ignore_values words)) (Ok (settings_by words))

-- what is said about a word that is no option
abbrev pub no_such_option : Text → Text
no_such_option word = codes "no such option" ++ word_part word

-- the first word that is no option, if there is one
abbrev pub first_other : List Text → Option Text
first_other words = find (λ word. not (is_word word)) words

-- the settings that these words ask for, or what is said about the first of them that is no option
unfoldable pub settings_of : List Text → Result Settings Text
settings_of words = option_map_or (λ word. Err (no_such_option word)) (first_other words) (asked_for words)
