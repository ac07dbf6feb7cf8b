-- The words of a run, with those of a file of options.
use Rattle.std.specs.Prelude.{◌≡◌, ◌⊎◌, List, IsSomeAnd, MatchOption, None}
use Rattle.text_bytes.specs.Text.{Text}
use Rattle.engine_formats.specs.Masked.{masked}
use Rattle.devdry_files.specs.Answers.{Answer}
use Rattle.devdry_files.specs.Answers.Answer.{Content}
use Rattle.devdry_files.specs.Faults.{IsUnread}
use Rattle.devdry_folders.specs.declared.reading.Report.{Report}
use Rattle.engine_sessions.specs.Files.{bad_line, said_of, words_of}
use Rattle.devdry_words.specs.Options.{options_in, with_options}
use Rattle.devdry_gathering.specs.Reading.{Says}
use Rattle.devdry_gathering.specs.Said.{cannot_read, said_of_words}

-- words with those of the file of options at a path, in which no line is bad
abbrev pub IsMade : (Answer → Type 0) → (path : Text) → (given all : List Text) → Type 0
IsMade may path given all = (bytes : Text) × may (Content path bytes) × (bad_line bytes ≡ None) × (all ≡ with_options (words_of bytes) given)

-- all words of a run: those that are given, with those of the file of options that they name, if they name one
abbrev pub AreWords : (Answer → Type 0) → (given all : List Text) → Type 0
AreWords may given all = MatchOption (options_in given) (all ≡ given) (λ path. IsMade may path given all)

-- what is said of the file of options at a path that gives no words: with status 3 that it can't be read, its path masked, since the
-- format is known only once all words are; with status 2 what is wrong with its first bad line
abbrev pub IsBadFile : (Answer → Type 0) → (path : Text) → Report → Type 0
IsBadFile may path report = (IsUnread may path × Says (cannot_read (masked path)) 3 report)
    ⊎ ((bytes : Text) × may (Content path bytes) × IsSomeAnd (bad_line bytes) (λ line. Says (said_of_words (said_of path line)) 2 report))

-- what is said of words that name a file of options which gives none
abbrev pub AreBadWords : (Answer → Type 0) → (given : List Text) → Report → Type 0
AreBadWords may given report = IsSomeAnd (options_in given) (λ path. IsBadFile may path report)
