-- The answer to words that do not ask for a run.
use Rattle.std.specs.Prelude.{◌≡◌, ◌⊎◌, ◌++◌, ⊤, List, [], Option, Some, None, IsSomeAnd, MatchOption, codes, string_bytes}
use Rattle.clap.specs.Words.{IsAmong, Kinds, Row, Text}
use Rattle.clap.specs.declared.error.kind.ErrorKind.{ErrorKind}
use Rattle.clap.specs.declared.error.kind.ErrorKind.TheVariants as kind
use Rattle.engine_sessions.specs.declared.line.LineFault.{LineFault}
use Rattle.engine_sessions.specs.declared.line.LineFault.TheVariants.{Help, Usage, Memory}
use Rattle.file_catalogue.specs.Catalogue.{known_codes}
use Rattle.file_catalogue.specs.Sections.{explanation}
use Rattle.devdry_words.specs.declared.subcommands.Subcommand.TheVariants.{Explain}
use Rattle.devdry_words.specs.Refusals.{invalid_value, refusal_of, said_of}
use Rattle.devdry_words.specs.Requests.{subcommand_name}
use Rattle.devdry_words.specs.Values.{text_of}

-- help or the version is asked for, by the kind of clap's answer
abbrev pub AsksForHelp : ErrorKind → Type 0
AsksForHelp k = (k ≡ kind.DisplayHelp) ⊎ (k ≡ kind.DisplayVersion)

-- what is said after an unknown code
abbrev pub no_such_code : Text
no_such_code = codes "' for '<CODE>'\n  [possible values: " ++ known_codes ++ codes "]\n\nFor more information, try '--help'.\n"

-- help that `devdry` itself gives on the matches of a subcommand: for `explain` the section on the code
abbrev pub IsHelpOn : Text → List Row → Text → Type 0
IsHelpOn name rows text = (refusal_of name rows ≡ None) × (subcommand_name Explain ≡ name)
    × (explanation (text_of (codes "CODE") rows) ≡ Some text)

-- usage that it gives: why they are refused, or for `explain` that no section is on the code
abbrev pub IsUsageOn : Text → List Row → Text → Type 0
IsUsageOn name rows text = MatchOption (refusal_of name rows)
    ((subcommand_name Explain ≡ name) × (explanation (text_of (codes "CODE") rows) ≡ None)
    × (text ≡ invalid_value (text_of (codes "CODE") rows) no_such_code)) (λ r. text ≡ said_of r rows)

-- Help and usage answer one of the kinds of clap's errors; or there are none, and they are what `devdry` itself gives on
-- the subcommand that is named with its matches. Memory may run out in place of each.
abbrev pub AnswersWords : Kinds → Option (Text × List Row) → LineFault → Type 0
AnswersWords kinds asked (Help text) = ((k : ErrorKind) × IsAmong k kinds × AsksForHelp k)
    ⊎ ((kinds ≡ []) × IsSomeAnd asked (λ p. IsHelpOn p.0 p.1 (string_bytes text)))
AnswersWords kinds asked (Usage text) = ((k : ErrorKind) × IsAmong k kinds × (AsksForHelp k → ⊥))
    ⊎ ((kinds ≡ []) × IsSomeAnd asked (λ p. IsUsageOn p.0 p.1 (string_bytes text)))
AnswersWords kinds asked Memory = ⊤
