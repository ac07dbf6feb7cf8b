-- Words that name a subcommand, and what is said about its matches. It serves proofs alone.
use Rattle.std.specs.Prelude.{◌≡◌, ⊤, List, Option, IsSomeAnd, MatchOption, codes, string_bytes}
use Rattle.clap.specs.Words.{Row, Text}
use Rattle.clap.specs.declared.error.kind.ErrorKind.{ErrorKind}
use Rattle.engine_sessions.specs.declared.line.LineFault.{LineFault}
use Rattle.engine_sessions.specs.declared.line.LineFault.TheVariants.{Help, Usage, Memory}
use Rattle.file_catalogue.specs.Sections.{explanation}
use Rattle.devdry_words.specs.Answers.{AsksForHelp, no_such_code}
use Rattle.devdry_words.specs.Refusals.{invalid_value, refusal_of, said_of}
use Rattle.devdry_words.specs.Requests.{subcommand_name}
use Rattle.devdry_words.specs.Values.{text_of}
use Rattle.devdry_words.specs.declared.subcommands.Subcommand.{Subcommand}
use Rattle.devdry_words.specs.declared.subcommands.Subcommand.TheVariants.{Explain}

-- a name is that of a subcommand
abbrev pub IsSubcommandName : Text → Type 0
IsSubcommandName name = (s : Subcommand) × (subcommand_name s ≡ name)

-- the words name a subcommand
abbrev pub NamesSubcommand : Option (Text × List Row) → Type 0
NamesSubcommand asked = IsSomeAnd asked (λ p. IsSubcommandName p.0)

-- help answers a request for it, usage any other kind, and out of memory may answer each
abbrev pub AnswersKind : LineFault → ErrorKind → Type 0
AnswersKind (Help text) k = AsksForHelp k
AnswersKind (Usage text) k = AsksForHelp k → ⊥
AnswersKind Memory k = ⊤

-- it is usage with this text, or memory ran out
abbrev pub IsUsageOf : Text → LineFault → Type 0
IsUsageOf said (Help text) = ⊥
IsUsageOf said (Usage text) = string_bytes text ≡ said
IsUsageOf said Memory = ⊤

-- it is help with a text for which this holds, or memory ran out
abbrev pub IsHelpWith : (Text → Type 0) → LineFault → Type 0
IsHelpWith P (Help text) = P (string_bytes text)
IsHelpWith P (Usage text) = ⊥
IsHelpWith P Memory = ⊤

-- a code is answered with the section on it, and a text that is not a code with usage that lists the codes
abbrev pub Explains : Text → LineFault → Type 0
Explains code fault =
    MatchOption (explanation code) (IsUsageOf (invalid_value code no_such_code) fault) (λ section. IsHelpWith (λ said. said ≡ section) fault)

-- why the matches of a subcommand are refused, or for `explain` the section
abbrev pub AnswersMatches : Text → List Row → LineFault → Type 0
AnswersMatches name rows fault =
    MatchOption (refusal_of name rows) ((subcommand_name Explain ≡ name) × Explains (text_of (codes "CODE") rows) fault) (λ r. IsUsageOf (said_of r rows) fault)

-- the same, for a subcommand that is named with its matches
abbrev pub AnswersSubcommand : Option (Text × List Row) → LineFault → Type 0
AnswersSubcommand asked fault = IsSomeAnd asked (λ p. AnswersMatches p.0 p.1 fault)
