-- What a user's words ask for.
use Rattle.std.specs.Prelude.{◌≡◌, if◌then◌else◌, List, [], ◌∷◌, Option, None, IsSomeAnd, codes}
use Rattle.clap.specs.Words.{Row, Text}
use Rattle.engine_sessions.specs.declared.line.Request.{Request}
use Rattle.engine_sessions.specs.declared.line.Request.TheVariants as request
use Rattle.engine_sessions.specs.declared.line.Verb.TheVariants.{Events}
use Rattle.devdry_words.specs.declared.subcommands.Subcommand.{Subcommand}
use Rattle.devdry_words.specs.declared.subcommands.Subcommand.TheVariants.{Run, Files, Compare, Explain}
use Rattle.devdry_words.specs.Lines.{Reads, files_of, name_of}
use Rattle.devdry_words.specs.Refusals.{refusal_of}
use Rattle.devdry_words.specs.Values.{is_set, text_of, texts_of}

-- the name of a subcommand
abbrev pub subcommand_name : Subcommand → Text
subcommand_name (Run verb) = name_of verb
subcommand_name Files = codes "files"
subcommand_name Compare = codes "compare"
subcommand_name Explain = codes "explain"

-- the files that are added to those of the folders
abbrev pub added_of : List Row → List Text
added_of rows = texts_of (codes "with") rows

-- the root of a side of `compare`: what is named, or none where rules are compared
abbrev pub side_root : Text → List Row → Text
side_root id rows = if is_set (codes "rules") rows then [] else text_of id rows

-- the files of a side of `compare`: what is named where rules are compared, or none
abbrev pub side_files : Text → List Row → List Text
side_files id rows = if is_set (codes "rules") rows then text_of id rows ∷ [] else []

-- a subcommand of this name asks for the request with these matches: one that is run for its line below the root,
-- `files` for the line of `events` below the root, and `compare` for two such lines, one below each of its roots or for each
-- of the rules that are compared; files are added to the new one alone
abbrev pub AsksFor : Text → List Row → Request → Type 0
AsksFor name rows (request.Run line) = (name_of line.verb ≡ name) × Reads line.verb (text_of (codes "root") rows) (added_of rows) (files_of rows) rows line
AsksFor name rows (request.Files line) = (subcommand_name Files ≡ name) × Reads Events (text_of (codes "root") rows) (added_of rows) (files_of rows) rows line
AsksFor name rows (request.Compare old new) = (subcommand_name Compare ≡ name)
    × Reads Events (side_root (codes "OLD") rows) [] (side_files (codes "OLD") rows) rows old
    × Reads Events (side_root (codes "NEW") rows) (added_of rows) (side_files (codes "NEW") rows) rows new

-- the subcommand, named with its matches, asks for the request, and is not refused
abbrev pub IsRequestOf : Option (Text × List Row) → Request → Type 0
IsRequestOf asked r = IsSomeAnd asked (λ p. AsksFor p.0 p.1 r × (refusal_of p.0 p.1 ≡ None))
