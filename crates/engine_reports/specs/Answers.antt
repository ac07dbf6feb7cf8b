-- The lines that answer a modalias.
use Rattle.std.specs.Prelude.{ℕ, Bool, ◌==◌, if◌then◌else◌, List, [], ◌∷◌, ◌++◌, length, codes, flat_map}
use Rattle.text_bytes.specs.Text.{Text}
use Rattle.text_bytes.specs.Names.{equals, newline}
use Rattle.trie_nodes.specs.Query.{Origin, query, sourced}
use Rattle.trie_nodes.specs.declared.entry.Entry.{Entry}
use Rattle.engine_sessions.specs.Places.{place_of}

-- a property's line, `KEY=VALUE`, both as they are in the database
unfoldable pub property_line : Text → Text → Text
property_line key value = key ++ equals ∷ value ++ newline ∷ []

-- the line of a pair of a key and its value
abbrev pub pair_line : Text × Text → Text
pair_line pair = property_line pair.0 pair.1

-- where a property comes from, `FILE:LINE: `, or `-: ` if that is not known
abbrev pub origin_of : Text → ℕ → Text
origin_of file line = if length file == 0 then codes "-: " else place_of file line

-- a property's line after where it comes from
unfoldable pub origin_line : Origin → Text
origin_line found = origin_of found.file found.line ++ property_line found.key found.value

-- the lines that answer a modalias, with or without where each property comes from
unfoldable pub answer_lines : Bool → List Entry → Text → Text
answer_lines sources entries modalias =
    if sources then flat_map origin_line (sourced entries modalias) else flat_map pair_line (query entries modalias)
