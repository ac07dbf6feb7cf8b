-- Serves inner proofs only: drop-ins by the name of the file that they are for.
use Rattle.std.specs.Prelude.{Bool, false, not, List, [], Vec, map, option_and_then, unwrap_or, codes}
use Rattle.std.specs.Borrow.{Bor}
use Rattle.std.specs.Option.{option_map_or}
use Rattle.indexmap.specs.IndexMap.{IndexMap}
use Rattle.text_bytes.specs.Names.{dot}
use Rattle.text_bytes.specs.Text.{Text}
use Rattle.text_bytes.specs.Texts.{begins_with, following}
use Rattle.text_bytes.specs.declared.source_file.SourceFile.{SourceFile}
use Rattle.text_tables.specs.Pairs.{value_of}

-- whether what follows the name of a file in another name makes that one a drop-in of it
abbrev pub is_drop_in_name : Text → Bool
is_drop_in_name rest = option_map_or (λ name. not (begins_with dot name)) (following (codes ".d/") rest) false

-- whether a file is a drop-in of the file with a name
abbrev pub is_for : Text → SourceFile → Bool
is_for name other = option_map_or (λ n. not (begins_with dot n)) (option_and_then (following (codes ".d/")) (following name other.name)) false

-- the drop-ins that a map has for a name
abbrev pub own_of : {S A : Type 0} → IndexMap (Bor Text) (Vec (Bor SourceFile) A) S → Text → List SourceFile
own_of owners name = unwrap_or (value_of (map (λ e. (e.0.now, map (λ f. f.now) e.1.items)) owners.entries) name) []
