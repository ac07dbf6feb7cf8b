-- The paths of the files that rules import, as the rules name them.
use Rattle.std.specs.Prelude.{◌^◌, ◌∷◌, nat_le, Bool, true, false, List, [], Option, Some, None, codes, flat_map, if◌then◌else◌, is_some}
use Rattle.std.specs.Option.{option_to_list}
use Rattle.text_bytes.specs.Text.{Text}
use Rattle.text_bytes.specs.Names.{slash}
use Rattle.text_bytes.specs.Texts.{begins_with, following}
use Rattle.text_bytes.specs.declared.profile.Profile.TheVariants.{Udev}
use Rattle.text_bytes.specs.declared.source_file.FileKind.TheVariants.{Rules}
use Rattle.text_bytes.specs.declared.source_file.SourceFile.{SourceFile}
use Rattle.engine_sessions.specs.Kinds.{same_kind}
use Rattle.rule_core.specs.Ends.{file_as_read}
use Rattle.rule_core.specs.Rules.{set_of_as}
use Rattle.rule_tokens.specs.declared.piece.Piece.{Piece}
use Rattle.rule_tokens.specs.declared.piece.Piece.TheVariants.{Plain}
use Rattle.rule_types.specs.declared.part.Act.{Act}
use Rattle.rule_types.specs.declared.part.ActKind.{ActKind}
use Rattle.rule_types.specs.declared.part.ActKind.TheVariants as act_kind
use Rattle.rule_types.specs.declared.part.Import.TheVariants as import
use Rattle.rule_types.specs.Rules.{Rule, tokens_in}

-- the path that a piece is, if it begins with a slash and is not a substitution
abbrev pub path_of_piece : Piece → Option Text
path_of_piece (Plain text) = if begins_with slash text then Some text else None
path_of_piece piece = None

-- the path that pieces are, if they are one text without substitutions
abbrev pub path_of_pieces : List Piece → Option Text
path_of_pieces (piece ∷ []) = path_of_piece piece
path_of_pieces pieces = None

-- the path of the file that an act imports, if it is written in full
abbrev pub path_of_kind : ActKind → Option Text
path_of_kind (act_kind.Import (import.File template)) = path_of_pieces template.pieces
path_of_kind kind = None

-- the paths that rules name in full, in their order
abbrev pub paths_of : List Rule → List Text
paths_of rules = flat_map (λ r. flat_map (λ act. option_to_list (path_of_kind act.kind)) r.acts) rules

-- the same, if the rules hold no more than rules may
abbrev pub paths_within : List Rule → List Text
paths_within rules = if nat_le (tokens_in rules) (2 ^ 24) then paths_of rules else []

-- whether a text has the key of such an act
abbrev pub mentions : Text → Bool
mentions [] = false
mentions (b ∷ text) = if is_some (following (codes "IMPORT{file}") (b ∷ text)) then true else mentions text

-- the paths that the rules of a file name in full, as udev reads them; a file without the key is not read as rules
unfoldable pub paths_in : SourceFile → List Text
paths_in file =
    if same_kind file.kind Rules then (if mentions file.bytes then paths_within (set_of_as Udev (file_as_read Udev file ∷ [])).rules else [])
    else []

-- the paths that the rules of files name in full, in the order of the files and rules
abbrev pub paths_named : List SourceFile → List Text
paths_named files = flat_map paths_in files
