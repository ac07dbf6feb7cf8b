-- The codes of remarks, by which `--ignore` and comments name them.
use Rattle.std.specs.Prelude.{Bool, true, false, List, codes}
use Rattle.std.specs.Option.{option_map_or}
use Rattle.text_bytes.specs.Text.{Text}
use Rattle.text_tables.specs.Texts.{is_among}
use Rattle.file_catalogue.specs.Catalogue.{remark_of}
use Rattle.file_catalogue.specs.declared.remark.Remark.{Remark}
use Rattle.file_catalogue.specs.declared.remark.Remark.TheVariants.{Message, Lint, DatabaseLint, LinkFault}

-- whether a remark is about what is found in a file, a message or a lint, and not about a comment
abbrev pub is_found : Remark → Bool
is_found (Message kind) = true
is_found (Lint lint) = true
is_found (DatabaseLint lint) = true
is_found (LinkFault fault) = true
is_found _ = false

-- whether a text is the code of something that can be found in a file
abbrev pub is_code : Text → Bool
is_code code = option_map_or is_found (remark_of code) false

-- the word among the codes of `--ignore` that lets comments count
abbrev pub comments_word : Text
comments_word = codes "comments"

-- whether the texts of `--ignore` let comments count
abbrev pub has_comments : List Text → Bool
has_comments texts = is_among texts comments_word
