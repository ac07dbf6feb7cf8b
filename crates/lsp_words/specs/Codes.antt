-- The code of a message at a place of a comment.
use Rattle.std.specs.Prelude.{ℕ, ◌+◌, ◌-◌, Bool, false, ◌&&◌, ◌==◌, if◌then◌else◌, [], ◌∷◌, drop, length, take, Option, Some, None}
use Rattle.std.specs.Char.{is_ascii_alphanumeric, is_ascii_uppercase}
use Rattle.std.specs.List.{list_any, prefix_len, suffix_len}
use Rattle.text_bytes.specs.Names.{hash}
use Rattle.text_bytes.specs.Numbers.{is_decimal}
use Rattle.text_bytes.specs.Texts.{begins_with, unindented}
use Rattle.text_bytes.specs.declared.source_file.FileKind.{FileKind}
use Rattle.text_bytes.specs.declared.source_file.FileKind.TheVariants as file
use Rattle.text_bytes.specs.Text.{Text}
use Rattle.lsp_words.specs.declared.codes.CodeWord.{CodeWord}

-- whether a word is written like a code: a capital letter and a number
abbrev pub is_code : Text → Bool
is_code [] = false
is_code (letter ∷ digits) = is_ascii_uppercase letter && is_decimal digits

-- whether the end of these bytes of a row is in a comment
abbrev pub is_comment : FileKind → Text → Bool
is_comment file.Rules before = begins_with hash (unindented before)
is_comment file.Hwdb before = list_any (λ b. b == hash) before

-- the word of letters and digits at a place of a row, if it is a code in a comment
unfoldable pub code_at : FileKind → Text → ℕ → Option CodeWord
code_at f row at =
    let before = take at row in
    let start = length before - suffix_len is_ascii_alphanumeric before in
    let end = length before + prefix_len is_ascii_alphanumeric (drop at row) in
    if is_comment f before && is_code (take (end - start) (drop start row)) then Some (record { start = start; end = end }) else None
