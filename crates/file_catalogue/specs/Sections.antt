-- The section on each code.
use Rattle.std.specs.Prelude.{◌≡◌, ℕ, Bool, ◌==◌, not, List, [], ◌∷◌, ◌+◌, ◌++◌, Option, drop, filter, find, length, map, take}
use Rattle.std.specs.Str.{str_eq_ignore_ascii_case}
use Rattle.text_bytes.specs.Text.{Text}
use Rattle.text_bytes.specs.Names.{newline, space}
use Rattle.text_bytes.specs.Texts.{up_to}
use Rattle.file_catalogue.specs.Catalogue.{advice_of, remark_heading}
use Rattle.file_catalogue.specs.declared.remark.Remark.{Remark}
use Rattle.file_catalogue.specs.declared.texts.TheConstants.{LINT_SECTIONS, MESSAGE_SECTIONS}

-- the section on each code of a message and on each other code: the texts of the code
unfoldable pub message_sections : List Text
message_sections = map (λ section. section.now) MESSAGE_SECTIONS

unfoldable pub lint_sections : List Text
lint_sections = map (λ section. section.now) LINT_SECTIONS

-- the section on each code
abbrev pub sections : List Text
sections = message_sections ++ lint_sections

-- whether a section is that on a code, whose letter may be written in either case: its first word is the code
abbrev pub is_on : Text → Text → Bool
is_on section code = str_eq_ignore_ascii_case (up_to space section) code

-- the section on a code, if there is one
unfoldable pub explanation : Text → Option Text
explanation code = find (λ section. is_on section code) sections

-- the sign around code in a text
abbrev pub backtick : ℕ
backtick = 96

-- a text without its backticks
abbrev pub unquoted : Text → Text
unquoted text = filter (λ b. not (b == backtick)) text

-- the text begins with the line of the remark's heading and an empty line
abbrev pub HasHeading : Remark → Text → Type 0
HasHeading remark text = take (length (remark_heading remark) + 2) text ≡ remark_heading remark ++ newline ∷ newline ∷ []

-- after these the text goes on, apart from backticks, with how to fix what the remark is about
abbrev pub HasAdvice : Remark → Text → Type 0
HasAdvice remark text = take (length (advice_of remark)) (unquoted (drop (length (remark_heading remark) + 2) text)) ≡ advice_of remark
