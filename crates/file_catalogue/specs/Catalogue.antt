-- What is known of each code.
use Rattle.std.specs.Prelude.{Bool, if◌then◌else◌, List, [], ◌∷◌, ◌++◌, Option, codes, find, map, nat_eq, option_map}
use Rattle.std.specs.Option.{option_map_or}
use Rattle.std.specs.Borrow.{Bor}
use Rattle.std.specs.Cmp.Lexicographic.{pointwise}
use Rattle.std.specs.List.{join_by, list_any}
use Rattle.text_bytes.specs.Text.{Text}
use Rattle.text_bytes.specs.Names.{space}
use Rattle.text_bytes.specs.Texts.{begins_with}
use Rattle.file_catalogue.specs.declared.lint_rows.TheConstants.{LINTS}
use Rattle.file_catalogue.specs.declared.message_rows.TheConstants.{MESSAGES}
use Rattle.file_catalogue.specs.declared.remark.Remark.{Remark}
use Rattle.file_catalogue.specs.declared.remark.Severity.{Severity}
use Rattle.file_catalogue.specs.declared.remark.Severity.TheVariants.{Error, Warning}
use Rattle.file_catalogue.specs.contracts.remark.RemarkPartialEq.TheImpl as equality

-- what is known of a code
pub record Row : Type 0 where
  pub remark : Remark
  pub code : Text
  pub text : Text
  pub advice : Text

-- a row of a table, as its texts
abbrev pub row_of : Remark × Bor Text × Bor Text × Bor Text → Row
row_of row = record { remark = row.0; code = row.1.now; text = row.2.now; advice = row.3.now }

-- the row of each code of a message and of each other code: the tables of the code
unfoldable pub messages : List Row
messages = map (λ row. record { remark = row.0; code = row.1.now; text = row.2.now; advice = row.3.now }) MESSAGES

unfoldable pub lints : List Row
lints = map (λ row. record { remark = row.0; code = row.1.now; text = row.2.now; advice = row.3.now }) LINTS

-- the row of each code: V, S, H, W, D, L and I
abbrev pub catalogue : List Row
catalogue = messages ++ lints

-- whether two remarks are the same
abbrev pub is_same : Remark → Remark → Bool
is_same one other = (equality.ghosts).eq one other

-- the row on a remark
unfoldable pub row_on : Remark → Option Row
row_on remark = find (λ row. is_same row.remark remark) catalogue

-- the code of a remark
abbrev pub code_of : Remark → Text
code_of remark = option_map_or (λ row. row.code) (row_on remark) []

-- what a remark says, without its code
abbrev pub text_of : Remark → Text
text_of remark = option_map_or (λ row. row.text) (row_on remark) []

-- how to fix what a remark is about, in one sentence
abbrev pub advice_of : Remark → Text
advice_of remark = option_map_or (λ row. row.advice) (row_on remark) []

-- the code of a remark, and what it says
abbrev pub remark_heading : Remark → Text
remark_heading remark = code_of remark ++ space ∷ text_of remark

-- how severe a remark is, by the letter of its code: S, I, W and D are warnings, all others errors
abbrev pub severity_of : Remark → Severity
severity_of remark = if list_any (λ letter. begins_with letter (code_of remark)) (codes "SIWD") then Warning else Error

-- the word for how severe something is
abbrev pub severity_word : Severity → Text
severity_word Error = codes "error"
severity_word Warning = codes "warning"

-- each remark, and each code, in the order of the rows
unfoldable pub remarks : List Remark
remarks = map (λ row. row.remark) catalogue

unfoldable pub all_codes : List Text
all_codes = map (λ row. row.code) catalogue

-- the codes in one line
unfoldable pub known_codes : Text
known_codes = join_by (λ code. code) (codes ", ") all_codes

-- the remark with a code, if there is one
unfoldable pub remark_of : Text → Option Remark
remark_of code = option_map (λ row. row.remark) (find (λ row. pointwise nat_eq row.code code) catalogue)
