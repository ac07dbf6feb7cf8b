-- What holds of each row of the table, and so of each remark.
use Rattle.std.proofs.Common.{◌≡◌, ◌∙◌, ℕ, Bool, ◌==◌, ◌&&◌, ◌||◌, ap, true, false, cond, not, List, [], ◌∷◌, ◌++◌, ◌+◌, Option, Some, None, IsSomeAnd, drop, length, map, nat_eq, refl, take}
use Rattle.std.specs.Option.{option_map_or}
use Rattle.std.specs.List.{list_all, list_any}
use Rattle.std.proofs.lemmas.List.Folds.{list_any-append}
use Rattle.std.specs.Cmp.Lexicographic.{bytes_decides, pointwise}
use Rattle.text_bytes.specs.Names.{newline, space}
use Rattle.text_bytes.specs.Text.{Text}
use Rattle.text_bytes.specs.Texts.{begins_with, up_to}
use Rattle.file_messages.specs.Messages.{is_style}
use Rattle.file_catalogue.specs.declared.remark.Remark.{Remark}
use Rattle.file_catalogue.specs.declared.remark.Remark.TheVariants as about
use Rattle.file_catalogue.specs.declared.remark.Severity.{Severity}
use Rattle.file_catalogue.specs.declared.remark.Severity.TheVariants.{Error, Warning}
use Rattle.file_catalogue.specs.Catalogue.{Row, advice_of, all_codes, catalogue, code_of, lints, messages, remark_heading, severity_of, text_of}
use Rattle.file_catalogue.specs.Sections.{HasAdvice, HasHeading, explanation, lint_sections, message_sections, sections, unquoted}
use Rattle.file_catalogue.proofs.Each.{holds_of_each}

is_false : (b : Bool) → not b ≡ true → b ≡ false
is_false true e = cc
is_false false e = refl

-- whether a text has a byte
abbrev pub has : ℕ → Text → Bool
has byte text = list_any (λ b. b == byte) text

-- no code has a space, and the words on a remark stay on their line
abbrev pub is_plain : Row → Bool
is_plain row = not (has space row.code) && ((not (has newline row.code) && not (has newline row.text)) && not (has newline row.advice))

all_plain : list_all is_plain catalogue ≡ true
unfolding messages lints
all_plain = refl

both : (a b : Bool) → (a && b) ≡ true → (a ≡ true) × (b ≡ true)
both true true e = (refl, refl)
both true false e = cc
both false b e = cc

codes_part : (remark : Remark) → (not (has space (code_of remark)) ≡ true)
    × (((not (has newline (code_of remark)) && not (has newline (text_of remark))) && not (has newline (advice_of remark))) ≡ true)
codes_part remark = both _ _ (holds_of_each is_plain all_plain remark)

lines_part : (remark : Remark) → ((not (has newline (code_of remark)) && not (has newline (text_of remark))) ≡ true) × (not (has newline (advice_of remark)) ≡ true)
lines_part remark = both _ _ (codes_part remark).1

pub code_has_no_space : (remark : Remark) → has space (code_of remark) ≡ false
code_has_no_space remark = is_false _ (codes_part remark).0

pub code_lacks : (remark : Remark) → has newline (code_of remark) ≡ false
code_lacks remark = is_false _ (both _ _ (lines_part remark).0).0

pub text_lacks : (remark : Remark) → has newline (text_of remark) ≡ false
text_lacks remark = is_false _ (both _ _ (lines_part remark).0).1

pub advice_lacks : (remark : Remark) → has newline (advice_of remark) ≡ false
advice_lacks remark = is_false _ (lines_part remark).1

has_append : (byte : ℕ) (first second : Text) → has byte first ≡ false → has byte second ≡ false → has byte (first ++ second) ≡ false
has_append byte first second p q = list_any-append (λ b. b == byte) first second ∙ ap (λ b. b || has byte second) p ∙ q

pub heading_lacks : (remark : Remark) → has newline (remark_heading remark) ≡ false
heading_lacks remark = has_append newline (code_of remark) (space ∷ text_of remark) (code_lacks remark) (text_lacks remark)

-- how severe a remark is by what it is about
abbrev pub by_kind : Remark → Severity
by_kind (about.Message kind) = cond (is_style kind) Warning Error
by_kind (about.Lint lint) = Warning
by_kind (about.DatabaseLint lint) = Warning
by_kind (about.LinkFault fault) = Error
by_kind about.IdleIgnore = Warning
by_kind about.UnknownCode = Warning

-- how severe it is by a letter
abbrev pub by_letter : Text → Severity
by_letter code = cond (list_any (λ letter. begins_with letter code) (83 ∷ 73 ∷ 87 ∷ 68 ∷ [])) Warning Error

abbrev pub are_same : Severity → Severity → Bool
are_same Error Error = true
are_same Warning Warning = true
are_same Error Warning = false
are_same Warning Error = false

same_severity : (one other : Severity) → are_same one other ≡ true → one ≡ other
same_severity Error Error e = refl
same_severity Warning Warning e = refl
same_severity Error Warning e = cc
same_severity Warning Error e = cc

severities : list_all (λ row. are_same (by_letter row.code) (by_kind row.remark)) catalogue ≡ true
unfolding messages lints
severities = refl

pub severity_told : (remark : Remark) → severity_of remark ≡ by_kind remark
severity_told remark = same_severity _ _ (holds_of_each (λ row. are_same (by_letter row.code) (by_kind row.remark)) severities remark)

-- the sections are in the order of the codes
pub in_order : map (up_to space) sections ≡ all_codes
unfolding message_sections lint_sections all_codes messages lints
in_order = refl

-- the heading of a row, with the line after it
abbrev pub heading_in : Row → Text
heading_in row = row.code ++ space ∷ row.text

abbrev pub has_heading : Row → Text → Bool
has_heading row section = pointwise nat_eq (take (length (heading_in row) + 2) section) (heading_in row ++ newline ∷ newline ∷ [])

abbrev pub has_advice : Row → Text → Bool
has_advice row section = pointwise nat_eq (take (length row.advice) (unquoted (drop (length (heading_in row) + 2) section))) row.advice

headings : list_all (λ row. option_map_or (has_heading row) (explanation row.code) false) catalogue ≡ true
unfolding explanation message_sections lint_sections messages lints
headings = refl

advices : list_all (λ row. option_map_or (has_advice row) (explanation row.code) false) catalogue ≡ true
unfolding explanation message_sections lint_sections messages lints
advices = refl

-- what is tested of a text that is there holds of it
told_of : (found : Option Text) (test : Text → Bool) (P : Text → Type 0) → ((text : Text) → test text ≡ true → P text) → option_map_or test found false ≡ true → IsSomeAnd found P
told_of (Some text) test P made e = made text e
told_of None test P made e = cc

pub heading_told : (remark : Remark) → IsSomeAnd (explanation (code_of remark)) (HasHeading remark)
heading_told remark =
    told_of (explanation (code_of remark)) _ (HasHeading remark) (λ text e. (bytes_decides (take (length (remark_heading remark) + 2) text) (remark_heading remark ++ newline ∷ newline ∷ [])).0 e)
    (holds_of_each (λ row. option_map_or (has_heading row) (explanation row.code) false) headings remark)

pub advice_told : (remark : Remark) → IsSomeAnd (explanation (code_of remark)) (HasAdvice remark)
advice_told remark =
    told_of (explanation (code_of remark)) _ (HasAdvice remark)
    (λ text e. (bytes_decides (take (length (advice_of remark)) (unquoted (drop (length (remark_heading remark) + 2) text))) (advice_of remark)).0 e)
    (holds_of_each (λ row. option_map_or (has_advice row) (explanation row.code) false) advices remark)
