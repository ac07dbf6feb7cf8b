-- How to fix what a diagnostic is about, where its text tells more than its code.
use Rattle.std.specs.Prelude.{◌+◌, ◌==◌, Bool, if◌then◌else◌, nat_eq, [], ◌∷◌, ◌++◌, Option, Some, None, codes, length}
use Rattle.std.specs.List.{starts_with}
use Rattle.text_bytes.specs.Text.{Text}
use Rattle.text_bytes.specs.Names.{carriage_return}
use Rattle.text_bytes.specs.Texts.{begins_with}
use Rattle.file_messages.specs.declared.message.MessageKind.{MessageKind}
use Rattle.file_messages.specs.declared.message.MessageKind.TheVariants.{BadSyntax, CommaExpected}
use Rattle.file_catalogue.specs.Catalogue.{advice_of}
use Rattle.engine_formats.specs.Diagnostics.{DiagnosticValue}
use Rattle.engine_formats.specs.Meant.{meant_as}
use Rattle.file_catalogue.specs.declared.remark.Remark.{Remark}
use Rattle.file_catalogue.specs.declared.remark.Remark.TheVariants.{Message}

-- U+FEFF and U+00A0 in UTF-8
abbrev pub byte_order_mark : Text
byte_order_mark = 239 ∷ 187 ∷ 191 ∷ []

abbrev pub no_break_space : Text
no_break_space = 194 ∷ 160 ∷ []

-- the sentence on a text that is no part of a rule, by what it begins with: what nobody sees in an editor is named
abbrev pub advice_on_text : Text → Text → Text
advice_on_text otherwise word =
    if starts_with nat_eq word byte_order_mark then codes "The file begins with a byte order mark, which an editor does not show: save it as UTF-8 without one."
    else if starts_with nat_eq word no_break_space then codes "Here is a no-break space, which looks like a space: write a space."
    else if begins_with carriage_return word then codes "The line ends in CR LF, as on Windows: save the file with LF alone."
    else otherwise

-- whether the place of a diagnostic goes to the end of its line
abbrev pub is_at_end : DiagnosticValue → Bool
is_at_end d = d.end == length d.source + 1

-- the sentence on a comma, by whether it ends its line
abbrev pub advice_on_comma : Text → Bool → Text
advice_on_comma otherwise at_end =
    if at_end then codes "Remove the comma at the end, or write a backslash after it if the rule goes on in the next line."
    else otherwise

-- the sentence on messages of a kind, by the diagnostic
abbrev pub hint_on : MessageKind → DiagnosticValue → Text
hint_on BadSyntax d = advice_on_text (advice_of d.remark) d.word
hint_on CommaExpected d = advice_on_comma (advice_of d.remark) (is_at_end d)
hint_on _ d = advice_of d.remark

-- the sentence on a diagnostic if no known name is near
abbrev pub advice_by : Remark → DiagnosticValue → Text
advice_by (Message kind) d = hint_on kind d
advice_by _ d = advice_of d.remark

-- the question whether a name was meant
abbrev pub question : Text → Text
question name = codes "Did you mean " ++ name ++ codes "?"

-- the sentence with the name that may have been meant, if there is one
abbrev pub advice_with : Text → Option Text → Text
advice_with otherwise (Some name) = question name
advice_with otherwise None = otherwise

-- the sentence on a diagnostic
abbrev pub advice_for : DiagnosticValue → Text
advice_for d = advice_with (advice_by d.remark d) (meant_as d.remark d.word)
