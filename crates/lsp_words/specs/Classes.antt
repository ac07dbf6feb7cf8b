-- What a byte may be in a row of a rules file.
use Rattle.std.specs.Prelude.{ℕ, Bool, ◌||◌, ◌==◌, if◌then◌else◌}
use Rattle.rule_tokens.specs.Grammar.{is_key_byte}
use Rattle.text_bytes.specs.Names.{backslash, bang, bar, close_brace, colon, dollar, double_quote, equals, hash, is_blank, minus, open_brace, percent, plus}
use Rattle.lsp_words.specs.declared.classes.Class.{Class}
use Rattle.lsp_words.specs.declared.classes.Class.TheVariants.{Letter, Operator, Blank, Quote, OpenBrace, CloseBrace, Backslash, Hash, Bar, Sign, Other}

-- a byte of operators
abbrev pub is_operator_byte : ℕ → Bool
is_operator_byte b = b == equals || (b == bang || (b == plus || (b == minus || b == colon)))

-- the class of a byte
unfoldable pub class_of : ℕ → Class
class_of b =
    if is_key_byte b then Letter
    else (if is_operator_byte b then Operator
    else (if is_blank b then Blank
    else (if b == double_quote then Quote
    else (if b == open_brace then OpenBrace
    else (if b == close_brace then CloseBrace
    else (if b == backslash then Backslash
    else (if b == hash then Hash
    else (if b == bar then Bar
    else (if b == dollar || b == percent then Sign else Other)))))))))
