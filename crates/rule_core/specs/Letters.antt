-- Where the letters of a wrong prefix are.
use Rattle.std.specs.Prelude.{ℕ, ◌-◌, ◌==◌, if◌then◌else◌, length}
use Rattle.std.specs.List.{after_first}
use Rattle.text_bytes.specs.Text.{Text}
use Rattle.text_bytes.specs.Names.{double_quote, open_brace, close_brace}
use Rattle.text_bytes.specs.Texts.{begins_with, skip_while}
use Rattle.rule_tokens.specs.Grammar.{is_key_byte}

-- what follows the key that a text begins with
abbrev pub after_key : Text → Text
after_key text = skip_while is_key_byte text

-- the same, and after its braces if it has them
abbrev pub after_braces : Text → Text
after_braces text = if begins_with open_brace (after_key text) then after_first (λ b. b == close_brace) (after_key text) else after_key text

-- The place in a line of letters directly before a quote: the first one after the key, and the braces, of the text at
-- the line's end.
abbrev pub start_before_quote : Text → Text → Text → ℕ
start_before_quote line text letters = length line - length (after_first (λ b. b == double_quote) (after_braces text)) - 1 - length letters
