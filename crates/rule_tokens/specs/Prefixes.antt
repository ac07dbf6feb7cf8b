-- The letters that come before the quote of a token.
use Rattle.std.specs.Prelude.{◌≡◌, [], take, Result, Ok, Err}
use Rattle.std.specs.List.{prefix_len}
use Rattle.text_bytes.specs.Text.{Text}
use Rattle.rule_tokens.specs.Grammar.{WrongPrefix, is_letter}
use Rattle.rule_tokens.specs.Reading.{head_at, ◌>>=◌}
use Rattle.rule_tokens.specs.declared.kinds.TokenFaultKind.{TokenFaultKind}

-- what follows the head that a text begins with, and after its blanks
unfoldable pub quoted_at : Text → Result Text TokenFaultKind
quoted_at text = head_at text >>= λ x. Ok x.1

-- the letters that a text begins with
abbrev pub letters_of : Result Text TokenFaultKind → Text
letters_of (Ok quoted) = take (prefix_len is_letter quoted) quoted
letters_of (Err kind) = []

-- the letters that follow the head that a text begins with, and after its blanks; none if it begins with no head
unfoldable pub letters_at : Text → Text
letters_at text = letters_of (quoted_at text)

-- if there is a wrong prefix, these are its letters
abbrev pub AreWrongLetters : Text → Text → Type 0
AreWrongLetters text letters = (w : WrongPrefix text) → letters ≡ w.letters
