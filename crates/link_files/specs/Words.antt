-- The words of a value, as systemd.syntax(7) separates them.
use Rattle.std.specs.Prelude.{ℕ, ◌==◌, ◌||◌, ◌&&◌, not, Bool, true, false, List, [], ◌∷◌, ◌++◌, fold, if◌then◌else◌}
use Rattle.text_bytes.specs.Names.{backslash, double_quote, single_quote}
use Rattle.text_bytes.specs.Text.{Text}
use Rattle.link_files.specs.Lines.{is_space}
use Rattle.link_files.specs.declared.words.WordKind.{WordKind}
use Rattle.link_files.specs.declared.words.WordKind.TheVariants.{Glob, Property}

-- whether quotes belong to no word, but keep the blanks between them in one
abbrev pub has_quotes : WordKind → Bool
has_quotes Glob = true
has_quotes Property = true
has_quotes kind = false

-- whether a backslash belongs to no word, but makes the byte after it mean itself
abbrev pub has_escapes : WordKind → Bool
has_escapes Glob = false
has_escapes kind = true

-- The words so far: the quote that is open, or 0; whether a backslash was the last byte; whether a word has begun, and
-- its bytes; and the words before it.
pub record Splitting : Type 0 where
  pub quote : ℕ
  pub is_escaped : Bool
  pub is_begun : Bool
  pub word : Text
  pub words : List Text

-- the word ends here, if one has begun
abbrev pub ended : Splitting → Splitting
ended s = record {
  quote = s.quote;
  is_escaped = s.is_escaped;
  is_begun = false;
  word = [];
  words = if s.is_begun then s.words ++ s.word ∷ [] else s.words;
}

-- a byte of the word
abbrev pub with_byte : Splitting → ℕ → Splitting
with_byte s b = record { quote = s.quote; is_escaped = false; is_begun = true; word = s.word ++ b ∷ []; words = s.words }

-- whether a byte is a quote
abbrev pub is_quote : ℕ → Bool
is_quote b = b == double_quote || b == single_quote

-- What one more byte of a value makes of the words so far: a backslash counts for the byte after it, and a quote is opened,
-- or closed.
unfoldable pub split_byte : WordKind → Splitting → ℕ → Splitting
split_byte kind s b =
    if s.is_escaped then with_byte s b
    else if b == backslash && has_escapes kind then record s { is_escaped = true; is_begun = true }
    else if is_quote b && b == s.quote then record s { quote = 0; is_begun = true }
    else if not (s.quote == 0) then with_byte s b
    else if is_quote b && has_quotes kind then record s { quote = b; is_begun = true }
    else if is_space b then ended s
    else with_byte s b

-- the words so far at the end of a value
unfoldable pub split : WordKind → Text → Splitting
split kind value = fold (split_byte kind) (record { quote = 0; is_escaped = false; is_begun = false; word = []; words = [] }) value

-- the words of a value; one with a quote that is not closed, or with nothing after its last backslash, is none
unfoldable pub words_of : WordKind → Text → List Text
words_of kind value = let s = split kind value in if s.is_escaped || not (s.quote == 0) then s.words else (ended s).words

-- whether no word of a value is left out at its end, since a quote is not closed or nothing comes after a backslash
unfoldable pub is_whole : WordKind → Text → Bool
is_whole kind value = not (split kind value).is_escaped && (split kind value).quote == 0
