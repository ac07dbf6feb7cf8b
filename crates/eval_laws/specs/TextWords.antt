-- The words of a text, in terms of its bytes.
use Rattle.std.specs.Prelude.{◌≡◌, ℕ, true, false, List, [], ◌∷◌, ◌++◌, drop}
use Rattle.std.specs.List.{list_all, list_any}
use Rattle.text_bytes.specs.Names.{is_whitespace}
use Rattle.text_bytes.specs.Texts.{is_empty}
use Rattle.text_bytes.specs.Text.{Text}
use Rattle.text_bytes.specs.Underscores.{words}

-- whitespace alone, perhaps none
abbrev pub IsGap : Text → Type 0
IsGap text = list_all is_whitespace text ≡ true

-- no whitespace is in a text
abbrev pub HasNoWhitespace : Text → Type 0
HasNoWhitespace text = list_any is_whitespace text ≡ false

-- a text is empty or begins with whitespace
abbrev pub BeginsWithGap : Text → Type 0
BeginsWithGap [] = Unit {0}
BeginsWithGap (b ∷ text) = is_whitespace b ≡ true

-- a text is empty or begins with a byte of a word
abbrev pub BeginsWithWord : Text → Type 0
BeginsWithWord [] = Unit {0}
BeginsWithWord (b ∷ text) = is_whitespace b ≡ false

-- A word is at the first place of a text that is not whitespace, and reaches up to the next whitespace or to the end.
pub record HasFirst (text word following : Text) : Type 0 where
  pub gap : Text
  pub whole : text ≡ gap ++ (word ++ following)
  pub before : IsGap gap
  pub some : is_empty word ≡ false
  pub unbroken : HasNoWhitespace word
  pub ends : BeginsWithGap following

-- a text has these words, one after another, and whitespace around them
abbrev pub HasWords : Text → List Text → Type 0
HasWords text [] = IsGap text
HasWords text (word ∷ more) = (following : Text) × HasFirst text word following × HasWords following more

-- A text has this end, which begins at the word with a number, the first having the number 0: before it come the
-- words before that one. If there are no more words, the end is empty.
pub record IsEndFromWord (number : ℕ) (text end : Text) : Type 0 where
  pub beginning : Text
  pub whole : text ≡ beginning ++ end
  pub begins : BeginsWithWord end
  pub words_are : words end ≡ drop number (words text)
