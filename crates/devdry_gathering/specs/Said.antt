-- What is said before a run, or in place of it.
use Rattle.std.specs.Prelude.{◌≡◌, ℕ, ◌==◌, Bool, MatchBool, if◌then◌else◌, [], ◌∷◌, ◌++◌, codes, map}
use Rattle.text_bytes.specs.Text.{Text}
use Rattle.text_bytes.specs.Escapes.{escape_text}
use Rattle.text_bytes.specs.Names.{newline}
use Rattle.engine_sessions.specs.Readers.{is_for_people}
use Rattle.engine_sessions.specs.declared.line.Line.{Line}
use Rattle.engine_formats.specs.Human.{shown_byte}
use Rattle.engine_formats.specs.Masked.{masked}
use Rattle.devdry_files.specs.Answers.{Answer}
use Rattle.devdry_folders.specs.Advice.{IsAdvice}
use Rattle.devdry_gathering.specs.Notes.{IsHintAt}

-- the line on a file or a folder that could not be read, with its path escaped
abbrev pub cannot_read : Text → Text
cannot_read path = codes "devdry: cannot read " ++ escape_text path ++ newline ∷ []

-- a byte of what is said about words: a newline, or as a byte of a line is shown
abbrev pub said_byte : ℕ → ℕ
said_byte b = if b == newline then b else shown_byte b

-- what is said about words, without what a terminal would obey in them
abbrev pub said_of_words : Text → Text
said_of_words text = map said_byte (masked text)

-- what is said before event blocks are read from a terminal, if a run waits for them
abbrev pub waiting_if : Bool → Text
waiting_if waits = if waits
    then codes "devdry: waiting for event blocks, each ended by an empty line; devdry-capture DEVICE prints them\n"
    else []

-- what people are told of a path that the line asks for: a hint on it if there is one, the line on it, what is wrong, and what to
-- do about it, masked
pub record IsToldOf (may : Answer → Type 0) (line : Line) (path said : Text) : Type 0 where
  pub hint : Text
  pub is_hint : IsHintAt may line path hint
  pub advice : Text
  pub is_advice : IsAdvice may line path advice
  pub said_is : said ≡ masked (hint ++ (cannot_read path ++ advice))

-- what is said of a path that the line asks for and that can't be read: the line on it, with more around it for people
abbrev pub IsSaidOf : (Answer → Type 0) → Line → (path said : Text) → Type 0
IsSaidOf may line path said = MatchBool (is_for_people line.format) (IsToldOf may line path said) (said ≡ cannot_read path)
