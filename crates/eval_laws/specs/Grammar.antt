-- How a builtin's command is written: in terms of its pieces, without a reader.
use Rattle.std.specs.Prelude.{◌≡◌, ◌↔◌, ◌⊎◌, ℕ, Bool, true, false, not, ◌==◌, List, [], ◌∷◌, ◌++◌, map, filter, flat_map, All, Some, None}
use Rattle.std.specs.List.{list_any, slice_split}
use Rattle.text_bytes.specs.Texts.{is_empty}
use Rattle.text_bytes.specs.declared.profile.Profile.{Profile}
use Rattle.text_bytes.specs.declared.profile.Profile.TheVariants.{Manual, Udev}
use Rattle.text_bytes.specs.Text.{Text}
use Rattle.eval_commands.specs.Words.{command_words, is_quote, separates, udev_words}

-- a piece of a command: a byte that separates words, a byte that means itself, or what is between two quotes
pub data Piece : Type 0 where
  gap : ℕ → Piece
  byte : ℕ → Piece
  group : ℕ → Text → Piece

-- how a piece is written
abbrev pub written : Piece → Text
written (gap b) = b ∷ []
written (byte b) = b ∷ []
written (group quote inside) = quote ∷ inside ++ quote ∷ []

-- what a piece puts into its word
abbrev pub meant : Piece → Text
meant (gap b) = []
meant (byte b) = b ∷ []
meant (group quote inside) = inside

-- no such quote is in a text
abbrev pub HasNo : ℕ → Text → Type 0
HasNo quote text = list_any (λ b. b == quote) text ≡ false

-- a byte that means itself neither separates words nor is a quote, and between two quotes there is no third
abbrev pub IsPiece : Profile → Piece → Type 0
IsPiece profile (gap b) = separates profile b ≡ true
IsPiece profile (byte b) = (separates profile b ≡ false) × (is_quote b ≡ false)
IsPiece profile (group quote inside) = (is_quote quote ≡ true) × HasNo quote inside

-- whether a piece is between words
abbrev pub is_gap : Piece → Bool
is_gap (gap b) = true
is_gap piece = false

-- the words of pieces: the longest runs without a gap
abbrev pub words_of : List Piece → List Text
words_of pieces = map (flat_map meant) (filter (λ run. not (is_empty run)) (slice_split is_gap pieces))

-- A command has these words: it is written in pieces whose words they are.
pub record HasWords (profile : Profile) (command : Text) (words : List Text) : Type 0 where
  pub pieces : List Piece
  pub whole : command ≡ flat_map written pieces
  pub each : All (IsPiece profile) pieces
  pub cut : words ≡ words_of pieces

-- In a command a quote stays open: it comes after some pieces, and no such quote after it.
pub record HasOpenQuote (profile : Profile) (command : Text) : Type 0 where
  pub pieces : List Piece
  pub quote : ℕ
  pub inside : Text
  pub whole : command ≡ flat_map written pieces ++ quote ∷ inside
  pub each : All (IsPiece profile) pieces
  pub is_one : is_quote quote ≡ true
  pub unclosed : HasNo quote inside

-- In a command a quote stays open, and these are its words if the quote ends with the command.
pub record HasWordsToEnd (profile : Profile) (command : Text) (words : List Text) : Type 0 where
  pub left_open : HasOpenQuote profile command
  pub cut : words ≡ words_of (left_open.pieces ++ group left_open.quote left_open.inside ∷ [])

-- What is read from a command by the manual is just what it is: its words, or none if a quote stays open.
pub record IsRead (command : Text) : Type 0 where
  pub words : (words : List Text) → (command_words command ≡ Some words) ↔ HasWords Manual command words
  pub unclosed : (command_words command ≡ None) ↔ HasOpenQuote Manual command

-- What is read from a command for udev is its words, and a quote that stays open ends with the command.
abbrev pub IsReadToEnd : Text → Type 0
IsReadToEnd command = (words : List Text) → (udev_words command ≡ words) ↔ (HasWords Udev command words ⊎ HasWordsToEnd Udev command words)
