-- What is true of the lints of one rule, in terms of texts and not of how they are read.
use Rattle.std.specs.Prelude.{◌≡◌, ◌<◌, ◌^◌, ℕ, ◌+◌, ◌*◌, Bool, true, false, ◌&&◌, ◌||◌, nat_eq, nat_le, List, [], ◌∷◌, ◌++◌, length, map, flat_map, take}
use Rattle.std.specs.Prelude.{drop, codes, Result, Ok, Err, Some, is_some}
use Rattle.std.specs.List.{AllByRecursion, list_any, slice_split, starts_with}
use Rattle.text_bytes.specs.Text.{Text}
use Rattle.text_bytes.specs.Names.{close_brace, comma, digit_zero, open_brace}
use Rattle.text_core.specs.Choices.{choice, is_bar}
use Rattle.text_core.specs.declared.glob_fault.GlobFault.{GlobFault}
use Rattle.text_core.specs.declared.item.Item.{Item}
use Rattle.rule_lints.specs.Commands.{is_quote, is_shell_sign}
use Rattle.rule_lints.specs.Devices.{group_of, is_other}
use Rattle.rule_lints.specs.LetterCase.{is_miswritten}
use Rattle.rule_lints.specs.Patterns.{are_expressions, close_parenthesis, open_parenthesis, take_all}
use Rattle.rule_lints.specs.Texts.{has_byte}
use Rattle.rule_types.specs.Tokens.{WrittenPart}
use Rattle.rule_lints.specs.declared.devices.Group.{Group}
use Rattle.rule_lints.specs.declared.devices.Group.TheVariants.{Net}
use Rattle.rule_lints.specs.declared.devices.Side.{Side}
use Rattle.rule_lints.specs.declared.devices.Side.TheVariants.{Event}
use Rattle.rule_lints.specs.declared.letter_case.Writing.{Writing}

-- the number that octal digits write, each by its position
abbrev pub by_places : Text → ℕ
by_places [] = 0
by_places (d ∷ digits) = d * 8 ^ length digits + by_places digits

-- A text is one octal digit or more, each written as `0` to `7`, of a number that a mode may be.
pub record WritesMode (text : Text) : Type 0 where
  pub digits : Text
  pub some : 0 < length digits
  pub octal : AllByRecursion (λ d. d < 8) digits
  pub written : text ≡ map (λ d. digit_zero + d) digits
  pub least : by_places digits < 8 ^ 4

-- a piece of a command: a byte outside of quotes, or a quote with what is in it
pub data Piece : Type 0 where
  bare : ℕ → Piece
  quoted : ℕ → Text → Piece

-- how a piece is written: what is quoted is between two of the same quote
abbrev pub written : Piece → Text
written (bare b) = b ∷ []
written (quoted quote within) = quote ∷ (within ++ quote ∷ [])

-- a byte outside of quotes is not a quote, and the quoted text does not have its own quote
abbrev pub IsPiece : Piece → Type 0
IsPiece (bare b) = is_quote b ≡ false
IsPiece (quoted quote within) = (is_quote quote ≡ true) × (has_byte quote within ≡ false)

-- A command is some pieces, then a sign of the shell, and then whatever follows.
pub record HasSignOutside (command : Text) : Type 0 where
  pub before : List Piece
  pub pieces : AllByRecursion IsPiece before
  pub sign : ℕ
  pub following : Text
  pub is_sign : is_shell_sign sign following ≡ true
  pub whole : command ≡ flat_map written before ++ sign ∷ following

-- whether a text has a letter `A` to `Z`
abbrev pub has_capital : Text → Bool
has_capital text = list_any (λ b. nat_le 65 b && nat_le b 90) text

-- whether a digit `a` to `f` is among so many bytes of a text after the first so many
abbrev pub has_small : ℕ → ℕ → Text → Bool
has_small start size text = list_any (λ b. nat_le 97 b && nat_le b 102) (take size (drop start text))

-- whether a text is the alias of a USB or PCI device, with a lower case digit in the number of its vendor or of its
-- product
abbrev pub is_small_text : Text → Bool
is_small_text text =
    (starts_with nat_eq text (codes "usb:v") && (has_small 5 4 text || has_small 10 4 text))
    || (starts_with nat_eq text (codes "pci:v") && (has_small 5 8 text || has_small 14 8 text))

-- whether one of the patterns passes a test, if they were read
abbrev pub some_pattern : (List Item → Bool) → Result (List (List Item)) GlobFault → Bool
some_pattern test (Ok patterns) = list_any test patterns
some_pattern test (Err fault) = false

-- whether W4 is reported for a text that is compared with something that the kernel writes so
abbrev pub is_reported_as : Writing → Text → Bool
is_reported_as writing text = some_pattern (is_miswritten writing) (choice text)

-- whether W11 is reported for a text that something is compared with
abbrev pub is_reported_as_expression : Text → Bool
is_reported_as_expression text = are_expressions (slice_split is_bar text)

-- whether W12 is reported for a text that something that is always there is compared with
abbrev pub is_reported_to_hold : Text → Bool
is_reported_to_hold text = some_pattern take_all (choice text)

-- What a rule asks one device for is not of different devices: there is a kind of devices, and no token asks for another
-- kind.
pub record AreOfOneGroup (side : Side) (tokens : List WrittenPart) : Type 0 where
  pub group : Group
  pub none_other : AllByRecursion (λ w. is_other group (group_of side w.part) ≡ false) tokens

-- A token is the first that asks for other devices than one before it: tokens come before it, of which some ask for a
-- kind, and none for another one, while it does.
pub record IsStranger (side : Side) (tokens : List WrittenPart) (w : WrittenPart) : Type 0 where
  pub group : Group
  pub before : List WrittenPart
  pub following : List WrittenPart
  pub whole : tokens ≡ before ++ w ∷ following
  pub some : list_any (λ v. is_some (group_of side v.part)) before ≡ true
  pub none_other : AllByRecursion (λ v. is_other group (group_of side v.part) ≡ false) before
  pub other : is_other group (group_of side w.part) ≡ true

-- One of the tokens is a match of the event that only network devices meet.
pub record AsksForNet (tokens : List WrittenPart) : Type 0 where
  pub before : List WrittenPart
  pub w : WrittenPart
  pub following : List WrittenPart
  pub whole : tokens ≡ before ++ w ∷ following
  pub net : group_of Event w.part ≡ Some Net

-- A text has a `{`, after it a `,`, and after that a `}`.
pub record HasBraces (text : Text) : Type 0 where
  pub before : Text
  pub first : Text
  pub second : Text
  pub following : Text
  pub whole : text ≡ before ++ open_brace ∷ (first ++ comma ∷ (second ++ close_brace ∷ following))

-- A text has a `(` that no `)` follows.
pub record HasOpenParenthesis (text : Text) : Type 0 where
  pub before : Text
  pub following : Text
  pub none : has_byte close_parenthesis following ≡ false
  pub whole : text ≡ before ++ open_parenthesis ∷ following
