-- What words on the kernel's command line give a name, as udev looks it up.
use Rattle.std.specs.Prelude.{ℕ, Bool, false, ◌==◌, ◌||◌, if◌then◌else◌, is_some, List, [], ◌∷◌, Option, Some, None, codes}
use Rattle.std.specs.List.{list_any}
use Rattle.std.specs.Option.{option_or}
use Rattle.text_bytes.specs.Names.{equals, minus, underscore}
use Rattle.text_bytes.specs.Texts.{begins_with, following, is_empty, split_once}
use Rattle.text_bytes.specs.Text.{Text}
use Rattle.text_tables.specs.Texts.{same_text}
use Rattle.eval_commands.specs.Words.{udev_words}

-- a byte of a name as it is compared: `-` and `_` are the same
abbrev pub folded : ℕ → ℕ
folded b = if b == minus then underscore else b

-- what follows a name in a word that begins with it
abbrev pub after_name : (name word : Text) → Option Text
after_name [] word = Some word
after_name (b ∷ name) [] = None
after_name (b ∷ name) (c ∷ word) = if folded b == folded c then after_name name word else None

-- the value that follows a name: what comes after `=`
abbrev pub value_after : Option Text → Option Text
value_after None = None
value_after (Some []) = None
value_after (Some (b ∷ value)) = if b == equals then Some value else None

-- whether a word is a name alone, by what follows the name
abbrev pub is_alone : Option Text → Bool
is_alone None = false
is_alone (Some rest) = is_empty rest

-- the value that words give a name: the last one counts
abbrev pub last_value : (name : Text) → List Text → Option Text
last_value name [] = None
last_value name (word ∷ words) = option_or (last_value name words) (value_after (after_name name word))

-- `1` if one of these words is a name alone
abbrev pub one_if_alone : (name : Text) → List Text → Option Text
one_if_alone name words = if list_any (λ word. is_alone (after_name name word)) words then Some (codes "1") else None

-- what words give a name: the last value, and without one `1` if one of them is the name alone
abbrev pub given_in : (name : Text) → List Text → Option Text
given_in name words = option_or (last_value name words) (one_if_alone name words)

-- what a command line gives a name; it is split into words as the command of a builtin is
unfoldable pub cmdline_value : (name line : Text) → Option Text
cmdline_value name line = given_in name (udev_words line)

-- whether a name ends where this follows it in a word
abbrev pub ends_name : Option Text → Bool
ends_name None = false
ends_name (Some rest) = is_empty rest || begins_with equals rest

-- whether a word is the one that is asked for: by its name, or as a whole if a value is asked for, too
abbrev pub is_asked : (asked word : Text) → Bool
is_asked asked word = if is_some (split_once equals asked) then same_text word asked else ends_name (following asked word)

-- whether a command line has the word that a condition of a .link file asks for
unfoldable pub has_word : (asked line : Text) → Bool
has_word asked line = list_any (is_asked asked) (udev_words line)
