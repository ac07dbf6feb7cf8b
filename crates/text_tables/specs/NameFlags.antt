-- Serves inner proofs only: flags of names, which show that a name is not there.
use Rattle.std.specs.Prelude.{◌≡◌, ℕ, ◌+◌, ◌-◌, ◌*◌, ◌/◌, ◌%◌, ◌^◌, Bool, true, List, None, fold, get_or, length, nat_eq, replicate, set}
use Rattle.std.specs.Int.{bit_at}
use Rattle.std.specs.Int.RustNames.{bit_or}
use Rattle.text_bytes.specs.Text.{Text}
use Rattle.text_tables.specs.Pairs.{Pair, value_of}

-- the number of a name, of its length, its last byte, the one in its middle and the one after a fourth
unfoldable pub number_of : Text → ℕ
number_of name = (length name % 128 * 43 + get_or name (length name - 1) 0 + get_or name (length name / 2) 0 * 91 + get_or name (length name / 4) 0 * 77) % 128

-- no flag is set; a word has 64 flags
abbrev pub none_set : List ℕ
none_set = replicate 2 0

-- flags with that of one more number
unfoldable pub with_flag : List ℕ → ℕ → List ℕ
with_flag words number = set words (number / 64) (bit_or (get_or words (number / 64) 0) (1 * 2 ^ (number % 64) % 2 ^ 64))

-- whether the flag of a number is not set
unfoldable pub is_unset : List ℕ → ℕ → Bool
is_unset words number = nat_eq (bit_at (get_or words (number / 64) 0) (number % 64)) 0

-- flags with that of one more name
abbrev pub with_name : List ℕ → Text → List ℕ
with_name words name = with_flag words (number_of name)

-- flags with that of each of these names
abbrev pub with_names : List ℕ → List Text → List ℕ
with_names words names = fold with_name words names

-- whether the flag of a name is not set
abbrev pub is_lacking : List ℕ → Text → Bool
is_lacking words name = is_unset words (number_of name)

-- a name whose flag is not set has no value
pub record IsFlagged (words : List ℕ) (pairs : List Pair) : Type 0 where
  pub whole : length words ≡ 2
  pub flagged : (name : Text) → is_lacking words name ≡ true → value_of pairs name ≡ None
