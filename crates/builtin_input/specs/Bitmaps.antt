-- Sets of small numbers, as the kernel writes them in attributes of an input device: words of 64 bits in base 16, the
-- lowest last.
use Rattle.std.specs.Prelude.{ℕ, ◌*◌, ◌/◌, ◌%◌, ◌^◌, ◌-◌, Bool, ◌&&◌, ◌==◌, List, length, map, take, reverse, slice_index, unwrap_or, count_by}
use Rattle.std.specs.Int.{bit_at}
use Rattle.std.specs.List.{range_with_len, slice_split}
use Rattle.text_bytes.specs.Names.{space}
use Rattle.text_bytes.specs.Text.{Text}
use Rattle.builtin_devices.specs.Numbers.{number_in}
use Rattle.builtin_devices.specs.declared.numbers.Base.TheVariants.{Hexadecimal}

-- a bitmap is its words, the lowest first
abbrev pub Bitmap : Type 0
Bitmap = List ℕ

-- how many bits a word has
abbrev pub word_bits : ℕ
word_bits = 64

-- the most words of a bitmap that count: those of all numbers that a key may have
abbrev pub most_words : ℕ
most_words = 12

-- whether a number is in a bitmap: the bits of the lowest word are for the numbers from 0 on, those of the next for the numbers from 64 on
unfoldable pub has : Bitmap → ℕ → Bool
has words number = bit_at (slice_index words (number / word_bits)) (number % word_bits) == 1

-- how many numbers of a bitmap pass a test
unfoldable pub count_of : (ℕ → Bool) → Bitmap → ℕ
count_of test words = count_by (λ number. test number && has words number) (range_with_len 0 (word_bits * length words))

-- a word of a bitmap; one that is not a number of 64 bits in base 16 is empty
unfoldable pub word : Text → ℕ
word text = unwrap_or (number_in Hexadecimal (2 ^ 64 - 1) text) 0

-- the byte between two words
abbrev pub is_space : ℕ → Bool
is_space b = b == space

-- the bitmap that a text writes, with at most so many words, counted from the right; each space separates two words
unfoldable pub bitmap : (most : ℕ) → Text → Bitmap
bitmap most text = take most (reverse (map word (slice_split is_space text)))
