-- Numbers in the bytes of an index: 32 bits each, the least significant byte first.
use Rattle.std.specs.Prelude.{ℕ, ◌^◌, ◌<◌, List, drop, slice_index}
use Rattle.byteorder.specs.Endian.{little_bytes, little_number}

-- the byte that is at a place
abbrev pub byte_at : List ℕ → ℕ → ℕ
byte_at bytes at = slice_index bytes at

-- the number that is at a place
unfoldable pub number_at : List ℕ → ℕ → ℕ
number_at bytes at = little_number 4 (drop at bytes)

-- a number as it is written
abbrev pub number_bytes : ℕ → List ℕ
number_bytes x = little_bytes 4 x

-- whether a number can be written
abbrev pub IsSmall : ℕ → Type 0
IsSmall x = x < 2 ^ 32
