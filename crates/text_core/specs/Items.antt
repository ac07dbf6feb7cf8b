-- Which bytes an item of a pattern takes.
use Rattle.std.specs.Prelude.{ℕ, Bool, true, false, ◌==◌, ◌/◌, ◌%◌, slice_index}
use Rattle.std.specs.Int.{bit_at}
use Rattle.text_core.specs.declared.byte_set.ByteSet.{ByteSet}
use Rattle.text_core.specs.declared.item.Item.{Item}
use Rattle.text_core.specs.declared.item.Item.TheVariants.{Byte, One, Many, Among}

-- Byte b belongs to a set if bit b mod 8 of the set's byte b / 8 is 1.
abbrev pub set_has : ByteSet → ℕ → Bool
set_has set b = bit_at (slice_index set.bits (b / 8)) (b % 8) == 1

-- Whether an item takes a byte: Byte itself, One each, Among those of its set. Many is not an item of one byte.
abbrev pub takes : Item → ℕ → Bool
takes (Byte c) b = c == b
takes One b = true
takes Many b = false
takes (Among set) b = set_has set b
