-- The names that the kernel gives devices, and the ends of texts.
use Rattle.std.specs.Prelude.{ℕ, ◌-◌, ◌==◌, Bool, not, length, drop, map, if◌then◌else◌}
use Rattle.std.specs.List.{suffix_len}
use Rattle.text_bytes.specs.Text.{Text}
use Rattle.text_bytes.specs.Names.{bang, slash}

-- the longest end of a text whose bytes all pass a test
abbrev pub longest_end : (ℕ → Bool) → Text → Text
longest_end test text = drop (length text - suffix_len test text) text

-- what follows the last slash of a path
abbrev pub last_component : Text → Text
last_component path = longest_end (λ b. not (b == slash)) path

-- a byte of a component as it is meant: the kernel writes `!` for a slash
abbrev pub kernel_byte : ℕ → ℕ
kernel_byte b = if b == bang then slash else b

-- the kernel's name of the device with a path: the last component, with its slashes
unfoldable pub kernel_name : Text → Text
kernel_name path = map kernel_byte (last_component path)
