-- Parts of texts that several names need.
use Rattle.std.specs.Prelude.{ℕ, ◌^◌, ◌-◌, ◌==◌, Bool, not, ◌&&◌, List, [], ◌∷◌, ◌++◌, take, drop, Option, Some, None, option_map, if◌then◌else◌}
use Rattle.std.specs.List.{list_any, prefix_len}
use Rattle.std.specs.Option.{option_or}
use Rattle.std.specs.Str.{is_utf8}
use Rattle.text_bytes.specs.Escapes.{is_control}
use Rattle.text_bytes.specs.Numbers.{decimal_below, is_digit}
use Rattle.text_bytes.specs.Text.{Text}
use Rattle.text_tables.specs.Pairs.{Pair}
use Rattle.device_core.specs.Values.{DeviceValue, EventValue}
use Rattle.builtin_devices.specs.Files.{file_at}

-- the greatest number of 32 bits
abbrev pub most_number : ℕ
most_number = 2 ^ 32 - 1

-- the number of 32 bits that the digits at the start of a text write, and what follows them
unfoldable pub leading_number : Text → Option (ℕ × Text)
leading_number text =
    let count = prefix_len is_digit text in
    option_map (λ n. (n, drop count text)) (decimal_below (2 ^ 32) (take count text))

-- what the file with this name in the folder of a device says; for a link, the path to which it leads
abbrev pub file_of : EventValue → DeviceValue → (name : Text) → Option Text
file_of event device name = file_at event (device.path ++ name)

-- whether a text may be part of a name: UTF-8 without control characters
unfoldable pub is_printable : Text → Bool
is_printable text = is_utf8 text && not (list_any is_control text)

-- a number above 0
abbrev pub positive : Option ℕ → Option ℕ
positive None = None
positive (Some n) = if n == 0 then None else Some n

-- what a reader gives for the first file for which it gives something
abbrev pub first_given : {Y : Type 0} → (Pair → Option Y) → List Pair → Option Y
first_given reader [] = None
first_given reader (file ∷ files) = option_or (reader file) (first_given reader files)
