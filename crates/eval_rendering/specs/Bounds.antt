-- Texts that may not exceed 16,384 bytes, or fewer.
use Rattle.std.specs.Prelude.{ℕ, nat_lt, if◌then◌else◌, ◌∷◌, ◌++◌, length, Option, Some, None, codes}
use Rattle.text_bytes.specs.Names.{slash}
use Rattle.text_bytes.specs.Text.{Text}
use Rattle.device_core.specs.Values.{DeviceValue}
use Rattle.eval_rendering.specs.declared.rendered.Rendered.{Rendered}
use Rattle.eval_rendering.specs.declared.rendered.Rendered.TheVariants as rendered

-- the most bytes of a rendered text
abbrev pub most_bytes : ℕ
most_bytes = 16384

-- the most bytes that udev has room for in a value: a name, an owner, a property, an attribute or a parameter
abbrev pub most_value_bytes : ℕ
most_value_bytes = 511

-- the most bytes that it has room for in a path, and in texts that it treats alike: links, tags and names of devices
abbrev pub most_path_bytes : ℕ
most_path_bytes = 1023

-- the most bytes that it has room for in a command and in a label
abbrev pub most_command_bytes : ℕ
most_command_bytes = 16383

-- the path of a file in the folder of a device in sysfs
abbrev pub sysfs_path : DeviceValue → Text → Text
sysfs_path device name = codes "/sys" ++ device.path ++ slash ∷ name

-- a text, unless it is too long
abbrev pub bounded : Text → Option Text
bounded text = if nat_lt most_bytes (length text) then None else Some text

-- a value, unless it is too long
abbrev pub short : Text → Option Text
short text = if nat_lt most_value_bytes (length text) then None else Some text

-- a text with more after it; one that is too long stays too long
abbrev pub joined : Option Text → Text → Option Text
joined None more = None
joined (Some text) more = bounded (text ++ more)

-- a rendered text that may have at most so many bytes; one with more is too long
abbrev pub within : ℕ → Rendered → Rendered
within most (rendered.Text text) = if nat_lt most (length text) then rendered.TooLong else rendered.Text text
within most rendered.TooLong = rendered.TooLong
