-- The devices that a path shows: of the folders that it leads through, those whose names say what they are.
use Rattle.std.specs.Prelude.{ℕ, ◌+◌, ◌==◌, ◌&&◌, ◌||◌, Bool, false, true, is_some, List, length, take, reverse, slice_index, filter_map}
use Rattle.std.specs.Prelude.{Option, Some, None, if◌then◌else◌}
use Rattle.std.specs.List.{range_with_len}
use Rattle.text_bytes.specs.Names.{slash}
use Rattle.text_bytes.specs.Text.{Text}
use Rattle.text_bytes.specs.Kernels.{last_component}
use Rattle.builtin_core.specs.Kinds.{kind_of}
use Rattle.builtin_core.specs.declared.kinds.Kind.{Kind}
use Rattle.builtin_core.specs.declared.kinds.Kind.TheVariants.{UsbDevice}

-- the kind of device that the last component of a path says
unfoldable pub kind_at : (path : Text) → Option Kind
kind_at path = kind_of (last_component path)

-- the path of the device that a path shows before a place, if a component of the path ends there
unfoldable pub shown_before : (path : Text) → ℕ → Option Text
shown_before path place =
    if (place == length path || slice_index path place == slash) && is_some (kind_at (take place path)) then Some (take place path) else None

-- the paths of the devices that a path shows, its own among them, the nearest first
unfoldable pub shown_paths : (path : Text) → List Text
shown_paths path = filter_map (shown_before path) (reverse (range_with_len 0 (length path + 1)))

-- whether this is the kind of a USB device
abbrev pub is_usb : Option Kind → Bool
is_usb (Some UsbDevice) = true
is_usb _ = false
