-- Places in sysfs, as a path leads to them, and whether the devices of an event show that something is there.
use Rattle.std.specs.Prelude.{ℕ, ◌-◌, Bool, true, false, ◌==◌, ◌||◌, ◌&&◌, if◌then◌else◌, List, [], ◌∷◌, ◌++◌, length, take, flat_map, fold, codes}
use Rattle.std.specs.Prelude.{Option, Some, None}
use Rattle.std.specs.List.{list_any, slice_split}
use Rattle.text_bytes.specs.Names.{slash}
use Rattle.text_bytes.specs.Texts.{following, is_empty}
use Rattle.text_bytes.specs.Text.{Text}
use Rattle.text_tables.specs.Texts.{same_text}
use Rattle.device_core.specs.Values.{DeviceValue, EventValue, chain}
use Rattle.eval_state.specs.Files.{has_file, has_folder, lies_at}

-- a place below `/sys`: the components that lead there, and whether only a folder may be there
pub record PlaceValue : Type 0 where
  pub components : List Text
  pub is_folder : Bool

-- `/sys` itself
abbrev pub top : PlaceValue
top = record { components = []; is_folder = true }

-- whether a component of a path leads nowhere: an empty one, and `.`
abbrev pub stays : Text → Bool
stays component = is_empty component || same_text component (codes ".")

-- the place one component on: `..` leads up, any other that leads somewhere leads into a folder; what stays or leads up asks for a folder
abbrev pub gone : PlaceValue → Text → PlaceValue
gone at component =
    if stays component then record { components = at.components; is_folder = true }
    else if same_text component (codes "..") then record { components = take (length at.components - 1) at.components; is_folder = true }
    else record { components = at.components ++ component ∷ []; is_folder = false }

-- the place to which a path leads from another
abbrev pub led : PlaceValue → Text → PlaceValue
led at path = fold gone at (slice_split (λ b. b == slash) path)

-- the place to which a name leads in the folder of a device
abbrev pub place_of : DeviceValue → Text → PlaceValue
place_of device name = led (led top device.path) name

-- the path of a place below `/sys`
abbrev pub path_to : PlaceValue → Text
path_to at = flat_map (λ component. slash ∷ component) at.components

-- whether a device has a file or a folder of a name, or a folder alone
abbrev pub has : (is_folder : Bool) → DeviceValue → Text → Bool
has true device name = has_folder device name
has false device name = has_file device name

-- whether a device has what is at the end of a path, which goes on from the device's own
abbrev pub has_rest : (is_folder : Bool) → DeviceValue → (rest : Option Text) → Bool
has_rest is_folder device None = false
has_rest is_folder device (Some []) = false
has_rest is_folder device (Some (b ∷ name)) = b == slash && has is_folder device name

-- whether a device shows that something is at a path: its own folder and those above it are there, and what it has
abbrev pub shows : Text → (is_folder : Bool) → DeviceValue → Bool
shows path is_folder device = lies_at path device.path || has_rest is_folder device (following device.path path)

-- whether the devices of an event show that something is at a place
abbrev pub is_there : EventValue → PlaceValue → Bool
is_there event at = list_any (shows (path_to at) at.is_folder) (chain event)
