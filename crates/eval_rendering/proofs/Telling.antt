-- Names of which a block tells all.
use Rattle.std.proofs.Common.{◌≡◌, Bool, true, false, not, ◌&&◌, ◌||◌, cond, is_none, is_some, Option, Some, None, codes, refl, ap, ◌∙◌}
use Rattle.std.specs.Option.{option_map_or}
use Rattle.std.specs.List.{list_any}
use Rattle.text_bytes.specs.Names.{dot, slash}
use Rattle.text_bytes.specs.Texts.{begins_with, split_once}
use Rattle.text_bytes.specs.Text.{Text}
use Rattle.text_tables.specs.Pairs.{names, value_of}
use Rattle.text_tables.specs.Texts.{same_text}
use Rattle.device_core.specs.Values.{DeviceValue, EventValue}
use Rattle.eval_state.specs.Texts.{or_empty}
use Rattle.eval_rendering.specs.Behind.{is_long_of_pci, is_untold, is_untold_behind, is_untold_by, lies_in, links_up, may_be_untold, rest_behind}
use Rattle.eval_rendering.specs.Paths.{is_path_untold, is_unread}

-- a file that has no value of one line has its name, and what leads into a folder has a slash
told : (long pci : Bool) (cut : Option (Text × Text)) (none is_pci : Bool) (device : DeviceValue) → ((long || pci) || is_some cut) ≡ false
    → (none && ((long || (pci && is_pci)) || option_map_or (λ c. not (list_any (lies_in c.0) (names device.attrs))) cut false)) ≡ false
told true pci cut none is_pci device h = absurd (cc)
told false true cut none is_pci device h = absurd (cc)
told false false (Some c) none is_pci device h = absurd (cc)
told false false None true is_pci device h = refl
told false false None false is_pci device h = refl

told_of : (device : DeviceValue) (name : Text) → may_be_untold name ≡ false → is_untold device name ≡ false
told_of device name h =
    told (same_text name (codes "uevent")) (is_long_of_pci name) (split_once slash name) (is_none (value_of device.attrs name)) (same_text (or_empty device.subsystem) (codes "pci")) device h

-- what does not hold, does not with more
with_more : (a b : Bool) → a ≡ false → (a && b) ≡ false
with_more true b h = absurd (cc)
with_more false b h = refl

told_by : (event : EventValue) (device : DeviceValue) (name : Text) (rest : Option Text) → may_be_untold name ≡ false → is_untold_by event device name rest ≡ false
told_by event device name rest h =
    with_more (is_untold device name)
    (option_map_or (λ behind. links_up event device && is_untold_behind event device behind) rest true) (told_of device name h)

-- a name of which a block tells all is read
pub told_name : (event : EventValue) (device : DeviceValue) (name : Text) → begins_with dot name ≡ false → may_be_untold name ≡ false → is_unread event device name ≡ false
unfolding is_unread
told_name event device name plain h =
    ap (λ b. cond b (is_path_untold event device name) (is_untold_by event device name (rest_behind name))) plain
    ∙ told_by event device name (rest_behind name) h
