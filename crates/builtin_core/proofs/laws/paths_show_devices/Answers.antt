use Rattle.std.proofs.Common.{refl}
use Rattle.text_bytes.specs.Numbers.{decimal_below}
use Rattle.text_bytes.specs.Texts.{split_once}
use Rattle.builtin_devices.specs.Addresses.{address_of}
use Rattle.builtin_core.specs.Kinds.{is_at_port, is_function, is_in_slot, is_interface, is_on_bus, is_place, kind_of}
use Rattle.builtin_core.specs.Paths.{kind_at, shown_before, shown_paths}
use Rattle.builtin_core.proofs.laws.paths_show_devices.Goals as goal

pub returns : goal.returns
unfolding kind_of is_at_port is_interface is_in_slot is_on_bus is_function is_place split_once address_of decimal_below kind_at shown_before shown_paths
returns c = record { shown = refl; own = refl }
