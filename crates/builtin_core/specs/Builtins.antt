-- What evaluating rules asks beyond the event, by the entries of a hardware database, the .link files and files of the root.
use Rattle.std.specs.Prelude.{Bool, List}
use Rattle.text_tables.specs.Pairs.{Pair, value_of}
use Rattle.trie_nodes.specs.declared.entry.Entry.{Entry}
use Rattle.device_core.specs.Values.{EventValue}
use Rattle.builtin_core.specs.Needs.{input_needs, net_needs, path_needs, usb_needs}
use Rattle.builtin_devices.specs.Knowledge.{FilesFound, Known}
use Rattle.builtin_devices.specs.Outcomes.{OutcomeValue, needing_first}
use Rattle.link_files.specs.Files.{LinkFileValue}
use Rattle.builtin_input.specs.Input.{input_id}
use Rattle.builtin_link.specs.Link.{net_setup_link}
use Rattle.builtin_net.specs.NetId.{lookup, net_id}
use Rattle.builtin_path.specs.Path.{path_id}
use Rattle.builtin_usb.specs.UsbId.{usb_id}

-- The outcomes of the builtins of udev. What the block would have to report about the devices that paths show comes before
-- what a builtin itself looks for: without these devices it may look in vain, or at others.

-- usb_id
abbrev pub usb_outcome : EventValue → (is_bus_set : Bool) → OutcomeValue
usb_outcome event is_bus_set = needing_first (usb_needs event) (usb_id event is_bus_set)

-- path_id
abbrev pub path_outcome : EventValue → OutcomeValue
path_outcome event = needing_first (path_needs event) (path_id event)

-- input_id
abbrev pub input_outcome : EventValue → OutcomeValue
input_outcome event = needing_first (input_needs event) (input_id event)

-- net_id
abbrev pub net_outcome : EventValue → (env : List Pair) → OutcomeValue
net_outcome event env = needing_first (net_needs event) (net_id event env)

-- The .link files by which interfaces are named, in order, what was found at paths of the root, and the entries of a database.
pub record Held : Type 0 where
  pub links : List LinkFileValue
  pub files : FilesFound
  pub entries : List Entry

-- the entries, these outcomes, and what was found at each path
abbrev pub known_by : Held → Known
known_by held = record {
  entries = held.entries;
  usb_id = usb_outcome;
  path_id = path_outcome;
  input_id = input_outcome;
  net_id = net_outcome;
  net_lookup = lookup;
  net_setup_link = net_setup_link held.links;
  file = value_of held.files;
}
